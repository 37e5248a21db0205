-- The theorems over hand-ins and takes are not empty: a morning at the yard, by computation. The owner has row 5, hauliers have rows 7 and 9.
-- A record of 9 waits at the start. Partner 7 and the unauthenticated senders are chosen, and hand in whenever they can.
use Rattle.rows.proofs.Prelude.{◌≡◌, refl, Bool, true, false, not, ◌&&◌, ◌||◌, List, [], ◌∷◌, ◌++◌, map, ℕ, zero, suc, ◌+◌, arith, not-true}
use Rattle.rows.proofs.Prelude.{replicate, and_left, and_right, or_not_left}
use Rattle.rows.specs.Rows.{same, some}
use Rattle.rules.specs.declared.Tables.{Tables}
use Rattle.rules.specs.Directory.{some_security}
use Rattle.rules.specs.Record.{received}
use Rattle.rules.specs.Tables.{with_state}
use Rattle.rules.specs.Defaults.{no_defaults}
use Rattle.rules.specs.Run.{kept, final}
use Rattle.rules.specs.Isolation.{names_owner, row_alters, may_fit, may_alter}
use Rattle.rules.proofs.Samples.{samples, cred_row, ace_row, weight, haulier, haulier_row, connected, serving, with_creds, yard}
use Rattle.rules_terminal.specs.Slots.{anew, after_seat, slot_of, queue_of, empty_queue}
use Rattle.rules_terminal.specs.Round.{seats, same_seats}
use Rattle.rules_terminal.specs.Terminal.{Terminal, terminal, Transition}
use Rattle.rules_terminal.specs.Inputs.{Input, hand_in, take_at, next, others_turn, turns, records_in, count_of}
use Rattle.rules_terminal.specs.CallRun.{Call, handed_back, all_shown}
use Rattle.rules_terminal.specs.Isolation.{Premises, AsTheBook}
use Rattle.rules_terminal.proofs.Isolated.{turns_isolated}
use Rattle.rules_terminal.proofs.RowsMoved.{seats_are}
use Rattle.rules_runs.specs.Events.{sent_by, newest_of, gathered}
use Rattle.rules_runs.specs.Isolation.{requests_of, BookPremise, Isolated}
use Rattle.rules_runs.specs.Waits.{record_kept, record_taken, resets, Steady, Quiet, QuietFor, round_in, is_removed}
use Rattle.rules_runs.specs.Made.{call_at, calls_at}
use Rattle.rules_runs.proofs.Calls.{handed_isolation, built_served, built_kept_served, built_none_lost}
use Rattle.rules_runs.proofs.Exists.{calls_built}
use Rattle.rules_examples.proofs.Isolation.{chosen7, calm, calm_harmless}
use Rattle.rules_examples.proofs.Waiting.{waiting_definitions, quiet, ask, morning, closed, deleting, storing, resetting, at_once}

unfoldable pub three_rows : Tables
three_rows =
    with_creds (serving (ace_row 1 0 2 0 weight haulier ∷ ace_row 2 2 2 0 weight (connected 0) ∷ []))
    (cred_row 5 ∷ haulier_row 7 ∷ haulier_row 9 ∷ [])

unfoldable pub dawn : Terminal
dawn = terminal three_rows (queue_of anew (slot_of (ask 0x32 9) ∷ []))

-- 7 would give himself all permissions; the owner goes to state 2
unfoldable pub greedy : List ℕ
greedy = 0x50 ∷ 0xc0 ∷ 0 ∷ 7 ∷ ace_row 9 0 31 0 weight haulier

unfoldable pub closing : List ℕ
closing = 0x50 ∷ 0x40 ∷ 0 ∷ 5 ∷ 0x40 ∷ []

-- 7 floods the terminal, and so does an unauthenticated sender; 8 has no row; the owner closes the yard and stores a credential
unfoldable pub flood : List Input
flood =
    hand_in greedy ∷ hand_in (ask 0x32 7) ∷ hand_in closing ∷ hand_in (ask 0x32 9) ∷ hand_in (ask 0x32 8) ∷ hand_in (ask 0x22 0) ∷ take_at 10 0
    ∷ hand_in (ask 0x22 0) ∷ take_at 20 0 ∷ hand_in (storing 11) ∷ take_at 30 0 ∷ hand_in (ask 0x32 7) ∷ take_at 40 0 ∷ take_at 50 0
    ∷ take_at 60 0 ∷ take_at 70 0 ∷ take_at 80 0 ∷ []

-- any calls that meet the contracts; these give just what is promised
unfoldable pub flood_calls : List Call
flood_calls = calls_at no_defaults dawn flood

unfoldable pub flooding : Unit {0}
unfolding waiting_definitions three_rows dawn ask greedy closing storing flood flood_calls sent_by newest_of is_removed
flooding = tt

pub flood_answers : map (λ (c : Call). c.judgement.answer) flood_calls ≡ 0 ∷ 26 ∷ 0 ∷ 26 ∷ 7 ∷ 0 ∷ 0 ∷ 0 ∷ 0 ∷ 0 ∷ 8 ∷ 0 ∷ 11 ∷ 11 ∷ 0 ∷ 11 ∷ 27 ∷ []
unfolding flooding
flood_answers = refl

-- the records judged have the bytes of the hand-ins that were answered with 0, and 9's those that waited at the start
pub flood_requests : requests_of dawn flood (all_shown flood flood_calls)
    ≡ received 10 (ask 0x22 0) 0 ∷ received 20 closing 0 ∷ received 30 greedy 0 ∷ received 40 (ask 0x32 9) 0 ∷ received 50 (ask 0x22 0) 0
    ∷ received 60 (storing 11) 0 ∷ received 70 (ask 0x32 7) 0 ∷ []
unfolding flooding
flood_requests = refl

-- the premise holds while the book is fed what 5 and 9 handed in
pub flood_premise : BookPremise no_defaults chosen7 dawn flood (all_shown flood flood_calls)
unfolding samples three_rows dawn ask greedy closing storing chosen7 calm names_owner row_alters may_fit may_alter some_security
flood_premise _ = rw flood_requests (λ _. calm_harmless _ refl, (λ _. calm_harmless _ refl, (λ _. calm_harmless _ refl, λ _. calm_harmless _ refl)))

-- so these are told what it answers, and the tables at the end are its own, whatever the chosen hand in
pub flood_isolated : Isolated no_defaults chosen7 dawn flood (all_shown flood flood_calls) (handed_back dawn flood_calls)
unfolding flood_calls
flood_isolated = handed_isolation no_defaults dawn flood flood_calls (calls_built no_defaults dawn flood) chosen7 flood_premise

-- the same over the definitions, of only hand-ins and takes
flood_turns_premise : Premises no_defaults chosen7 dawn (kept (others_turn chosen7) (turns no_defaults dawn flood))
unfolding flooding chosen7 calm names_owner row_alters may_fit may_alter some_security
flood_turns_premise _ = (λ _. calm_harmless _ refl, (λ _. calm_harmless _ refl, (λ _. calm_harmless _ refl, λ _. calm_harmless _ refl)))

pub flood_turns_isolated :
    AsTheBook no_defaults chosen7 dawn (kept (others_turn chosen7) (turns no_defaults dawn flood)) (final (next no_defaults) dawn flood).tables
unfolding flood
flood_turns_isolated = turns_isolated no_defaults chosen7 dawn flood refl flood_turns_premise

-- a record that went with its row is not fed again: the take's is the one that was handed in since
unfoldable pub again : List ℕ
again = ask 0x32 7 ++ (1 ∷ [])

unfoldable pub dropping : List Input
dropping = hand_in (ask 0x32 7) ∷ at_once (deleting 7) ∷ at_once (storing 7) ∷ hand_in again ∷ take_at 0 0 ∷ []

pub dropping_requests : requests_of closed dropping (all_shown dropping (calls_at no_defaults closed dropping))
    ≡ received 0 (deleting 7) 0 ∷ received 0 (storing 7) 0 ∷ received 0 again 0 ∷ []
unfolding flooding closed deleting again dropping
dropping_requests = refl

-- ---- no credential row comes or goes, and the tables are not cleared: as a test

unfoldable pub steady : Terminal → Input → Transition → Bool
steady x i a = same_seats (seats a.terminal.tables) (seats x.tables) && not (resets i a)

is_steady : (x : Terminal) (i : Input) (a : Transition) → steady x i a ≡ true → Steady x i a
unfolding steady
is_steady x i a e = (seats_are _ _ (and_left _ _ e), not-true _ (and_right (same_seats (seats a.terminal.tables) (seats x.tables)) _ e))

-- throughout
unfoldable pub steady_all : Terminal → List Input → List Transition → Bool
steady_all x [] answers = true
steady_all x (i ∷ is) [] = true
steady_all x (i ∷ is) (a ∷ answers) = steady x i a && steady_all a.terminal is answers

is_quiet : (x : Terminal) (is : List Input) (answers : List Transition) → steady_all x is answers ≡ true → Quiet x is answers
unfolding steady_all
is_quiet x [] answers e = tt
is_quiet x (i ∷ is) [] e = tt
is_quiet x (i ∷ is) (a ∷ answers) e =
    (is_steady x i a (and_left _ _ e), is_quiet a.terminal is answers (and_right (steady x i a) _ e))

-- until the record is given out
unfoldable pub steady_for : List ℕ → Terminal → List Input → List Transition → Bool
steady_for r x [] answers = true
steady_for r x (i ∷ is) [] = true
steady_for r x (i ∷ is) (a ∷ answers) = some (same r) (record_taken i a) || (steady x i a && steady_for r a.terminal is answers)

is_quiet_for : (r : List ℕ) (x : Terminal) (is : List Input) (answers : List Transition) → steady_for r x is answers ≡ true → QuietFor r x is answers
unfolding steady_for
is_quiet_for r x [] answers e = tt
is_quiet_for r x (i ∷ is) [] e = tt
is_quiet_for r x (i ∷ is) (a ∷ answers) e =
    λ n. let f = or_not_left (some (same r) (record_taken i a)) _ e n in
    (is_steady x i a (and_left _ _ f), is_quiet_for r a.terminal is answers (and_right (steady x i a) _ f))

-- ---- within 25 takes: 9 hands in, and 7 before each take

unfoldable pub pressed : ℕ → List Input
pressed zero = []
pressed (suc n) = hand_in (ask 0x32 7) ∷ take_at n 0 ∷ pressed n

unfoldable pub opened : Terminal
opened = terminal three_rows empty_queue

unfoldable pub pressed_calls : List Call
pressed_calls = calls_at no_defaults opened (hand_in (ask 0x32 9) ∷ pressed 25)

-- the second take hands it out: nothing is asked of that take and of what comes later
pub pressed_served : some (same (ask 0x32 9)) (gathered record_taken (pressed 25)
    (all_shown (pressed 25) (calls_at no_defaults (next no_defaults opened (hand_in (ask 0x32 9))) (pressed 25)))) ≡ true
unfolding flooding pressed opened steady_for steady
pressed_served =
    let is = pressed 25 in
    let x = next no_defaults opened (hand_in (ask 0x32 9)) in
    built_kept_served no_defaults opened (ask 0x32 9) (call_at no_defaults opened (hand_in (ask 0x32 9))) is (calls_at no_defaults x is)
    (calls_built no_defaults opened (hand_in (ask 0x32 9) ∷ is)) refl
    (is_quiet_for (ask 0x32 9) x is (all_shown is (calls_at no_defaults x is)) refl) (omega arith)

-- ---- a record that goes to RESET is served too: its own take clears the tables, so that the run as a whole is not steady

unfoldable pub reset_waits : Terminal
reset_waits = terminal (with_state yard 2) (queue_of anew (slot_of (ask 0x22 0) ∷ slot_of resetting ∷ []))

unfoldable pub takes_alone : List Input
takes_alone = replicate 25 (take_at 0 0)

pub reset_served : some (same resetting) (gathered record_taken takes_alone (all_shown takes_alone (calls_at no_defaults reset_waits takes_alone))) ≡ true
unfolding flooding resetting reset_waits takes_alone steady_for steady
reset_served =
    let cs = calls_at no_defaults reset_waits takes_alone in
    built_served no_defaults reset_waits takes_alone cs (calls_built no_defaults reset_waits takes_alone) refl resetting refl
    (is_quiet_for resetting reset_waits takes_alone (all_shown takes_alone cs) refl) (omega arith)

pub reset_disturbs : steady_all reset_waits takes_alone (all_shown takes_alone (calls_at no_defaults reset_waits takes_alone)) ≡ false
unfolding flooding resetting reset_waits takes_alone steady_all steady
reset_disturbs = refl

-- ---- none is lost: the morning of Waiting, with a hand-in too many, a sender without a row, and a take too many

pub morning_none_lost : (p : List ℕ → Bool)
    → count_of p (gathered record_taken morning (all_shown morning (calls_at no_defaults quiet morning)))
    + count_of p (records_in (handed_back quiet (calls_at no_defaults quiet morning)))
    ≡ count_of p (records_in quiet) + count_of p (gathered record_kept morning (all_shown morning (calls_at no_defaults quiet morning)))
unfolding flooding quiet morning steady_all steady
morning_none_lost p =
    let cs = calls_at no_defaults quiet morning in
    built_none_lost no_defaults quiet morning cs (calls_built no_defaults quiet morning) refl p (is_quiet quiet morning (all_shown morning cs) refl)

-- ---- a take's record that removes rows, or enters RESET

-- an unauthenticated sender, 7 and 5 hand in, and two records are taken: the second is 5's
unfoldable pub after_take : List ℕ → Terminal
after_take r = final (next no_defaults) closed (hand_in (ask 0x22 0) ∷ hand_in (ask 0x32 7) ∷ hand_in r ∷ take_at 0 0 ∷ take_at 0 0 ∷ [])

-- 5 deletes row 7, whose record goes; 5 deletes its own row, and the round starts over; 5 goes to RESET, and nothing waits
pub taken_waits : map (λ (r : List ℕ). records_in (after_take r)) (deleting 7 ∷ deleting 5 ∷ resetting ∷ []) ≡ [] ∷ (ask 0x32 7 ∷ []) ∷ [] ∷ []
unfolding flooding closed deleting resetting after_take
taken_waits = refl

pub taken_rounds : map (λ (r : List ℕ). round_in (after_take r)) (deleting 7 ∷ deleting 5 ∷ resetting ∷ []) ≡ after_seat (0 ∷ 5 ∷ []) ∷ anew ∷ anew ∷ []
unfolding flooding closed deleting resetting after_take
taken_rounds = refl
