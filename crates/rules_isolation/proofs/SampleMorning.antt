-- A morning with two yards on one plate, so that the theorems are not empty. Partner 7 is yard A's haulier, 8 and 11 are yard B's, 5 is the owner.
-- A asserts a role, B tries to reset the terminal, and the owner goes to RFPRO, stores a new haulier's credential row and comes back.
use Rattle.rows.proofs.Prelude.{◌≡◌, refl, sym, ◌∙◌, true, replicate, List, [], ◌∷◌, map, ℕ, eqb-true, contradiction, or-false}
use Rattle.rules.specs.declared.Sender.TheVariants.{Unauthenticated, Partner}
use Rattle.rules.specs.Defaults.{no_defaults}
use Rattle.rules.proofs.Samples.{lent, cred_row, with_creds, serving, ace_row, weight, connected, haulier_row}
use Rattle.rules_terminal.specs.Slots.{seat_of, padded, slot_of, record_of, round_of, waiting, queue_of, empty_queue}
use Rattle.rules_terminal.specs.Round.{seats, is_seat, occupied, start, in_turn, first_in_turn, same_seats, orphaned}
use Rattle.rules_terminal.specs.Terminal.{Terminal, terminal, slot_sound, queue_sound, sound_terminal, with_record}
use Rattle.rules_terminal.specs.Terminal.{handed_in, clears, queue_after, turn, due, taken, judged}
use Rattle.rules_terminal.specs.Inputs.{Input, hand_in, take_at, direct, Turn, turn_response}
use Rattle.rules_terminal.specs.CallRun.{Call, handed_back, all_shown}
use Rattle.rules_runs.specs.Events.{sent_by, newest_of}
use Rattle.rules_runs.specs.Made.{calls_at}
use Rattle.rules_runs.proofs.Exists.{calls_built}
use Rattle.rules_isolation.specs.Question.{chosen_by}
use Rattle.rules_isolation.specs.Service.{endangering, others_endanger, turns_handed}
use Rattle.rules_isolation.specs.Yards.{of_yards, Disjoint, book_turns, turns_of, requests_without, BothAlone}
use Rattle.rules_isolation.proofs.SampleAnswers.{question}
use Rattle.rules_isolation.proofs.BuiltYards.{built_two_yards_quiet}

-- `unfolding service` opens the question, and the terminal with its queue
service : Unit {0}
unfolding question endangering seat_of padded slot_of record_of round_of waiting queue_of seats is_seat occupied start in_turn first_in_turn orphaned
    slot_sound queue_sound sound_terminal with_record handed_in clears same_seats queue_after turn due taken judged sent_by newest_of
service = tt

-- every partner may read resource 8
unfoldable pub plate : Terminal
plate =
    terminal
    (with_creds (serving (ace_row 1 2 2 0 weight (connected 1) ∷ [])) (cred_row 5 ∷ haulier_row 7 ∷ haulier_row 8 ∷ []))
    empty_queue

abbrev pub yard_a : List ℕ
yard_a = 0 ∷ 7 ∷ []

abbrev pub yard_b : List ℕ
yard_b = 0 ∷ 8 ∷ 0 ∷ 11 ∷ []

unfoldable pub morning : List Input
morning =
    hand_in (0x32 ∷ 0x00 ∷ 0x00 ∷ 0x07 ∷ [])
    ∷ direct (lent (0x50 ∷ 0x40 ∷ 0x00 ∷ 0x08 ∷ 0x00 ∷ []))
    ∷ direct (lent (0x51 ∷ 0x00 ∷ 0x00 ∷ 0x07 ∷ 0x00 ∷ 0x01 ∷ 0x00 ∷ 0x09 ∷ 0xff ∷ 0xff ∷ 0xff ∷ 0xff ∷ []))
    ∷ direct (lent (0x50 ∷ 0x40 ∷ 0x00 ∷ 0x05 ∷ 0x40 ∷ []))
    ∷ direct (lent (0x50 ∷ 0x80 ∷ 0x00 ∷ 0x05 ∷ haulier_row 9))
    ∷ direct (lent (0x50 ∷ 0x40 ∷ 0x00 ∷ 0x05 ∷ 0x60 ∷ []))
    ∷ take_at 0 0
    ∷ direct (lent (0x32 ∷ 0x00 ∷ 0x00 ∷ 0x08 ∷ []))
    ∷ []

-- any calls that meet the contracts; these give just what is promised
unfoldable pub morning_calls : List Call
morning_calls = calls_at no_defaults plate morning

abbrev pub answers : List Turn → List ℕ
answers us = map (λ (u : Turn). (turn_response u).answer) us

-- of the records judged, as they were handed in
pub plate_answers : answers (turns_handed plate morning (all_shown morning morning_calls)) ≡ 8 ∷ 0 ∷ 0 ∷ 0 ∷ 0 ∷ 0 ∷ 0 ∷ []
unfolding service plate morning morning_calls
plate_answers = refl

disjoint : Disjoint yard_a yard_b
unfolding service
disjoint Unauthenticated c = contradiction c refl
disjoint (Partner n) c = let is = eqb-true 7 n (sym (or-false _) ∙ c) in rw (← is)

-- each yard has its morning as if the other were not there
pub morning_alone : BothAlone no_defaults yard_a yard_b plate morning (all_shown morning morning_calls) (handed_back plate morning_calls)
unfolding service plate morning morning_calls
morning_alone = built_two_yards_quiet no_defaults plate morning morning_calls (calls_built no_defaults plate morning) yard_a yard_b disjoint (refl, (refl, tt)) refl

-- ---- asking again is needed: the owner lets every partner update pstat, which endangers both yards, and A resets the terminal

unfoldable pub ended : List Input
ended =
    direct (lent (0x50 ∷ 0x40 ∷ 0x00 ∷ 0x05 ∷ 0x40 ∷ []))
    ∷ direct (lent (0x50 ∷ 0xc0 ∷ 0x00 ∷ 0x05 ∷ ace_row 2 2 4 0 (0x40 ∷ replicate 7 0) (connected 1)))
    ∷ direct (lent (0x50 ∷ 0x40 ∷ 0x00 ∷ 0x05 ∷ 0x60 ∷ []))
    ∷ direct (lent (0x50 ∷ 0x40 ∷ 0x00 ∷ 0x07 ∷ 0x00 ∷ []))
    ∷ direct (lent (0x32 ∷ 0x00 ∷ 0x00 ∷ 0x08 ∷ []))
    ∷ []

unfoldable pub ended_calls : List Call
ended_calls = calls_at no_defaults plate ended

-- what yard B is answered: it has no credential row any more; without A's record it reads the weight
pub ended_answers :
    let us = turns_handed plate ended (all_shown ended ended_calls) in
    let book = book_turns no_defaults plate.tables (requests_without (chosen_by yard_a) us) in
    (others_endanger (of_yards (yard_a ∷ yard_b ∷ [])) us ≡ true)
    × (answers (turns_of (chosen_by yard_b) us) ≡ 7 ∷ [])
    × (answers (turns_of (chosen_by yard_b) book) ≡ 0 ∷ [])
unfolding service plate ended ended_calls
ended_answers = (refl, refl, refl)
