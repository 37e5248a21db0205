-- Hand-ins and takes at the yard: the owner has row 5, a haulier row 7.
use Rattle.rows.proofs.Prelude.{◌≡◌, refl, List, [], ◌∷◌, ◌++◌, map, ℕ, take, drop, replicate}
use Rattle.rules.specs.Tables.{with_state}
use Rattle.rules.specs.Record.{received}
use Rattle.rules.specs.Defaults.{no_defaults}
use Rattle.rules.specs.Run.{replies}
use Rattle.rules.proofs.Samples.{samples, cred_row, yard}
use Rattle.rules_terminal.specs.Slots.{anew, after_seat, seat_of, padded, slot_of, record_of, round_of, waiting, queue_of, empty_queue}
use Rattle.rules_terminal.specs.Round.{seats, is_seat, occupied, start, in_turn, first_in_turn, same_seats, orphaned}
use Rattle.rules_terminal.specs.Terminal.{Terminal, terminal, slot_sound, queue_sound, sound_terminal, with_record}
use Rattle.rules_terminal.specs.Terminal.{handed_in, clears, queue_after, turn, due, taken, judged}
use Rattle.rules_terminal.specs.Inputs.{Input, hand_in, take_at, direct, transition, next, bytes_of, turns}

-- `unfolding waiting_definitions` opens all that its own line names
unfoldable pub waiting_definitions : Unit {0}
unfolding samples seat_of padded slot_of record_of round_of waiting queue_of seats is_seat occupied start in_turn first_in_turn orphaned slot_sound queue_sound
    sound_terminal with_record handed_in clears same_seats queue_after turn due taken judged
waiting_definitions = tt

unfoldable pub quiet : Terminal
quiet = terminal yard empty_queue

-- RETRIEVE of the weight, by this connection's verb byte and credential number
unfoldable pub ask : ℕ → ℕ → List ℕ
ask v n = v ∷ 0 ∷ 0 ∷ n ∷ []

-- the answer of each input
abbrev pub answer_to : Terminal → Input → ℕ
answer_to x i = (transition no_defaults x i).response.answer

-- 7, 5 and an unauthenticated sender hand in, 7 again, and one without a row; four takes
unfoldable pub morning : List Input
morning =
    hand_in (ask 0x32 7) ∷ hand_in (ask 0x32 5) ∷ hand_in (ask 0x22 0) ∷ hand_in (ask 0x32 7)
    ∷ hand_in (ask 0x32 9) ∷ take_at 0 0 ∷ take_at 0 0 ∷ take_at 0 0 ∷ take_at 0 0 ∷ []

pub morning_answers : replies answer_to (next no_defaults) quiet morning ≡ 0 ∷ 0 ∷ 0 ∷ 26 ∷ 7 ∷ 0 ∷ 8 ∷ 0 ∷ 27 ∷ []
unfolding waiting_definitions quiet ask morning
morning_answers = refl

-- in the order of the seats, whatever the order of the hand-ins
pub morning_turns : map bytes_of (turns no_defaults quiet morning) ≡ ask 0x22 0 ∷ ask 0x32 5 ∷ ask 0x32 7 ∷ []
unfolding waiting_definitions quiet ask morning
morning_turns = refl

-- ---- rows that go, stay and come, in state 2

unfoldable pub closed : Terminal
closed = terminal (with_state yard 2) empty_queue

-- the owner deletes a row, stores one, and goes to RESET
unfoldable pub deleting : ℕ → List ℕ
deleting n = 0x70 ∷ 0x80 ∷ 0 ∷ 5 ∷ 0 ∷ n ∷ []

unfoldable pub storing : ℕ → List ℕ
storing n = 0x50 ∷ 0x80 ∷ 0 ∷ 5 ∷ cred_row n

unfoldable pub resetting : List ℕ
resetting = 0x50 ∷ 0x40 ∷ 0 ∷ 5 ∷ 0 ∷ []

abbrev pub at_once : List ℕ → Input
at_once r = direct (received 0 r 0)

-- a take's record deletes row 7, whose record goes with it; one that is judged directly does the same
pub removing : List Input
removing = hand_in (ask 0x32 7) ∷ hand_in (deleting 7) ∷ take_at 0 0 ∷ take_at 0 0 ∷ []

pub removing_answers : replies answer_to (next no_defaults) closed removing ≡ 0 ∷ 0 ∷ 0 ∷ 27 ∷ []
unfolding waiting_definitions closed ask deleting removing
removing_answers = refl

pub removing_direct : replies answer_to (next no_defaults) closed (hand_in (ask 0x32 7) ∷ hand_in (ask 0x22 0) ∷ at_once (deleting 7) ∷ take_at 0 0 ∷ take_at 0 0 ∷ [])
    ≡ 0 ∷ 0 ∷ 0 ∷ 11 ∷ 27 ∷ []
unfolding waiting_definitions closed ask deleting
removing_direct = refl

-- replacing row 7 keeps its record; RESET leaves none
pub replacing_answers : replies answer_to (next no_defaults) closed
    (hand_in (ask 0x32 7) ∷ at_once (storing 7) ∷ hand_in (ask 0x32 7) ∷ take_at 0 0 ∷ take_at 0 0 ∷ [])
    ≡ 0 ∷ 0 ∷ 26 ∷ 8 ∷ 27 ∷ []
unfolding waiting_definitions closed ask storing
replacing_answers = refl

pub resetting_answers : replies answer_to (next no_defaults) closed (hand_in (ask 0x32 7) ∷ hand_in (ask 0x22 0) ∷ at_once resetting ∷ take_at 0 0 ∷ [])
    ≡ 0 ∷ 0 ∷ 0 ∷ 27 ∷ []
unfolding waiting_definitions closed ask resetting
resetting_answers = refl

-- seat 7 was taken last; its row goes, and comes again with another after it: the round starts over, with the unauthenticated seat
pub returning : List Input
returning =
    hand_in (ask 0x32 7) ∷ take_at 0 0 ∷ at_once (deleting 7) ∷ at_once (storing 7) ∷ at_once
    (storing 9) ∷ hand_in (ask 0x32 9) ∷ hand_in (ask 0x22 0) ∷ take_at 0 0 ∷ take_at 0 0 ∷ []

pub returning_turns : map bytes_of (turns no_defaults closed returning) ≡ ask 0x32 7 ∷ ask 0x22 0 ∷ ask 0x32 9 ∷ []
unfolding waiting_definitions closed ask deleting storing returning
returning_turns = refl

-- had the row stayed, row 9 would be next
pub staying : List Input
staying = hand_in (ask 0x32 7) ∷ take_at 0 0 ∷ at_once (storing 9) ∷ hand_in (ask 0x32 9) ∷ hand_in (ask 0x22 0) ∷ take_at 0 0 ∷ take_at 0 0 ∷ []

pub staying_turns : map bytes_of (turns no_defaults closed staying) ≡ ask 0x32 7 ∷ ask 0x32 9 ∷ ask 0x22 0 ∷ []
unfolding waiting_definitions closed ask storing staying
staying_turns = refl

-- the start tables do not hold the seat taken last: the round starts over, also once a row with that number comes
pub elsewhere : Terminal
elsewhere = terminal (with_state yard 2) (queue_of (after_seat (0 ∷ 9 ∷ [])) [])

pub elsewhere_turns : map bytes_of (turns no_defaults elsewhere
    (at_once (storing 9) ∷ at_once (storing 10) ∷ hand_in (ask 0x32 10) ∷ hand_in (ask 0x22 0) ∷ take_at 0 0 ∷ take_at 0 0 ∷ []))
    ≡ ask 0x22 0 ∷ ask 0x32 10 ∷ []
unfolding waiting_definitions elsewhere ask storing
elsewhere_turns = refl

-- ---- check 1: two that are sound; memory that is too short, claims 26 records, has bytes of a seat though the round starts over, has
-- ---- a round's first byte that is neither 0 nor 1, or a byte after the slots; that keeps a record in another's seat, one without a row,
-- ---- one with a byte after it, or two in one seat

pub beside : List ℕ → Terminal
beside m = terminal yard m

pub unsound_answers :
    map (λ m. (taken no_defaults (beside m) 0 0).response.answer)
    (queue_of anew (slot_of (ask 0x32 7) ∷ [])
    ∷ (0 ∷ 1 ∷ 0 ∷ 7 ∷ replicate 6500 0)
    ∷ replicate 6503 0
    ∷ (26 ∷ replicate 6503 0)
    ∷ (0 ∷ 0 ∷ 0 ∷ 7 ∷ replicate 6500 0)
    ∷ (0 ∷ 2 ∷ 0 ∷ 7 ∷ replicate 6500 0)
    ∷ (take 6503 (queue_of anew (slot_of (ask 0x32 7) ∷ [])) ++ (1 ∷ []))
    ∷ queue_of anew ((0 ∷ 5 ∷ drop 2 (slot_of (ask 0x32 7))) ∷ [])
    ∷ queue_of anew (slot_of (ask 0x32 9) ∷ [])
    ∷ queue_of anew ((take 259 (slot_of (ask 0x32 7)) ++ (1 ∷ [])) ∷ [])
    ∷ queue_of anew (slot_of (ask 0x32 7) ∷ slot_of (ask 0x32 7) ∷ [])
    ∷ [])
    ≡ 0 ∷ 27 ∷ 1 ∷ 1 ∷ 1 ∷ 1 ∷ 1 ∷ 1 ∷ 1 ∷ 1 ∷ 1 ∷ []
unfolding waiting_definitions beside ask
unsound_answers = refl
