-- The queue as answers show it: which records come, go and wait, and where the round is (U13).
-- For a terminal x at the start, inputs and their answers.
use Rattle.std.specs.Prelude.{◌≡◌, Bool, true, false, not, ◌&&◌, ◌||◌, cond, List, [], ◌∷◌, ◌++◌, eqb, length}
use Rattle.rows.specs.Rows.{same, some, first_row, without}
use Rattle.rules.specs.declared.Tables.{Tables}
use Rattle.rules.specs.Record.{credential}
use Rattle.rules.specs.Defaults.{Defaults}
use Rattle.rules.specs.Action.{action}
use Rattle.rules_terminal.specs.Slots.{Seat, Round, anew, after_seat, seat_of, round_of}
use Rattle.rules_terminal.specs.Round.{seats, is_seat, in_turn, valid_round}
use Rattle.rules_terminal.specs.Terminal.{Terminal, Transition, fresh_terminal, is_reset}
use Rattle.rules_terminal.specs.Inputs.{Input, hand_in, take_at, direct}
use Rattle.rules_runs.specs.Events.{sent_by, judges, list_if}
use Rattle.rules.specs.Types.{Bytes}

-- ---- one answer

-- the record that was enqueued
abbrev pub record_kept : Input → Transition → List Bytes
record_kept (hand_in r) a = list_if (eqb a.response.answer 0) r
record_kept (take_at clock capacity) a = []
record_kept (direct q) a = []

-- the record that a take gave out
abbrev pub record_taken : Input → Transition → List Bytes
record_taken (hand_in r) a = []
record_taken (take_at clock capacity) a = list_if (judges (take_at clock capacity) a) a.bytes
record_taken (direct q) a = []

-- the record was permitted, and enters RESET
abbrev pub resets : Input → Transition → Bool
resets (hand_in r) a = false
resets (take_at clock capacity) a = eqb a.response.answer 0 && is_reset (action a.bytes)
resets (direct q) a = eqb a.response.answer 0 && is_reset (action q.bytes)

-- no credential row is added or removed, and the tables are not cleared
abbrev pub Steady : Terminal → Input → Transition → Type 0
Steady x i a = (seats a.terminal.tables ≡ seats x.tables) × (resets i a ≡ false)

-- ---- a run

-- steady throughout
abbrev pub Quiet : Terminal → List Input → List Transition → Type 0
Quiet x [] answers = Unit {0}
Quiet x (i ∷ is) [] = Unit {0}
Quiet x (i ∷ is) (a ∷ answers) = Steady x i a × Quiet a.terminal is answers

-- steady while the record r waits: nothing is asked of the take that hands it out, nor of what comes later
abbrev pub QuietFor : Bytes → Terminal → List Input → List Transition → Type 0
QuietFor r x [] answers = Unit {0}
QuietFor r x (i ∷ is) [] = Unit {0}
QuietFor r x (i ∷ is) (a ∷ answers) = some (same r) (record_taken i a) ≡ false → Steady x i a × QuietFor r a.terminal is answers

-- the terminal is fresh after each record that enters RESET
abbrev pub FreshAfterReset : Defaults → List Input → List Transition → Type 0
FreshAfterReset d [] answers = Unit {0}
FreshAfterReset d (i ∷ is) [] = Unit {0}
FreshAfterReset d (i ∷ is) (a ∷ answers) = (resets i a ≡ true → a.terminal ≡ fresh_terminal d) × FreshAfterReset d is answers

-- a record leaves the queue with its sender's take, or with its credential row
unfoldable pub is_removed : List Bytes → Tables → Bytes → Bool
is_removed taken t r = some (sent_by (credential r)) taken || not (is_seat (seats t) (seat_of r))

-- the records that wait after an answer, where these waited before it; none after RESET
abbrev pub waits_after : List Bytes → Input → Transition → List Bytes
waits_after rs i a = cond (resets i a) [] (without (is_removed (record_taken i a) a.terminal.tables) (rs ++ record_kept i a))

abbrev pub waits_at_end : List Bytes → List Input → List Transition → List Bytes
waits_at_end rs [] answers = rs
waits_at_end rs (i ∷ is) [] = rs
waits_at_end rs (i ∷ is) (a ∷ answers) = waits_at_end (waits_after rs i a) is answers

-- ---- the round

-- the round as it counts: again where the tables do not hold the seat taken last
abbrev pub round_in : Terminal → Round
round_in x = valid_round (seats x.tables) (round_of x.queue)

-- after the sender of the record taken
abbrev pub moved : Round → List Bytes → Round
moved round [] = round
moved round (r ∷ rs) = after_seat (seat_of r)

-- the round after an answer, from the round before it: again after RESET, and once the row of the seat taken last is gone
abbrev pub round_after : Round → Input → Transition → Round
round_after round i a = cond (resets i a) anew (valid_round (seats a.terminal.tables) (moved round (record_taken i a)))

abbrev pub round_at_end : Round → List Input → List Transition → Round
round_at_end round [] answers = round
round_at_end round (i ∷ is) [] = round
round_at_end round (i ∷ is) (a ∷ answers) = round_at_end (round_after round i a) is answers

-- ---- whose turn it is, with this round, these seats and these waiting records

-- the record is that of the seat
unfoldable pub in_seat : Seat → Bytes → Bool
in_seat seat r = same (seat_of r) seat

-- the first seat in turn for which a record waits
unfoldable pub first_seat : Round → List Seat → List Bytes → Seat
first_seat round seats rs = first_row (λ seat. some (in_seat seat) rs) (in_turn round seats)

-- the record that an input gives out: a take that of this seat, if any record waits
abbrev pub taken_next : Round → List Seat → List Bytes → Input → List Bytes
taken_next round seats rs (hand_in r) = []
taken_next round seats rs (take_at clock capacity) = list_if (not (eqb (length rs) 0)) (first_row (in_seat (first_seat round seats rs)) rs)
taken_next round seats rs (direct q) = []

-- each answer gives out this record, where the tables were t and the queue so before the first
abbrev pub TakenInTurn : Tables → Round → List Bytes → List Input → List Transition → Type 0
TakenInTurn t round rs [] answers = Unit {0}
TakenInTurn t round rs (i ∷ is) [] = Unit {0}
TakenInTurn t round rs (i ∷ is) (a ∷ answers) =
    (record_taken i a ≡ taken_next round (seats t) rs i) × TakenInTurn a.terminal.tables (round_after round i a) (waits_after rs i a) is answers
