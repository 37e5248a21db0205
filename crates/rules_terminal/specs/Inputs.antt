-- A run of hand-ins and takes, with records that are judged directly among them: what is judged, in order, and what the book of 01 is fed.
use Rattle.std.specs.Prelude.{ℕ, suc, ◌+◌, ◌≡◌, Bool, true, false, not, ◌&&◌, cond, List, [], ◌∷◌, ◌++◌, map}
use Rattle.rows.specs.Rows.{Row, has_key, without}
use Rattle.rules.specs.declared.Tables.{Tables}
use Rattle.rules.specs.declared.Check.{Check}
use Rattle.rules.specs.declared.Check.TheVariants.{Pass, Refuse}
use Rattle.rules.specs.declared.Sender.{Sender}
use Rattle.rules.specs.Record.{Request, received, sender}
use Rattle.rules.specs.Defaults.{Defaults}
use Rattle.rules.specs.Checks.{verdict, is_pass}
use Rattle.rules.specs.Outcome.{Response, response_to, tables_after}
use Rattle.rules.specs.Run.{final, kept}
use Rattle.rules_terminal.specs.Slots.{record_of, waiting}
use Rattle.rules_terminal.specs.Round.{seats, orphaned}
use Rattle.rules_terminal.specs.Terminal.{Terminal, Transition, hand_in_checks, handed_in, clears, take_checks, turn, due, taken, direct_checks, judged}
use Rattle.rules.specs.Types.{Bytes, Clock, Size}

-- a record is handed in; a take at a clock, with a reply buffer of a length; a record is judged directly
pub data Input : Type 0 where
  hand_in : Bytes → Input
  take_at : Clock → Size → Input
  direct : Request → Input

abbrev pub transition : Defaults → Terminal → Input → Transition
transition d x (hand_in r) = handed_in x r
transition d x (take_at clock capacity) = taken d x clock capacity
transition d x (direct q) = judged d x q

abbrev pub next : Defaults → Terminal → Input → Terminal
next d x i = (transition d x i).terminal

module _ {State Input Output : Type 0} (next : State → Input → State) (out : State → Input → List Output) where
  -- all that the inputs give, one after the other
  abbrev pub collected : State → List Input → List Output
  collected s [] = []
  collected s (i ∷ is) = out s i ++ collected (next s i) is

-- ---- the records that are judged

-- a record that was judged, at its clock and with its buffer, and the response
pub record Turn : Type 0 where
  pub request : Request
  pub response : Response

-- with 1, and with 27, there is none
abbrev pub turn_if : Defaults → Terminal → Request → Check → List Turn
turn_if d x q Pass = record { request = q; response = response_to d x.tables q } ∷ []
turn_if d x q (Refuse n) = []

abbrev pub turns_at : Defaults → Terminal → Input → List Turn
turns_at d x (hand_in r) = []
turns_at d x (take_at clock capacity) = turn_if d x (received clock (due x) capacity) (verdict (take_checks x))
turns_at d x (direct q) = []

-- the records taken, in the order of their takes
abbrev pub turns : Defaults → Terminal → List Input → List Turn
turns d = collected (next d) (turns_at d)

abbrev pub judged_at : Defaults → Terminal → Input → List Turn
judged_at d x (hand_in r) = []
judged_at d x (take_at clock capacity) = turn_if d x (received clock (due x) capacity) (verdict (take_checks x))
judged_at d x (direct q) = turn_if d x q (verdict (direct_checks x))

-- and with them those judged directly: of only hand-ins and takes, the records taken
abbrev pub all_judged : Defaults → Terminal → List Input → List Turn
all_judged d = collected (next d) (judged_at d)

abbrev pub request_of : Turn → Request
request_of turn = turn.request

abbrev pub turn_response : Turn → Response
turn_response turn = turn.response

abbrev pub bytes_of : Turn → Bytes
bytes_of turn = turn.request.bytes

-- the turn is one of the others'
abbrev pub others_turn : (Sender → Bool) → Turn → Bool
others_turn chosen turn = not (chosen (sender (bytes_of turn)))

-- no record is judged directly
abbrev pub none_direct : List Input → Bool
none_direct [] = true
none_direct (hand_in r ∷ is) = none_direct is
none_direct (take_at clock capacity ∷ is) = none_direct is
none_direct (direct q ∷ is) = false

-- ---- within 25 takes

-- how many takes there are
abbrev pub takes : List Input → ℕ
takes [] = 0
takes (hand_in r ∷ is) = takes is
takes (take_at clock capacity ∷ is) = suc (takes is)
takes (direct q ∷ is) = takes is

-- the input's record clears the tables
abbrev pub clearing : Defaults → Terminal → Input → Bool
clearing d x (hand_in r) = false
clearing d x (take_at clock capacity) = is_pass (verdict (take_checks x)) && clears d x.tables (received clock (due x) capacity)
clearing d x (direct q) = is_pass (verdict (direct_checks x)) && clears d x.tables q

-- no credential row is added or removed, and the tables are not cleared
abbrev pub Undisturbed : Defaults → Terminal → List Input → Type 0
Undisturbed d x [] = Unit {0}
Undisturbed d x (i ∷ is) = (seats (next d x i).tables ≡ seats x.tables) × (clearing d x i ≡ false) × Undisturbed d (next d x i) is

-- ---- where records come from, and go

-- the records that wait
abbrev pub records_in : Terminal → List Bytes
records_in x = map record_of (waiting x.queue)

-- the records handed in that are kept
abbrev pub record_if : Bytes → Check → List Bytes
record_if r Pass = r ∷ []
record_if r (Refuse n) = []

abbrev pub kept_at : Defaults → Terminal → Input → List Bytes
kept_at d x (hand_in r) = record_if r (verdict (hand_in_checks x r))
kept_at d x (take_at clock capacity) = []
kept_at d x (direct q) = []

abbrev pub all_kept : Defaults → Terminal → List Input → List Bytes
all_kept d = collected (next d) (kept_at d)

-- the waiting records that are dropped: with their credential rows, or all where the tables are cleared
abbrev pub dropped_by : Defaults → Tables → Request → List Row → Check → List Bytes
dropped_by d t q slots Pass = map record_of (cond (clears d t q) slots (kept (orphaned (seats (tables_after d t q))) slots))
dropped_by d t q slots (Refuse n) = []

abbrev pub dropped_at : Defaults → Terminal → Input → List Bytes
dropped_at d x (hand_in r) = []
dropped_at d x (take_at clock capacity) =
    dropped_by d x.tables (received clock (due x) capacity) (without (has_key 0 (turn x)) (waiting x.queue)) (verdict (take_checks x))
dropped_at d x (direct q) = dropped_by d x.tables q (waiting x.queue) (verdict (direct_checks x))

abbrev pub all_dropped : Defaults → Terminal → List Input → List Bytes
all_dropped d = collected (next d) (dropped_at d)

-- how many of the records pass a test
unfoldable pub count_of : (Bytes → Bool) → List Bytes → ℕ
count_of passes [] = 0
count_of passes (r ∷ rs) = cond (passes r) 1 0 + count_of passes rs

-- of the records that pass a test, those taken, dropped and waiting at the end are as many as waited at the start and were kept
abbrev pub Balance : (List ℕ → Bool) → Defaults → Terminal → List Input → Type 0
Balance p d x is =
    count_of p (map bytes_of (turns d x is)) + (count_of p (all_dropped d x is) + count_of p (records_in (final (next d) x is)))
    ≡ count_of p (records_in x) + count_of p (all_kept d x is)
