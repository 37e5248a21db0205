-- The records judged in a run: their order comes from the takes, their bytes from the hand-ins and from the queue at the start (U13).
-- A take has three numbers that are used: the credential number of the sender whose turn it was, the clock, and the length of the reply buffer.
use Rattle.std.specs.Prelude.{Bool, false, not, ◌||◌, cond, List, [], ◌∷◌, ◌++◌, eqb}
use Rattle.rows.specs.Rows.{first_row, without}
use Rattle.rules.specs.Record.{Request, received, credential}
use Rattle.rules.specs.Outcome.{Response}
use Rattle.rules_terminal.specs.Terminal.{Transition, Terminal, direct_checks, due, hand_in_checks, take_checks}
use Rattle.rules_terminal.specs.Inputs.{Input, hand_in, take_at, direct, collected, next}
use Rattle.rules.specs.Types.{Bytes, Clock, Number, Size}
use Rattle.rules.specs.Checks.{verdict}
use Rattle.rules.specs.Defaults.{Defaults}
use Rattle.rules.specs.declared.Check.{Check}
use Rattle.rules.specs.declared.Check.TheVariants.{Pass, Refuse}

pub data Event : Type 0 where
  -- this record was handed in, and answered with 0
  enqueued : Bytes → Event
  -- a take that was not answered with 1 or 27: the credential number of the sender whose turn it was (0: unauthenticated
  -- senders), the clock, and the length of the reply buffer
  dequeued : Number → Clock → Size → Event
  -- this record was judged directly, and not answered with 1
  immediate : Request → Event

-- the record carries this credential number
unfoldable pub sent_by : Number → Bytes → Bool
sent_by number r = eqb (credential r) number

-- the first of the records that carries the number; no bytes where none does
unfoldable pub newest_of : Number → List Bytes → Bytes
newest_of number rs = first_row (sent_by number) rs

-- the requests judged, in order. The list holds the records of the queue at the start and those enqueued since, the newest first.
-- A take judges the newest record of its sender, and then the list has none of that sender.
-- A record that was dropped may stay in the list: its sender has no turn before it hands in again, and then the newer record is found.
abbrev pub requests : List Bytes → List Event → List Request
requests rs [] = []
requests rs (enqueued r ∷ es) = requests (r ∷ rs) es
requests rs (dequeued number clock capacity ∷ es) = received clock (newest_of number rs) capacity ∷ requests (without (sent_by number) rs) es
requests rs (immediate q ∷ es) = q ∷ requests rs es

-- that list after these events
abbrev pub records_after : List Bytes → List Event → List Bytes
records_after rs [] = rs
records_after rs (enqueued r ∷ es) = records_after (r ∷ rs) es
records_after rs (dequeued number clock capacity ∷ es) = records_after (without (sent_by number) rs) es
records_after rs (immediate q ∷ es) = records_after rs es

-- ---- what the answers of a run show

-- the input's record was judged: at a take, not with 1 or 27; directly, not with 1
abbrev pub judges : Input → Transition → Bool
judges (hand_in r) a = false
judges (take_at clock capacity) a = not (eqb a.response.answer 1 || eqb a.response.answer 27)
judges (direct q) a = not (eqb a.response.answer 1)

abbrev pub list_if : {A : Type 0} → Bool → A → List A
list_if applies value = cond applies (value ∷ []) []

-- of a record that a take gave out only its credential number
abbrev pub event_of : Input → Transition → List Event
event_of (hand_in r) a = list_if (eqb a.response.answer 0) (enqueued r)
event_of (take_at clock capacity) a = list_if (judges (take_at clock capacity) a) (dequeued (credential a.bytes) clock capacity)
event_of (direct q) a = list_if (judges (direct q) a) (immediate q)

-- the response to a judged record
abbrev pub responses_of : Input → Transition → List Response
responses_of i a = list_if (judges i a) a.response

-- all that the answers show, one after the other
abbrev pub gathered : {A : Type 0} → (Input → Transition → List A) → List Input → List Transition → List A
gathered f [] answers = []
gathered f (i ∷ is) [] = []
gathered f (i ∷ is) (a ∷ answers) = f i a ++ gathered f is answers

-- ---- the same by the definitions

-- an event where the checks pass
abbrev pub event_if : Event → Check → List Event
event_if e Pass = e ∷ []
event_if e (Refuse n) = []

-- the event of an input
abbrev pub event_at : Terminal → Input → List Event
event_at x (hand_in r) = event_if (enqueued r) (verdict (hand_in_checks x r))
event_at x (take_at clock capacity) = event_if (dequeued (credential (due x)) clock capacity) (verdict (take_checks x))
event_at x (direct q) = event_if (immediate q) (verdict (direct_checks x))

-- of a run
abbrev pub events : Defaults → Terminal → List Input → List Event
events d = collected (next d) event_at
