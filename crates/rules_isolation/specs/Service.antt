-- Isolation in service: what a record of somebody else may do that ends it.
-- It is read only in the record and its answer, not in the tables.
use Rattle.std.specs.Prelude.{ℕ, ◌<◌, ◌≡◌, Bool, true, false, ◌&&◌, ◌||◌, List, [], ◌∷◌, eqb, leb}
use Rattle.rules.specs.declared.Tables.{Tables}
use Rattle.rules.specs.declared.Table.TheVariants.{Creds, Aces}
use Rattle.rules.specs.declared.Action.{Action}
use Rattle.rules.specs.declared.Action.TheVariants.{Serve, Read, SetRowOwner, SetOwner, SetState, Store, Remove, Assert, Malformed}
use Rattle.rules.specs.declared.Sender.{Sender}
use Rattle.rules.specs.declared.Sender.TheVariants.{Partner}
use Rattle.rules.specs.Record.{Request, update, verb, resource, body}
use Rattle.rules.specs.Directory.{acl2}
use Rattle.rules.specs.Bodies.{row_number}
use Rattle.rules.specs.Tables.{row_of}
use Rattle.rules.specs.Action.{action}
use Rattle.rules.specs.States.{reset}
use Rattle.rules.specs.Outcome.{Response}
use Rattle.rules.specs.Run.{kept}
use Rattle.rules.specs.Isolation.{row_alters}
use Rattle.rules_terminal.specs.Terminal.{Terminal, Transition}
use Rattle.rules_terminal.specs.Inputs.{Input, Turn, bytes_of, turn_response, others_turn}
use Rattle.rules_runs.specs.Events.{requests, records_after, event_of, responses_of}
use Rattle.rules_runs.specs.Isolation.{requests_of, all_responses}
use Rattle.rules.specs.Types.{Bytes}

-- by the action, with the body b: an owner is set, the terminal is cleared, a credential row with a chosen partner's
-- number is stored, or an access row that gives create, update or delete on a security resource
abbrev pub endangers : (Sender → Bool) → Bytes → Action → Bool
endangers chosen b Serve = false
endangers chosen b Read = false
endangers chosen b (SetRowOwner n) = true
endangers chosen b (SetOwner owned) = true
endangers chosen b (SetState target) = eqb target reset
endangers chosen b (Store Creds) = chosen (Partner (row_number (row_of Creds b)))
endangers chosen b (Store Aces) = row_alters (row_of Aces b)
endangers chosen b (Remove table key) = false
endangers chosen b (Assert connection) = false
endangers chosen b Malformed = false

-- ---- a record that was judged, and several

abbrev pub was_permitted : Turn → Bool
was_permitted turn = eqb (turn_response turn).answer 0

unfoldable pub endangering : (Sender → Bool) → Turn → Bool
endangering chosen turn = was_permitted turn && endangers chosen (body (bytes_of turn)) (action (bytes_of turn))

-- so much of it is in the header: a permitted UPDATE of doxm, pstat, cred or acl2
unfoldable pub updating : Turn → Bool
updating turn = was_permitted turn && eqb (verb (bytes_of turn)) update && leb (resource (bytes_of turn)) acl2

-- some of these passes the test
abbrev pub some_turn : (Turn → Bool) → List Turn → Bool
some_turn passes [] = false
some_turn passes (turn ∷ turns) = passes turn || some_turn passes turns

-- somebody else endangers the chosen
abbrev pub others_endanger : (Sender → Bool) → List Turn → Bool
others_endanger chosen turns = some_turn (endangering chosen) (kept (others_turn chosen) turns)

-- ---- a run, of inputs and their answers. The bytes of the records are those of the hand-ins and of the queue at the start

-- each request with the response to its sender
abbrev pub paired : List Request → List Response → List Turn
paired [] ys = []
paired (q ∷ qs) [] = []
paired (q ∷ qs) (y ∷ ys) = record { request = q; response = y } ∷ paired qs ys

-- the records judged, from the terminal x on
abbrev pub turns_handed : Terminal → List Input → List Transition → List Turn
turns_handed x is answers = paired (requests_of x is answers) (all_responses is answers)

-- after each answer by which somebody else endangers the chosen, the tables are such (as: the question is answered 'isolated' again);
-- `rs` are the records that wait at the start
abbrev pub Again : (Sender → Bool) → (Tables → Type 0) → List Bytes → List Input → List Transition → Type 0
Again chosen Such rs [] answers = Unit {0}
Again chosen Such rs (i ∷ is) [] = Unit {0}
Again chosen Such rs (i ∷ is) (a ∷ answers) =
    (others_endanger chosen (paired (requests rs (event_of i a)) (responses_of i a)) ≡ true → Such a.terminal.tables)
    × Again chosen Such (records_after rs (event_of i a)) is answers

-- each sender of the part is chosen
abbrev pub Within : (Sender → Bool) → (Sender → Bool) → Type 0
Within part chosen = (s : Sender) → part s ≡ true → chosen s ≡ true

-- the numbers of the chosen partners have 16 bits
abbrev pub SmallNumbers : (Sender → Bool) → Type 0
SmallNumbers chosen = (n : ℕ) → chosen (Partner n) ≡ true → n < 65536
