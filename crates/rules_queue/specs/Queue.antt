-- Waiting records (U13): what a hand-in, a take and a record that is judged at once give in a terminal, which has tables and a queue.
-- A place is named by its sender: each credential row has one, and unauthenticated senders share one.
use Rattle.std.specs.Prelude.{ℕ, ◌+◌, Bool, true, false, not, ◌&&◌, ◌||◌, cond, List, [], ◌∷◌, ◌++◌, map, eqb, leb, ltb, length}
use Rattle.rules.specs.declared.Sender.{Sender}
use Rattle.rules.specs.declared.Sender.TheVariants.{Unauthenticated, Partner}
use Rattle.rules_typed.specs.Lists.{Maybe, none, just, is_none, holds, list_of, any, all, find, without, distinct}
use Rattle.rules_typed.specs.Types.{Bytes, Clock, Answer, Resource, Verb, Record, Request, Tables, Reset, To, Verdict, Permitted, Refused, Response}
use Rattle.rules_typed.specs.Types.{Outcome}
use Rattle.rules_typed.specs.Types.{Action, Serve, Read, SetRowOwner, SetOwner, Move, StoreCredential, StoreAccess, DeleteCredentials, DeleteSubject}
use Rattle.rules_typed.specs.Types.{DeleteAccesses, AssertRole}
use Rattle.rules_typed.specs.Permission.{connection_of}
use Rattle.rules_typed.specs.Tables.{is_bytes, is_number}
use Rattle.rules_typed.specs.Bodies.{sender_of, request_of}
use Rattle.rules_typed.specs.Checks.{agree, no_credential, verdict, answer_of}
use Rattle.rules_typed.specs.Outcome.{refused, outcome}

-- ---- words

-- a record that waits has passed 2 to 6: it has a verb and a known resource
pub record Waiting : Type 0 where
  pub sender : Sender
  pub verb : Verb
  pub resource : Resource
  pub body : Bytes

-- it begins anew, or after the place that was taken last
pub data Round : Type 0 where
  Anew : Round
  After : Sender → Round

-- the records, the one handed in last at the end. No rule depends on their order
pub record Queue : Type 0 where
  pub waiting : List Waiting
  pub round : Round

pub record Terminal : Type 0 where
  pub tables : Tables
  pub queue : Queue

-- without a terminal the bytes were none, and stay
pub record Transition : Type 0 where
  -- the record that a take gives out
  pub given : Maybe Waiting
  pub response : Response
  pub terminal : Maybe Terminal

-- ---- places

-- the number of its credential row; unauthenticated senders have 0
abbrev pub sender_number : Sender → ℕ
sender_number Unauthenticated = 0
sender_number (Partner n) = n

abbrev pub same_sender : Sender → Sender → Bool
same_sender s other = eqb (sender_number s) (sender_number other)

-- that of unauthenticated senders, then one for each credential row
abbrev pub places : Tables → List Sender
places t = Unauthenticated ∷ map (λ c. Partner c.number) t.credentials

-- the sender has a place
abbrev pub is_place : Tables → Sender → Bool
is_place t s = any (same_sender s) (places t)

-- the record waits in this place
abbrev pub waits_in : Sender → Waiting → Bool
waits_in s w = same_sender w.sender s

-- ---- a sound queue: one record for a place, each one that passes 2 to 7 for its place

-- a number of 16 bits, not 0
abbrev pub valid_sender : Sender → Bool
valid_sender Unauthenticated = true
valid_sender (Partner n) = is_number n

-- at most 256 bytes with the header, and the sender has a place in these tables
unfoldable pub valid_waiting : Tables → Waiting → Bool
valid_waiting t w = valid_sender w.sender && leb (length w.body) 252 && is_bytes w.body && is_place t w.sender

-- both wait in one place
abbrev pub same_waiting : Waiting → Waiting → Bool
same_waiting w other = same_sender other.sender w.sender

abbrev pub valid_round : Round → Bool
valid_round Anew = true
valid_round (After s) = valid_sender s

unfoldable pub sound_queue : Tables → Queue → Bool
sound_queue t q = all (valid_waiting t) q.waiting && distinct same_waiting q.waiting && valid_round q.round

abbrev pub empty_queue : Queue
empty_queue = record { waiting = []; round = Anew }

-- the clear button takes a terminal of any content, and gives the fresh tables, which hold no waiting record
abbrev pub cleared : Tables → Maybe Terminal → Terminal
cleared fresh terminal = record { tables = fresh; queue = empty_queue }

-- ---- a hand-in: 1 to 7, then 26, the sender's place is occupied

-- 2 to 6, of the record alone
abbrev pub header_checks : Record → List (Answer × Bool)
header_checks r =
    (2, ltb r.size 4 || ltb 256 r.size)
    ∷ (3, is_none r.verb)
    ∷ (4, not (eqb r.zeros 0))
    ∷ (5, not (agree r.connection r.credential))
    ∷ (6, is_none r.resource)
    ∷ []

abbrev pub hand_in_checks : Maybe Terminal → Record → List (Answer × Bool)
hand_in_checks terminal r =
    (1, is_none terminal)
    ∷ header_checks r
    ++ list_of terminal (λ x. (7, no_credential x.tables (sender_of r)) ∷ (26, any (waits_in (sender_of r)) x.queue.waiting) ∷ [])

-- without its clock and its buffer, which the take brings
abbrev pub waiting_of : Request → Waiting
waiting_of q = record { sender = q.sender; verb = q.verb; resource = q.resource; body = q.body }

-- the record waits after the others
abbrev pub keeping : Request → Terminal → Terminal
keeping q x = record { tables = x.tables; queue = record { waiting = x.queue.waiting ++ waiting_of q ∷ []; round = x.queue.round } }

-- a number alone: permission 0, the empty payload
abbrev pub number_alone : Answer → Response
number_alone n = (refused n none).response

-- the answer's number, with permission 0
abbrev pub told : Answer → Maybe Terminal → Transition
told n terminal = record { given = none; response = number_alone n; terminal = terminal }

-- without a terminal, or without a request, one of 1 to 6 is the answer
abbrev pub hand_in_of : Maybe Terminal → Maybe Request → Verdict → Transition
hand_in_of none q v = told (answer_of v) none
hand_in_of (just x) none v = told (answer_of v) (just x)
hand_in_of (just x) (just q) (Refused n) = told n (just x)
hand_in_of (just x) (just q) Permitted = told 0 (just (keeping q x))

unfoldable pub handed_in : Maybe Terminal → Record → Transition
handed_in terminal r = hand_in_of terminal (request_of r) (verdict (hand_in_checks terminal r))

-- ---- what a judged record leaves of the queue

-- entering RESET gives the fresh tables, which hold no waiting record
abbrev pub is_reset : Action → Bool
is_reset Serve = false
is_reset Read = false
is_reset (SetRowOwner s owner) = false
is_reset (SetOwner owner) = false
is_reset (Move Reset) = true
is_reset (Move (To s)) = false
is_reset (StoreCredential c) = false
is_reset (StoreAccess a) = false
is_reset (DeleteCredentials which) = false
is_reset (DeleteSubject u) = false
is_reset (DeleteAccesses which) = false
is_reset (AssertRole r) = false

-- the record was permitted, and cleared the tables
abbrev pub clears : Record → Outcome → Bool
clears r o = eqb o.response.answer 0 && holds (request_of r) (λ q. holds q.action is_reset)

-- the round begins anew if the row of the place taken last is not held
abbrev pub round_in : Tables → Round → Round
round_in t Anew = Anew
round_in t (After s) = cond (is_place t s) (After s) Anew

-- no credential row was added, and none removed
abbrev pub same_places : List Sender → List Sender → Bool
same_places [] [] = true
same_places [] (o ∷ os) = false
same_places (s ∷ ss) [] = false
same_places (s ∷ ss) (o ∷ os) = same_sender s o && same_places ss os

-- from the tables t to the tables t'. The queue stays while no credential row is added or removed; replacing a row keeps its record.
-- Deleting a row drops its record, and the round begins anew once that row is deleted, or where the tables did not hold it
unfoldable pub settled : Tables → Tables → Queue → Queue
settled t t' q =
    cond (same_places (places t) (places t')) q
    (record { waiting = without (λ w. not (is_place t' w.sender)) q.waiting; round = round_in t' (round_in t q.round) })

-- the terminal with the tables that a record leaves, and whether it cleared them
abbrev pub leaving : Terminal → Bool → Maybe Tables → Maybe Terminal
leaving x cleared none = none
leaving x cleared (just t) = just (record { tables = t; queue = cond cleared empty_queue (settled x.tables t x.queue) })

-- ---- a record that is judged at once; 1 where there is no terminal

abbrev pub judged : Tables → Maybe Terminal → Record → Transition
judged fresh none r = told 1 none
judged fresh (just x) r =
    let o = outcome fresh (just x.tables) r in
    record { given = none; response = o.response; terminal = leaving x (clears r o) o.tables }

-- ---- the round: from the unauthenticated place through the rows, starting after the last place taken

module _ {A : Type 0} (passes : A → Bool) where
  -- what comes after the first that passes
  unfoldable pub behind : List A → List A
  behind [] = []
  behind (x ∷ xs) = cond (passes x) xs (behind xs)

  -- and all up to it; where none passes, all
  unfoldable pub up_to : List A → List A
  up_to [] = []
  up_to (x ∷ xs) = cond (passes x) (x ∷ []) (x ∷ up_to xs)

-- the places in the order of their turns; where the place taken last is gone, from the first on
abbrev pub in_turn : Round → List Sender → List Sender
in_turn Anew ss = ss
in_turn (After s) ss = behind (same_sender s) ss ++ up_to (same_sender s) ss

-- the record of the first of these places in which one waits
unfoldable pub first_of : List Waiting → List Sender → Maybe Waiting
first_of ws [] = none
first_of ws (s ∷ ss) = cond (any (waits_in s) ws) (find (waits_in s) ws) (first_of ws ss)

-- the record whose turn it is; none if nothing waits
abbrev pub due : Terminal → Maybe Waiting
due x = first_of x.queue.waiting (in_turn x.queue.round (places x.tables))

-- ---- a take: 1, then 27, nothing waits

-- the record's place is emptied, and the round goes on after it
abbrev pub emptying : Waiting → Terminal → Terminal
emptying w x =
    record { tables = x.tables; queue = record { waiting = without (waits_in w.sender) x.queue.waiting; round = After w.sender } }

-- the record at the take's clock, with the take's buffer
abbrev pub record_at : Clock → ℕ → Waiting → Record
record_at clock capacity w = record {
  clock = clock;
  capacity = capacity;
  size = 4 + length w.body;
  verb = just w.verb;
  connection = connection_of w.sender;
  resource = just w.resource;
  zeros = 0;
  credential = sender_number w.sender;
  body = w.body;
}

-- the record is given out
abbrev pub giving : Waiting → Transition → Transition
giving w a = record { given = just w; response = a.response; terminal = a.terminal }

-- whatever the record's answer, its place is empty
abbrev pub take_of : Tables → Terminal → Clock → ℕ → Maybe Waiting → Transition
take_of fresh x clock capacity none = told 27 (just x)
take_of fresh x clock capacity (just w) = giving w (judged fresh (just (emptying w x)) (record_at clock capacity w))

abbrev pub taken : Tables → Maybe Terminal → Clock → ℕ → Transition
taken fresh none clock capacity = told 1 none
taken fresh (just x) clock capacity = take_of fresh x clock capacity (due x)

-- ---- a run

-- a record is handed in; a take, at a clock and with a buffer of a length; a record is judged at once
pub data Input : Type 0 where
  HandIn : Record → Input
  Take : Clock → ℕ → Input
  Judge : Record → Input

abbrev pub step : Tables → Maybe Terminal → Input → Transition
step fresh terminal (HandIn r) = handed_in terminal r
step fresh terminal (Take clock capacity) = taken fresh terminal clock capacity
step fresh terminal (Judge r) = judged fresh terminal r

-- the terminal that the next one meets
abbrev pub stepped : Tables → Maybe Terminal → Input → Maybe Terminal
stepped fresh terminal i = (step fresh terminal i).terminal
