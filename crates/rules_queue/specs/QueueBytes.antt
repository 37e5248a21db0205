-- How waiting records and the queue are written as bytes, each field in its order, and read from them.
-- A terminal's bytes are read as the terminal that their fields give, if that one is sound and these are its bytes.
use Rattle.std.specs.Prelude.{ℕ, ◌+◌, ◌-◌, ◌*◌, ◌≡◌, Bool, true, ◌&&◌, cond, List, [], ◌∷◌, ◌++◌, map, eqb, length, replicate}
use Rattle.rows.specs.Rows.{Row, same, packed}
use Rattle.rules.specs.declared.Sender.{Sender}
use Rattle.rules.specs.declared.Sender.TheVariants.{Unauthenticated, Partner}
use Rattle.rules.specs.Bits.{bits, be16}
use Rattle.rules.specs.Record.{received}
use Rattle.rules_typed.specs.Lists.{Maybe, none, just, when}
use Rattle.rules_typed.specs.Types.{Bytes, Verb, Create, Retrieve, Update, Delete, Observe, Security, Roles, Record}
use Rattle.rules_typed.specs.Directory.{number_of}
use Rattle.rules_typed.specs.Permission.{connection_of}
use Rattle.rules_typed.specs.Tables.{is_bytes, sound}
use Rattle.rules_typed.specs.Struct.{IsStruct}
use Rattle.rules_typed.specs.Bodies.{sender_of}
use Rattle.rules_typed.specs.Writing.{connection_number, written_tables, written}
use Rattle.rules_typed.specs.Reading.{tables_of, same_tables, read_record}
use Rattle.rules_terminal.specs.Slots.{record_of, round_of, waiting, anew, after_seat, Round as ByteRound}
use Rattle.rules_terminal.specs.Terminal.{Terminal as ByteTerminal, Transition as ByteTransition}
use Rattle.rules_terminal.specs.Inputs.{Input as ByteInput, hand_in, take_at, direct}
use Rattle.rules_queue.specs.Queue.{Waiting, Round, Anew, After, Queue, Terminal, Transition, sender_number, sound_queue, Input, HandIn, Take}
use Rattle.rules_queue.specs.Queue.{Judge}

-- ---- written

abbrev pub verb_number : Verb → ℕ
verb_number Create = 0
verb_number Retrieve = 1
verb_number Update = 2
verb_number Delete = 3
verb_number Observe = 4

-- verb (3), connection (1), resource (6), zeros (6), credential number (16), body
unfoldable pub record_bytes : Waiting → Bytes
record_bytes w =
    be16 (verb_number w.verb * 8192 + connection_number (connection_of w.sender) * 4096 + number_of w.resource * 64)
    ++ (be16 (sender_number w.sender) ++ w.body)

-- 260 bytes: the place's credential number (16), the record's length (16), the record, zeros
unfoldable pub slot_bytes : Waiting → Bytes
slot_bytes w =
    let r = record_bytes w in
    be16 (sender_number w.sender) ++ (be16 (length r) ++ (r ++ replicate (256 - length r) 0))

-- 3 bytes: anew, or the place that was taken last
abbrev pub round_bytes : Round → Bytes
round_bytes Anew = 0 ∷ 0 ∷ 0 ∷ []
round_bytes (After s) = 1 ∷ be16 (sender_number s)

-- how many wait, the round, and 25 slots
unfoldable pub queue_bytes : Queue → Bytes
queue_bytes q = length q.waiting ∷ (round_bytes q.round ++ packed 6500 (map slot_bytes q.waiting))

abbrev pub written_terminal : Terminal → ByteTerminal
written_terminal x = record { tables = written_tables x.tables; queue = queue_bytes x.queue }

-- bytes that are no terminal stay as they were
abbrev pub terminal_or : ByteTerminal → Maybe Terminal → ByteTerminal
terminal_or bytes none = bytes
terminal_or bytes (just x) = written_terminal x

-- the record that a take gives out; none is no bytes
abbrev pub given_bytes : Maybe Waiting → Bytes
given_bytes none = []
given_bytes (just w) = record_bytes w

abbrev pub written_transition : ByteTerminal → Transition → ByteTransition
written_transition bytes a =
    record { bytes = given_bytes a.given; response = written a.response; terminal = terminal_or bytes a.terminal }

-- ---- read

-- the value, or else this one
abbrev pub or_else : {A : Type 0} → Maybe A → A → A
or_else none x = x
or_else (just y) x = y

-- of a record without a verb or a known resource some other one, whose bytes differ
abbrev pub waiting_from : Record → Waiting
waiting_from r = record { sender = sender_of r; verb = or_else r.verb Observe; resource = or_else r.resource (Security Roles); body = r.body }

-- the record that a slot keeps
unfoldable pub waiting_as : Row → Waiting
waiting_as slot = waiting_from (read_record (received 0 (record_of slot) 0))

-- 0 is the unauthenticated senders'
abbrev pub sender_at : ℕ → Sender
sender_at n = cond (eqb n 0) Unauthenticated (Partner n)

abbrev pub round_as : ByteRound → Round
round_as anew = Anew
round_as (after_seat seat) = After (sender_at (bits seat 0 16))

abbrev pub queue_as : Bytes → Queue
queue_as b = record { waiting = map waiting_as (waiting b); round = round_as (round_of b) }

abbrev pub terminal_as : ByteTerminal → Terminal
terminal_as x = record { tables = tables_of x.tables; queue = queue_as x.queue }

abbrev pub same_terminal : ByteTerminal → ByteTerminal → Bool
same_terminal x y = same_tables x.tables y.tables && same x.queue y.queue

-- none: the bytes are no terminal (check 1)
unfoldable pub read_terminal : ByteTerminal → Maybe Terminal
read_terminal x =
    let y = terminal_as x in
    when (sound y.tables && sound_queue y.tables y.queue && same_terminal (written_terminal y) x) y

-- a record that is handed in has no clock and no buffer yet
abbrev pub read_input : ByteInput → Input
read_input (hand_in r) = HandIn (read_record (received 0 r 0))
read_input (take_at clock capacity) = Take clock capacity
read_input (direct q) = Judge (read_record q)

-- ---- for theorems

-- the records of inputs are bytes
abbrev pub IsInput : ByteInput → Type 0
IsInput (hand_in r) = is_bytes r ≡ true
IsInput (take_at clock capacity) = Unit {0}
IsInput (direct q) = is_bytes q.bytes ≡ true

abbrev pub InputBytes : List ByteInput → Type 0
InputBytes [] = Unit {0}
InputBytes (i ∷ is) = IsInput i × InputBytes is

-- what the terminal x of bytes gives is the typed transition, written; what it leaves is bytes, and is read as the typed terminal
pub record Follows (x : ByteTerminal) (a : ByteTransition) (b : Transition) : Type 0 where
  pub is_written : a ≡ written_transition x b
  pub is_read : read_terminal a.terminal ≡ b.terminal
  pub struct : IsStruct a.terminal.tables
  pub bytes : is_bytes a.terminal.queue ≡ true
