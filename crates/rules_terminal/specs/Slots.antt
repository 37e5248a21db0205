-- The queue of waiting records, in the caller's memory next to the tables: how many wait, the round, and a slot for each record.
-- Bytes: the count (8), the round (24), and 25 slots. A slot: the sender's credential number (16, 0 for
-- unauthenticated senders), the record's length (16), 256 bytes of record with zeros after it.
-- A seat is what the paper calls the place of a waiting record: the two bytes of that number.
use Rattle.std.specs.Prelude.{◌+◌, ◌-◌, ◌*◌, min, cond, List, [], ◌∷◌, ◌++◌, eqb, length, take, drop, get_or, replicate}
use Rattle.rows.specs.Rows.{Row, rows_of, packed}
use Rattle.rules.specs.Bits.{bits, be16}
use Rattle.rules.specs.Record.{credential}
use Rattle.rules.specs.Types.{Bytes, Size}

-- the bytes of the whole
abbrev pub Queue : Type 0
Queue = Bytes

abbrev pub Seat : Type 0
Seat = Bytes

-- bytes of a slot
abbrev pub slot_size : Size
slot_size = 260

-- slots at most: one for each of 24 credential rows, and one for unauthenticated senders
abbrev pub queue_capacity : Size
queue_capacity = 25

-- bytes of all slots, and of the queue
abbrev pub slots_size : Size
slots_size = queue_capacity * slot_size

abbrev pub queue_size : Size
queue_size = 4 + slots_size

-- the seat of a record's sender
unfoldable pub seat_of : Bytes → Seat
seat_of r = be16 (credential r)

-- the record and zeros after it, 256 bytes in all
unfoldable pub padded : Bytes → Bytes
padded r = r ++ replicate (256 - length r) 0

-- the slot that keeps a record
unfoldable pub slot_of : Bytes → Row
slot_of r = seat_of r ++ (be16 (length r) ++ padded r)

-- the record that a slot keeps
unfoldable pub record_of : Row → Bytes
record_of slot = take (bits (drop 2 slot) 0 16) (drop 4 slot)

-- ---- the queue

-- where the round is: it starts over, or a seat was taken last
pub data Round : Type 0 where
  anew : Round
  after_seat : Seat → Round

abbrev pub round_bytes : Round → Bytes
round_bytes anew = 0 ∷ 0 ∷ 0 ∷ []
round_bytes (after_seat seat) = 1 ∷ seat

unfoldable pub round_of : Queue → Round
round_of queue = cond (eqb (get_or queue 1 0) 0) anew (after_seat (take 2 (drop 2 queue)))

-- the slots that are used: as many as are counted, at most as many as there is room for
unfoldable pub waiting : Queue → List Row
waiting queue = rows_of slot_size (min (get_or queue 0 0) queue_capacity) (drop 4 queue)

-- the queue with this round and these slots
unfoldable pub queue_of : Round → List Row → Queue
queue_of round slots = length slots ∷ (round_bytes round ++ packed slots_size slots)

-- no record waits, and the round starts over
abbrev pub empty_queue : Queue
empty_queue = replicate queue_size 0
