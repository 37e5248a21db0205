-- What each C function promises of the caller's memory, with default rows: what it says, in words, and the bytes that it leaves.
-- A refusal leaves the terminal as it was, so by these equations the same bytes; a take that refuses its record empties its place.
use Rattle.std.specs.Prelude.{◌≡◌, cond, [], ◌∷◌, eqb, length}
use Rattle.rules.specs.Record.{Request}
use Rattle.rules.specs.Defaults.{Defaults}
use Rattle.rules.specs.Reading.{filled}
use Rattle.rules.specs.Checks.{number_of}
use Rattle.rules.specs.Promises.Results.{Result}
use Rattle.rules_terminal.specs.Slots.{Queue, padded}
use Rattle.rules_terminal.specs.Terminal.{Transition, sound_terminal, handed_in, taken, judged, transition_result, fresh_terminal, cleared_terminal}
use Rattle.rules_office.specs.Office.{office_verdict, office_reply}
use Rattle.rules_lists.specs.Lists.{list_tested}
use Rattle.rules_legacy.specs.Conversion.{conversion_verdict, conversion_reply}
use Rattle.rules_interface.specs.Memory.{Words, Memory, terminal_at, memory_of}
use Rattle.rules.specs.Types.{Answer, Bit, Bytes, Clock, Offset, Size}

-- ---- the result

-- the offset of the payload in its record: after the header's four bytes; 0 if there is none
unfoldable pub offset_of : Size → Offset
offset_of size = cond (eqb size 0) 0 4

-- answer, permission, the payload's offset and length, the reply's length, the rows to store, the links
abbrev pub words_in : Result → Words
words_in result =
    result.answer
    ∷ result.permission
    ∷ offset_of result.payload
    ∷ result.payload
    ∷ result.reply
    ∷ result.store.first
    ∷ result.store.count
    ∷ result.links.set
    ∷ result.links.size
    ∷ []

abbrev pub words_of : Transition → Words
words_of a = words_in (transition_result a)

-- a number and nothing else
abbrev pub number_words : Answer → Words
number_words n = n ∷ 0 ∷ 0 ∷ 0 ∷ 0 ∷ 0 ∷ 0 ∷ 0 ∷ 0 ∷ []

-- ---- a terminal

-- new, of any bytes
abbrev pub FreshAt : Defaults → Memory → Type 0
FreshAt d after = after ≡ memory_of (fresh_terminal d)

-- the clear button
abbrev pub ClearsAt : Defaults → Memory → Memory → Type 0
ClearsAt d memory after = after ≡ memory_of (cleared_terminal d (terminal_at memory))

-- 1 where it is sound, else 0
pub record IsSoundAt (m : Memory) (told : Bit) : Type 0 where
  pub says : told ≡ cond (sound_terminal (terminal_at m)) 1 0

-- ---- records

-- a record is handed in; the tables are passed in to be read
pub record HandsInAt (m : Memory) (r : Bytes) (words : Words) (queue : Queue) : Type 0 where
  pub says : words ≡ words_of (handed_in (terminal_at m) r)
  pub keeps : queue ≡ (handed_in (terminal_at m) r).terminal.queue

-- a record is judged directly
pub record JudgesAt (d : Defaults) (m : Memory) (q : Request) (words : Words) (after : Memory) (lent buffer : Bytes) : Type 0 where
  pub says : words ≡ words_of (judged d (terminal_at m) q)
  pub keeps : after ≡ memory_of (judged d (terminal_at m) q).terminal
  pub fills : buffer ≡ filled lent (judged d (terminal_at m) q).response.contents

-- a take, at a clock, with a buffer of a length: also the record's length, and the record with zeros after it
pub record TakesAt (d : Defaults) (m : Memory) (clock : Clock) (capacity : Size) (words size : Words) (bytes : Bytes) (after : Memory) (lent buffer : Bytes) : Type 0 where
  pub says : words ≡ words_of (taken d (terminal_at m) clock capacity)
  pub sized : size ≡ length (taken d (terminal_at m) clock capacity).bytes ∷ []
  pub hands : bytes ≡ padded (taken d (terminal_at m) clock capacity).bytes
  pub keeps : after ≡ memory_of (taken d (terminal_at m) clock capacity).terminal
  pub fills : buffer ≡ filled lent (taken d (terminal_at m) clock capacity).response.contents

-- ---- lists: an answer, and a row or a length

pub record ListsAt (m : Memory) (words : Words) (lent buffer : Bytes) : Type 0 where
  pub says : words ≡ number_of (office_verdict (terminal_at m) (length lent)) ∷ length (office_reply (terminal_at m) (length lent)) ∷ []
  pub fills : buffer ≡ filled lent (office_reply (terminal_at m) (length lent))

abbrev pub TestsAt : Bytes → Words → Type 0
TestsAt rows words = words ≡ (list_tested rows).answer ∷ (list_tested rows).row ∷ []

pub record ConvertsAt (file : Bytes) (words : Words) (lent buffer : Bytes) : Type 0 where
  pub says : words ≡ number_of (conversion_verdict file (length lent)) ∷ length (conversion_reply file (length lent)) ∷ []
  pub fills : buffer ≡ filled lent (conversion_reply file (length lent))
