-- Lists of C calls on one memory: each call on the bytes that the one before left.
-- `Promised` is what the C functions promise; the theorems over lists of calls suppose it and nothing else.
use Rattle.std.specs.Prelude.{◌≡◌, List, [], ◌∷◌, length}
use Rattle.rules.specs.Defaults.{Defaults}
use Rattle.rules_terminal.specs.Inputs.{Input, hand_in, take_at, direct}
use Rattle.rules_power.specs.Kept.{Act, input, clear}
use Rattle.rules_interface.specs.Memory.{Words, Memory, with_queue}
use Rattle.rules_interface.specs.Interface.{HandsInAt, TakesAt, JudgesAt, ClearsAt}
use Rattle.rules.specs.Types.{Bytes}

-- what a call said, and the memory that it left; of a take and of a record judged directly also the buffer as it was passed in and as it was left;
-- of a take also the record's length and its bytes
pub record CCall : Type 0 where
  pub words : Words
  pub memory : Memory
  pub lent : Bytes
  pub buffer : Bytes
  pub size : Words
  pub bytes : Bytes

-- what the input's C function promises on this memory. The length that it speaks of is that of the buffer, and a hand-in only reads the tables
abbrev pub Promised : Defaults → Memory → Input → CCall → Type 0
Promised d memory (hand_in r) call = HandsInAt memory r call.words call.memory.queue × (call.memory ≡ with_queue memory call.memory.queue)
Promised d memory (take_at clock capacity) call =
    TakesAt d memory clock capacity call.words call.size call.bytes call.memory call.lent call.buffer × (length call.lent ≡ capacity)
Promised d memory (direct q) call = JudgesAt d memory q call.words call.memory call.lent call.buffer × (length call.lent ≡ q.capacity)

-- the clear button's call too; of it only the memory counts
abbrev pub PromisedBy : Defaults → Memory → Act → CCall → Type 0
PromisedBy d memory (input i) call = Promised d memory i call
PromisedBy d memory clear call = ClearsAt d memory call.memory

-- the first call on this memory, and each later one on what the one before left
abbrev pub CBuilt : Defaults → Memory → List Input → List CCall → Type 0
CBuilt d memory [] [] = Unit {0}
CBuilt d memory [] (call ∷ calls) = ⊥
CBuilt d memory (i ∷ is) [] = ⊥
CBuilt d memory (i ∷ is) (call ∷ calls) = Promised d memory i call × CBuilt d call.memory is calls

-- ---- for contracts: a call of each function

abbrev pub hand_in_call : Words → Memory → CCall
hand_in_call words after = record { words = words; memory = after; lent = []; buffer = []; size = []; bytes = [] }

abbrev pub judge_call : Words → Memory → Bytes → Bytes → CCall
judge_call words after lent buffer = record { words = words; memory = after; lent = lent; buffer = buffer; size = []; bytes = [] }

abbrev pub take_call : Words → Words → Bytes → Memory → Bytes → Bytes → CCall
take_call words size bytes after lent buffer = record { words = words; memory = after; lent = lent; buffer = buffer; size = size; bytes = bytes }
