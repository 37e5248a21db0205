-- A terminal's history as a journal has it: what C was asked, in order, the clear button and restarts included.
-- Two lists of C calls that answer the same history from the same memory are the same in all that counts.
use Rattle.std.specs.Prelude.{◌≡◌, List, [], ◌∷◌, take, get_or}
use Rattle.rules.specs.Defaults.{Defaults}
use Rattle.rules_terminal.specs.Slots.{empty_queue}
use Rattle.rules_terminal.specs.Inputs.{Input, hand_in, take_at, direct}
use Rattle.rules_power.specs.Kept.{Act, input, clear}
use Rattle.rules_interface.specs.Memory.{Memory, with_queue}
use Rattle.rules_interface.specs.Calls.{CCall, PromisedBy}

-- a C call was made for an input or for the clear button; the program was started again, with the tables and with nothing that waits
pub data Entry : Type 0 where
  asked : Act → Entry
  restarted : Entry

-- the C calls of a history, each on the memory that the one before left
abbrev pub CHistory : Defaults → Memory → List Entry → List CCall → Type 0
CHistory d m [] [] = Unit {0}
CHistory d m [] (c ∷ cs) = ⊥
CHistory d m (asked act ∷ es) [] = ⊥
CHistory d m (asked act ∷ es) (c ∷ cs) = PromisedBy d m act c × CHistory d c.memory es cs
CHistory d m (restarted ∷ es) cs = CHistory d (with_queue m empty_queue) es cs

-- the same words, and the same bytes of tables and of the queue; of a record that is judged also the same reply, and the same buffer where
-- the same was passed in; of a take also the same record. For the clear button only the memory counts
abbrev pub SameReply : CCall → CCall → Type 0
SameReply c e =
    (c.words ≡ e.words)
    × (c.memory ≡ e.memory)
    × (take (get_or c.words 4 0) c.buffer ≡ take (get_or e.words 4 0) e.buffer)
    × (c.lent ≡ e.lent → c.buffer ≡ e.buffer)

abbrev pub SameInput : Input → CCall → CCall → Type 0
SameInput (hand_in r) c e = (c.words ≡ e.words) × (c.memory ≡ e.memory)
SameInput (take_at clock capacity) c e = SameReply c e × (c.size ≡ e.size) × (c.bytes ≡ e.bytes)
SameInput (direct q) c e = SameReply c e

abbrev pub SameCall : Act → CCall → CCall → Type 0
SameCall (input i) c e = SameInput i c e
SameCall clear c e = c.memory ≡ e.memory

abbrev pub SameHistory : List Entry → List CCall → List CCall → Type 0
SameHistory [] cs ds = Unit {0}
SameHistory (asked act ∷ es) [] ds = Unit {0}
SameHistory (asked act ∷ es) (c ∷ cs) [] = ⊥
SameHistory (asked act ∷ es) (c ∷ cs) (e ∷ ds) = SameCall act c e × SameHistory es cs ds
SameHistory (restarted ∷ es) cs ds = SameHistory es cs ds

-- the memory at the end
abbrev pub memory_after_all : Memory → List Entry → List CCall → Memory
memory_after_all m [] cs = m
memory_after_all m (asked act ∷ es) [] = m
memory_after_all m (asked act ∷ es) (c ∷ cs) = memory_after_all c.memory es cs
memory_after_all m (restarted ∷ es) cs = memory_after_all (with_queue m empty_queue) es cs
