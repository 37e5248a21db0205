-- C calls that give just what the C functions promise, with buffers of zeros: for any inputs on any memory.
-- They show that the theorems of C calls are not empty.
use Rattle.std.specs.Prelude.{length, replicate, List, [], ◌∷◌}
use Rattle.rules.specs.Defaults.{Defaults}
use Rattle.rules.specs.Reading.{filled}
use Rattle.rules_interface.specs.Calls.{CCall, hand_in_call, judge_call, take_call}
use Rattle.rules_interface.specs.Interface.{words_of}
use Rattle.rules_interface.specs.Memory.{Memory, memory_of, terminal_at, with_queue}
use Rattle.rules_terminal.specs.Inputs.{Input, direct, hand_in, take_at}
use Rattle.rules_terminal.specs.Slots.{padded}
use Rattle.rules_terminal.specs.Terminal.{Transition, handed_in, judged, taken}
use Rattle.rules.specs.Types.{Bytes, Size}

-- a buffer
abbrev pub zeros : Size → Bytes
zeros n = replicate n 0

-- a take and a record judged directly, with a buffer of zeros
abbrev pub took_call : Transition → Size → CCall
took_call t capacity =
    take_call (words_of t) (length t.bytes ∷ []) (padded t.bytes) (memory_of t.terminal) (zeros capacity) (filled (zeros capacity) t.response.contents)

abbrev pub judged_call : Transition → Size → CCall
judged_call t capacity = judge_call (words_of t) (memory_of t.terminal) (zeros capacity) (filled (zeros capacity) t.response.contents)

-- the call for an input, on the memory m
abbrev pub call_on : Defaults → Memory → Input → CCall
call_on d m (hand_in r) = hand_in_call (words_of (handed_in (terminal_at m) r)) (with_queue m (handed_in (terminal_at m) r).terminal.queue)
call_on d m (take_at clock capacity) = took_call (taken d (terminal_at m) clock capacity) capacity
call_on d m (direct q) = judged_call (judged d (terminal_at m) q) q.capacity

-- each on the memory that the one before left
abbrev pub calls_on : Defaults → Memory → List Input → List CCall
calls_on d m [] = []
calls_on d m (i ∷ is) = call_on d m i ∷ calls_on d (call_on d m i).memory is
