-- Calls that give just what the contracts promise, with buffers of zeros: for any inputs on any terminal.
-- They show that the theorems of calls are not empty.
use Rattle.std.specs.Prelude.{length, replicate, take, List, [], ◌∷◌}
use Rattle.rules.specs.Defaults.{Defaults}
use Rattle.rules.specs.Promises.Results.{payload_part}
use Rattle.rules.specs.Reading.{filled}
use Rattle.rules_terminal.specs.CallRun.{Call}
use Rattle.rules_terminal.specs.Inputs.{Input, direct, hand_in, next, take_at, transition}
use Rattle.rules_terminal.specs.Slots.{padded}
use Rattle.rules_terminal.specs.Terminal.{Terminal, Transition, transition_result}
use Rattle.rules.specs.Types.{Bytes, Size}

-- a call that gives this answer to the record r, with a buffer of this length
abbrev pub call_for : Transition → Size → Bytes → Call
call_for a capacity r = record {
  judgement = transition_result a;
  queue = a.terminal.queue;
  lent = replicate capacity 0;
  buffer = filled (replicate capacity 0) a.response.contents;
  payload = payload_part (length a.response.payload) r;
  size = length a.bytes;
  bytes = padded a.bytes;
}

abbrev pub call_at : Defaults → Terminal → Input → Call
call_at d x (hand_in r) = call_for (transition d x (hand_in r)) 0 []
call_at d x (take_at clock capacity) =
    let a = transition d x (take_at clock capacity) in call_for a capacity (take (length a.bytes) (padded a.bytes))
call_at d x (direct q) = call_for (transition d x (direct q)) q.capacity q.bytes

abbrev pub calls_at : Defaults → Terminal → List Input → List Call
calls_at d x [] = []
calls_at d x (i ∷ is) = call_at d x i ∷ calls_at d (next d x i) is
