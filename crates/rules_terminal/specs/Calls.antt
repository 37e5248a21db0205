-- What a call gives on a terminal x, with default rows d: the equations that the contracts of the code promise and that demand 3 asks for.
-- The result with the tables, the queue and the caller's buffer afterwards.
use Rattle.std.specs.Prelude.{◌≡◌}
use Rattle.rules.specs.Record.{Request}
use Rattle.rules.specs.Defaults.{Defaults}
use Rattle.rules.specs.Reading.{filled}
use Rattle.rules.specs.Promises.Results.{Result}
use Rattle.rules_terminal.specs.Terminal.{Terminal, Transition, handed_in, taken, judged, transition_result, HandedOut, handed_out}
use Rattle.rules.specs.Types.{Bytes, Clock, Size}
use Rattle.rules_terminal.specs.Slots.{Queue}

-- the queue, and the caller's buffer
pub record Leaves (a : Transition) (lent queue buffer : Bytes) : Type 0 where
  pub keeps : queue ≡ a.terminal.queue
  pub fills : buffer ≡ filled lent a.response.contents

-- a record is handed in
pub record HandsIn (x : Terminal) (r : Bytes) (s : Result) (queue : Queue) : Type 0 where
  pub says : s ≡ transition_result (handed_in x r)
  pub keeps : queue ≡ (handed_in x r).terminal.queue

-- a take, at a clock, with a buffer of a length
pub record Takes (d : Defaults) (x : Terminal) (clock : Clock) (capacity : Size) (h : HandedOut) (lent queue buffer : Bytes) : Type 0 where
  pub hands : h ≡ handed_out (taken d x clock capacity)
  pub leaves : Leaves (taken d x clock capacity) lent queue buffer

-- a record is judged directly
pub record Judges (d : Defaults) (x : Terminal) (q : Request) (s : Result) (lent queue buffer : Bytes) : Type 0 where
  pub says : s ≡ transition_result (judged d x q)
  pub leaves : Leaves (judged d x q) lent queue buffer
