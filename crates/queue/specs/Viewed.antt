-- What the type `Queue` reads: the bytes, and the round by the seat that was taken last.
use Rattle.std.specs.Prelude.{Option, Some, None}
use Rattle.queue.specs.declared.view.Queue.{Queue}
use Rattle.rules_terminal.specs.Slots.{Seat, Round, anew, after_seat}
use Rattle.rules.specs.Types.{Bytes}

abbrev pub viewed : Queue → Bytes
viewed queue = queue.bytes.now

-- it goes on after that seat, or starts over
abbrev pub round_from : Option Seat → Round
round_from (Some seat) = after_seat seat
round_from None = anew
