-- `round_valid`: it starts over, or its seat is looked for.
use Rattle.queue.proofs.round_valid.Goals as goal

pub returns-in_default : goal.returns-in_default
returns-in_default c = rw (← c.new.ensures, ← c.last_seat.ensures, c.in_default.is)

pub returns : goal.returns
returns c = rw (← c.new.ensures, ← c.last_seat.ensures, c.in-Some.is, c.is_seat.ensures)
