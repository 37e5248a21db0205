-- `last_seat`: by the byte before the seat.
use Rattle.rows.proofs.Prelude.{get_or, eq-eqb, ne_eqb}
use Rattle.rules_terminal.specs.Slots.{round_of}
use Rattle.queue.proofs.Laws.{seat_is}
use Rattle.queue.proofs.view.Queue.last_seat.Goals as goal

pub returns-then-self-eq0 : goal.returns-then-self-eq0
unfolding round_of
returns-then-self-eq0 c = rw (eq-eqb (get_or c.args.self.bytes.now 1 0) 0 c.if-self-eq0.true)

pub returns : goal.returns
unfolding round_of
returns c =
    let b = c.args.self.bytes.now in
    rw (ne_eqb (get_or b 1 0) 0 c.if-self-eq0.false, seat_is b c.args.self.long)
