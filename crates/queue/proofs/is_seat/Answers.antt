-- `is_seat`: nobody's seat, or a row's.
use Rattle.rows.proofs.Prelude.{ap, ◌∙◌}
use Rattle.rows.specs.Rows.{has_key}
use Rattle.rows.specs.Promises.{index_of}
use Rattle.queue.proofs.Laws.{seat_zero, seat_found}
use Rattle.queue.proofs.is_seat.Goals as goal

pub returns-then-all_zero : goal.returns-then-all_zero
returns-then-all_zero c =
    c.if-all_zero.true ∙ seat_zero c.args.count c.args.creds.now c.args.seat.now c.requires _ c.all_zero.ensures c.if-all_zero.true

pub returns-else-all_zero : goal.returns-else-all_zero
returns-else-all_zero c =
    c.is_some.ensures ∙ seat_found c.args.count c.args.creds.now c.args.seat.now c.requires _ c.all_zero.ensures c.if-all_zero.false _
    (c.find.ensures ∙ ap (index_of (has_key 0 c.args.seat.now)) c.cred_rows.ensures)
