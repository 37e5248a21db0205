-- `dequeue`: the slots, then the head.
use Rattle.rows.proofs.Prelude.{ap, ◌∙◌, List, arith, get_or}
use Rattle.rows.specs.Rows.{Row, rows_of, without, has_key}
use Rattle.rules_terminal.specs.Slots.{after_seat, queue_of, slot_size}
use Rattle.queue.proofs.Laws.{slots_of, slots_rows, between_long, changed, few_left, seat_bytes}
use Rattle.queue.proofs.dequeue.Goals as goal

pub put_head-requires : goal.put_head-requires
put_head-requires c =
    let m = c.args.queue.now in
    let counted = rw c.new.ensures at c.count-count.ensures in (
      omega (arith, between_long m c.requires.0 c.remove-left.new.rows c.remove-left.auto.rows),
      few_left m c.requires.0 _ _ (rw counted at c.remove-left.ensures.value),
    )

pub returns : goal.returns
returns c =
    let m = c.args.queue.now in
    let p = c.args.seat.now in
    let counted = rw c.new.ensures at c.count-count.ensures in
    changed m c.requires.0 (after_seat p) (without (has_key 0 p) (rows_of slot_size (get_or m 0 0) (slots_of m))) _ _ _ _
    (rw counted at c.remove-left.ensures.value) (rw counted at c.remove-left.ensures.rows_value) (seat_bytes p c.requires.1) c.put_head.ensures
    ∙ ap (λ (ws : List Row). queue_of (after_seat p) (without (has_key 0 p) ws)) (slots_rows m c.requires.0)
