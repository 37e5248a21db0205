-- `settle`: the slots, then the head.
use Rattle.rows.proofs.Prelude.{◌≡◌, ap, ◌∙◌, cond, List, arith, get_or, rules}
use Rattle.rows.specs.Rows.{Row, rows_of, without}
use Rattle.rules_terminal.specs.Slots.{anew, Round, round_bytes, round_of, queue_of, slot_size}
use Rattle.rules_terminal.specs.Round.{seats_in, orphaned, valid_round}
use Rattle.queue.specs.Viewed.{round_from}
use Rattle.queue.proofs.Laws.{slots_of, slots_rows, between_long, changed, few_left, settled_is, stays_is}
use Rattle.queue.proofs.settle.Goals as goal

pub put_head-requires : goal.put_head-requires
put_head-requires c =
    let m = c.args.queue.now in
    let counted = rw c.new-before.ensures at c.count-used.ensures in
    let ps = seats_in c.args.count c.args.creds.now in
    let left = c.retain-kept.ensures (orphaned ps) (λ row b h. stays_is ps row.now b (search rules)) in (
      omega (arith, between_long m c.requires c.retain-kept.new.rows c.retain-kept.auto.rows),
      few_left m c.requires _ _ (rw counted at left.0),
    )

pub returns : goal.returns
returns c =
    let m = c.args.queue.now in
    let counted = rw c.new-before.ensures at c.count-used.ensures in
    let ps = seats_in c.args.count c.args.creds.now in
    let left = c.retain-kept.ensures (orphaned ps) (λ row b h. stays_is ps row.now b (search rules)) in
    let k = valid_round ps (cond c.args.was_valid (round_of m) anew) in
    let round : round_from c.filter-round.result ≡ k =
    settled_is ps _ c.args.was_valid (λ p b h. search rules) c.last_seat.result _ c.filter-round.ensures
    ∙ ap (λ (r : Round). valid_round ps (cond c.args.was_valid r anew)) (rw c.new-before.ensures at c.last_seat.ensures) in
    changed m c.requires k (without (orphaned ps) (rows_of slot_size (get_or m 0 0) (slots_of m))) _ _ _ _
    (rw counted at left.0) (rw counted at left.1) (ap round_bytes round) c.put_head.ensures
    ∙ ap (λ (ws : List Row). queue_of k (without (orphaned ps) ws)) (slots_rows m c.requires)
