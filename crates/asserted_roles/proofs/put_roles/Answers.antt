-- `put_roles`: a turn puts a role in force.
use Rattle.rows.proofs.Prelude.{sym, ap, ◌∙◌, arith, not-false, not-true}
use Rattle.text.proofs.Buffers.{writing_start, writing_step, writing_end}
use Rattle.rows.specs.Rows.{joined}
use Rattle.rules.specs.Roles.{roles_in_force}
use Rattle.asserted_roles.proofs.SlotBytes.{bytes_next, free_passed, none_left}
use Rattle.asserted_roles.proofs.put_roles.Goals as goal
use Rattle.asserted_roles.proofs.put_roles.Goals.{then-in_force, else-in_force}

pub loop-slot-init : goal.loop-slot-init
unfolding roles_in_force
loop-slot-init c = rw c.slots-slot-items.ensures (writing_start _ _ _ (omega arith) (omega arith))

pub loop-slot-preserved : goal.loop-slot-preserved
loop-slot-preserved c =
    let l = c.loop-slot in
    elim c.if-in_force.branch [
      | then-in_force w ↦
          rw (w.out-is, w.p-is) (writing_step _ _ l.invariant
          (bytes_next _ _ l.slot-index c.loop-slot-test.true c.args.row.now c.slots-slot-items.ensures _ (not-true _ (sym c.in_force.ensures ∙ w.if-in_force.true))) w.put-p.ensures)
      | else-in_force w ↦
          rw (w.out-is, w.p-is, ← free_passed _ _ l.slot-index c.loop-slot-test.true c.args.row.now c.slots-slot-items.ensures _ (not-false _ (sym c.in_force.ensures ∙ w.if-in_force.false))) l.invariant
    ]

pub returns : goal.returns
unfolding joined
returns c = writing_end c.loop-slot.invariant (ap joined (none_left c.args.row.now _ _ _ c.slots-slot-items.ensures c.loop-slot-test.false))
