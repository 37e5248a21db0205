-- `put_with`: a turn puts a role in force, or the new one for its equal.
use Rattle.rows.proofs.Prelude.{refl, sym, ap, ◌∙◌, arith, not-false, not-true}
use Rattle.text.proofs.Buffers.{writing_start, writing_step, writing_end}
use Rattle.rows.specs.Rows.{joined}
use Rattle.rules.specs.Roles.{roles_in_force}
use Rattle.asserted_roles.proofs.SlotBytes.{none_left, new_last, with_passed, with_replaced, with_kept}
use Rattle.asserted_roles.proofs.put_with.Goals as goal
use Rattle.asserted_roles.proofs.put_with.Goals.{then-replaced-same_role, else-replaced-same_role}

pub loop-slot-init : goal.loop-slot-init
unfolding roles_in_force
loop-slot-init c = rw c.slots-slot-items.ensures (writing_start _ _ _ (omega arith) (omega arith))

pub loop-slot-preserved-then-not-in_force : goal.loop-slot-preserved-then-not-in_force
loop-slot-preserved-then-not-in_force c =
    let l = c.loop-slot in
    rw (← with_passed _ _ l.slot-index c.loop-slot-test.true c.args.row.now c.slots-slot-items.ensures _ c.args.new.now l.replaced
    (not-false _ (sym c.in_force.ensures ∙ c.if-not-in_force.true)))
    l.invariant

pub loop-slot-preserved : goal.loop-slot-preserved
loop-slot-preserved c =
    let l = c.loop-slot in
    let held = not-true _ (sym c.in_force.ensures ∙ c.if-not-in_force.false) in
    elim c.if-replaced-same_role.branch [
      | then-replaced-same_role w ↦
          rw (w.out-is, w.p-is, w.replaced-is) (writing_step _ _ l.invariant
          (with_replaced _ _ l.slot-index c.loop-slot-test.true c.args.row.now c.slots-slot-items.ensures _ c.args.new.now l.replaced held
          (rw c.same_role.ensures at w.if-replaced-same_role.true))
          w.put-p.ensures)
      | else-replaced-same_role w ↦
          rw (w.out-is, w.p-is, w.replaced-is) (writing_step _ _ l.invariant
          (with_kept _ _ l.slot-index c.loop-slot-test.true c.args.row.now c.slots-slot-items.ensures _ c.args.new.now l.replaced held
          (rw c.same_role.ensures at w.if-replaced-same_role.false))
          w.put-p-else-replaced-same_role.ensures)
    ]

pub returns-then-replaced : goal.returns-then-replaced
unfolding joined
returns-then-replaced c =
    let l = c.loop-slot in
    writing_end l.invariant (rw c.if-replaced.true (ap joined (none_left c.args.row.now _ _ _ c.slots-slot-items.ensures c.loop-slot-test.false)))

pub returns-else-replaced : goal.returns-else-replaced
returns-else-replaced c =
    let l = c.loop-slot in
    writing_end (writing_step _ _ l.invariant
    (new_last c.args.row.now _ _ l.replaced _ l.slot-index c.slots-slot-items.ensures c.loop-slot-test.false c.if-replaced.false) c.put.ensures) refl
