-- `both_taken`: slot by slot.
use Rattle.rows.proofs.Prelude.{◌∙◌, sym}
use Rattle.asserted_roles.proofs.SlotBytes.{others_more, other_missing, others_all}
use Rattle.asserted_roles.proofs.both_taken.Goals as goal

pub loop-slot-preserved : goal.loop-slot-preserved
loop-slot-preserved c =
    let l = c.loop-slot in
    others_more _ _ c.args.row.now _ c.slots-slot-items.ensures l.slot-index _ c.loop-slot-test.true
    (sym c.holds_other.ensures ∙ c.if-not-holds_other.false) l.invariant

pub returns-then-not-holds_other : goal.returns-then-not-holds_other
returns-then-not-holds_other c =
    other_missing _ _ _ _ c.slots-slot-items.ensures c.loop-slot.slot-index _ c.loop-slot-test.true (sym c.holds_other.ensures ∙ c.if-not-holds_other.true)

pub returns : goal.returns
returns c = others_all _ _ _ _ c.slots-slot-items.ensures c.loop-slot.slot-index c.loop-slot-test.false c.loop-slot.invariant
