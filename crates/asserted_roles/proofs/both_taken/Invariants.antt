-- `both_taken`: the slots before this one have other roles in force.
use Rattle.rows.proofs.Prelude.{◌≡◌, true, take}
use Rattle.asserted_roles.proofs.SlotBytes.{others}
use Rattle.asserted_roles.proofs.both_taken.Given as goal

abbrev pub invariant-loop-slot : goal.invariant-loop-slot
invariant-loop-slot l = others l.clock l.new (take l.slot-index l.slot-items) ≡ true
