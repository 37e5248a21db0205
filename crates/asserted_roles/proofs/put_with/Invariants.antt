-- `put_with`: what the slots that are left still give, where the new role has replaced its equal or not yet.
use Rattle.rows.proofs.Prelude.{drop}
use Rattle.text.proofs.Buffers.{Writing}
use Rattle.rows.specs.Rows.{joined}
use Rattle.rules.specs.Roles.{roles_in_force, with_role}
use Rattle.asserted_roles.proofs.SlotBytes.{with_new}
use Rattle.asserted_roles.proofs.put_with.Given as goal

abbrev pub invariant-loop-slot : goal.invariant-loop-slot
invariant-loop-slot l =
    Writing l.initial.out l.at (joined (with_role l.new (roles_in_force l.clock l.row)))
    (with_new l.clock l.new l.replaced (drop l.slot-index l.slot-items)) l.out l.p
