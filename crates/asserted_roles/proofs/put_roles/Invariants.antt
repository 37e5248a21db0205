-- `put_roles`: the roles in force of the slots that are left are still to be put.
use Rattle.rows.proofs.Prelude.{drop}
use Rattle.text.proofs.Buffers.{Writing}
use Rattle.rows.specs.Rows.{joined}
use Rattle.rules.specs.Roles.{roles_in_force}
use Rattle.asserted_roles.proofs.SlotBytes.{in_force}
use Rattle.asserted_roles.proofs.put_roles.Given as goal

abbrev pub invariant-loop-slot : goal.invariant-loop-slot
invariant-loop-slot l =
    Writing l.initial.out l.at (joined (roles_in_force l.clock l.row)) (joined (in_force l.clock (drop l.slot-index l.slot-items))) l.out l.p
