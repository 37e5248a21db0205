-- `role_fits`: the stored role, then the two places.
use Rattle.rules.specs.Permission.{for_role, role_fits}
use Rattle.rules.proofs.RoleSlots.{some_in_force}
use Rattle.permission_row.proofs.role_fits.Goals as goal

pub returns : goal.returns
unfolding role_fits for_role
returns c =
    rw (
      some_in_force,
      c.slot_fits-second.ensures,
      c.role_slot-2.ensures,
      c.slot_fits-first.ensures,
      c.role_slot.ensures,
      c.authority-2.ensures,
      c.authority.ensures,
      c.role-2.ensures,
      c.role.ensures,
      c.is_empty.ensures,
    )
