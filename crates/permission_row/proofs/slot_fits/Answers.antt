-- `place_fits`: in force, and the same role of the same authority.
use Rattle.rules.specs.Permission.{for_role}
use Rattle.permission_row.proofs.slot_fits.Goals as goal

pub returns : goal.returns
unfolding for_role
returns c =
    rw (c.in_force.ensures, c.authority-2.ensures, c.authority.ensures, c.role-2.ensures, c.role.ensures)
