-- `subject_fits`: the match on the kind is the definition's lookup, an arm for each entry and the last for none.
use Rattle.rules.specs.Permission.{subject_is, subject_fits}
use Rattle.permission_row.proofs.subject_fits.Goals as goal

pub returns-in-Uuid : goal.returns-in-Uuid
unfolding subject_fits subject_is
returns-in-Uuid c =
    rw (← c.in-Uuid.ensures, c.same_bytes.ensures, c.subject-in-Uuid.ensures, c.subject.ensures, c.is_empty.ensures)

pub returns-in-Role : goal.returns-in-Role
unfolding subject_fits subject_is
returns-in-Role c = rw (← c.in-Role.ensures, c.role_fits.ensures)

pub returns-in-Connection : goal.returns-in-Connection
unfolding subject_fits subject_is
returns-in-Connection c = rw (← c.in-Connection.ensures, c.connection.ensures)

pub returns-in-Other : goal.returns-in-Other
unfolding subject_fits subject_is
returns-in-Other c = rw (← c.in-Other.ensures)
