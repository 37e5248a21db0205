-- The groups of checks that the code works in, joined, are the list of checks.
use mathlib.Core.Path.{◌≡◌, refl}
use mathlib.Core.List.{◌++◌}
use Rattle.rules.specs.declared.Tables.{Tables}
use Rattle.rules.specs.Record.{Request}
use Rattle.rules.specs.Permission.{permission}
use Rattle.rules.specs.Checks.{checks}
use Rattle.rules.specs.Promises.Groups.{form_checks}
use Rattle.rules.specs.Promises.Decision.{later_checks}
use Rattle.rules.specs.Record.{header_of, body, sender}
use Rattle.rules.specs.Permission.{sender_row}

pub groups_joined : (t : Tables) (q : Request) → let r = q.bytes in
    checks t (permission q.clock t r) q
    ≡ form_checks t r ++ later_checks q.clock t (sender_row t (sender r)) (header_of r) (body r) q.capacity
groups_joined t q = refl
