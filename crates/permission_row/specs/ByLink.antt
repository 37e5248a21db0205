-- A number for each link of /yard, in the order of the links.
-- The links have the numbers from 8 on.
use Rattle.std.specs.Prelude.{◌-◌, List, map, get_or}
use Rattle.rules.specs.Directory.{links}
use Rattle.rules.specs.Types.{Permission, ResourceNumber}

-- of each link
unfoldable pub by_link : (ResourceNumber → Permission) → List Permission
by_link f = map f links

-- of the link n
abbrev pub of_link : List Permission → ResourceNumber → Permission
of_link permissions n = get_or permissions (n - 8) 0
