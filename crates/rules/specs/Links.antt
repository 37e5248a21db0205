-- The links of /yard (U9): of a RETRIEVE or an UPDATE, those whose own record would be permitted.
-- A link's own record has the verb and the sender of the record that asks, the link's number and no body.
use Rattle.std.specs.Prelude.{◌+◌, ◌*◌, ◌/◌, ◌%◌, ◌^◌, Bool, ◌&&◌, ◌||◌, cond, List, [], ◌∷◌, eqb}
use Rattle.std.specs.Int.Count.{ones}
use Rattle.rules.specs.declared.Tables.{Tables}
use Rattle.rules.specs.declared.Links.{Links}
use Rattle.rules.specs.declared.Header.{Header}
use Rattle.rules.specs.Bits.{be16}
use Rattle.rules.specs.Directory.{yard, links}
use Rattle.rules.specs.Record.{received, header_of, verb, connection, credential, retrieve, update}
use Rattle.rules.specs.Permission.{permission}
use Rattle.rules.specs.Checks.{checks, verdict, is_pass}
use Rattle.rules.specs.Types.{Bytes, Clock, ResourceNumber, ResourceSet}

-- the record's header with the resource n
unfoldable pub own_record : Bytes → ResourceNumber → Bytes
own_record r n = (verb r * 32 + connection r * 16 + n / 4) ∷ (n % 4 * 64) ∷ be16 (credential r)

-- the record is permitted, without a buffer
unfoldable pub permits : Clock → Tables → Bytes → Bool
permits clock t r = is_pass (verdict (checks t (permission clock t r) (received clock r 0)))

-- a set of resources as a number of 64 bits: the top bit is resource 0
unfoldable pub set_of : (ResourceNumber → Bool) → List ResourceNumber → ResourceSet
set_of passes [] = 0
set_of passes (n ∷ ns) = cond (passes n) (2 ^ 63 / 2 ^ n) 0 + set_of passes ns

-- RETRIEVE or UPDATE of /yard
unfoldable pub asks_links : Header → Bool
asks_links header = eqb header.resource.number yard && (eqb header.verb retrieve || eqb header.verb update)

unfoldable pub link_set : Clock → Tables → Bytes → ResourceSet
link_set clock t r = cond (asks_links (header_of r)) (set_of (λ n. permits clock t (own_record r n)) links) 0

-- the set and its size
abbrev pub links_of : Clock → Tables → Bytes → Links
links_of clock t r = record { set = link_set clock t r; size = ones (link_set clock t r) }

abbrev pub no_links : Links
no_links = record { set = 0; size = 0 }
