-- Reading the tables back (U1): what a permitted RETRIEVE of a security resource fills the caller's buffer with.
-- The resource's own body, its row owner, and its rows in table order; of roles the sender's own in force. Every other record has no reply.
use Rattle.std.specs.Prelude.{◌+◌, ◌*◌, ◌%◌, Bool, ◌&&◌, cond, [], ◌∷◌, ◌++◌, map, eqb, ltb, length, drop}
use Rattle.rows.specs.Rows.{Row, joined}
use Rattle.rules.specs.declared.Tables.{Tables}
use Rattle.rules.specs.declared.Table.TheVariants.{Creds, Aces}
use Rattle.rules.specs.Lookup.{lookup}
use Rattle.rules.specs.declared.Head.{Head}
use Rattle.rules.specs.declared.Header.{Header}
use Rattle.rules.specs.Directory.{doxm, pstat, cred, acl2, roles}
use Rattle.rules.specs.Record.{header_of, sender, retrieve}
use Rattle.rules.specs.Roles.{body_of, roles_in_force}
use Rattle.rules.specs.Tables.{table_size, head_of, rows, row_owner}
use Rattle.rules.specs.Permission.{sender_row}
use Rattle.rules.specs.Types.{Bytes, Clock, ResourceNumber, Size}

-- what an UPDATE of doxm or pstat would set to what is: owned is in the first bit, the state in the first three; the tables' resources have no such body
unfoldable pub own_body : Head → ResourceNumber → Bytes
own_body head n = lookup n ((doxm, head.owned % 2 * 128 ∷ head.devowner) ∷ (pstat, head.state % 8 * 32 ∷ []) ∷ []) []

-- the rows of a table, each as the longest body that stores it, without what is asserted; of roles those in the sender's own credential row
unfoldable pub row_bytes : Clock → Tables → Row → ResourceNumber → Bytes
row_bytes clock t own n =
    lookup n (
    (cred, joined (map body_of (rows Creds t)))
    ∷ (acl2, joined (rows Aces t))
    ∷ (roles, joined (roles_in_force clock own))
    ∷ []
    ) []

unfoldable pub contents : Clock → Tables → Row → ResourceNumber → Bytes
contents clock t cred n = own_body (head_of t) n ++ row_owner (head_of t) n ++ row_bytes clock t cred n

-- RETRIEVE of a security resource; OBSERVE gets no reply
unfoldable pub reads : Header → Bool
reads header = eqb header.verb retrieve && header.resource.configuration

-- to the sender with this credential row
unfoldable pub reply_to : Clock → Tables → Row → Header → Bytes
reply_to clock t cred header = cond (reads header) (contents clock t cred header.resource.number) []

-- to a record
abbrev pub reply_of : Clock → Tables → Bytes → Bytes
reply_of clock t r = reply_to clock t (sender_row t (sender r)) (header_of r)

-- bytes of the longest reply: a row owner, and all access rows
abbrev pub longest_reply : Size
longest_reply = 16 + table_size Aces

-- the buffer is shorter than a reply of this length
unfoldable pub too_short : Size → Size → Bool
too_short capacity long = ltb capacity long

-- the caller's buffer afterwards: the reply, and then what was there
unfoldable pub filled : Bytes → Bytes → Bytes
filled buffer reply = reply ++ drop (length reply) buffer
