-- Words that only theorems use: fields of replies, ranges and sets of links, and the permission of a sender on a resource.
use Rattle.std.specs.Prelude.{zero, suc, ◌+◌, ◌*◌, ◌-◌, ◌/◌, ◌%◌, ◌^◌, Bool, ◌&&◌, cond, ◌++◌, List, map, eqb, length, take, drop}
use Rattle.rows.specs.Rows.{Row, same, rows_of}
use Rattle.rules.specs.Directory.{cred, acl2, resource_of}
use Rattle.rules.specs.Types.{Bytes, Clock, Permission, ResourceNumber, Uuid, Size, ResourceSet}
use Rattle.rules.specs.Bodies.{cred_subject}
use Rattle.rules.specs.declared.Tables.{Tables}
use Rattle.rules.specs.declared.Table.{Table}
use Rattle.rules.specs.declared.Table.TheVariants.{Creds, Aces}
use Rattle.rules.specs.Record.{sender, delete, verb, resource}
use Rattle.rules.specs.Roles.{without_roles}
use Rattle.rules.specs.Tables.{longest, head_of, rows}
use Rattle.rules.specs.Permission.{sender_row, connection_of, effective_of}
use Rattle.rules.specs.declared.StoreRange.{StoreRange}
use Rattle.rules.specs.declared.Sender.{Sender}

-- the row has this subject (U3)
abbrev pub has_subject : Uuid → Row → Bool
has_subject subject cred = same (cred_subject cred) subject

-- the resource that holds a table's rows
abbrev pub holder : Table → ResourceNumber
holder Creds = cred
holder Aces = acl2

-- the rows without what is asserted
abbrev pub bare : Table → List Row → List Row
bare Creds rows = map without_roles rows
bare Aces rows = rows

abbrev pub owner_of_reply : Bytes → Uuid
owner_of_reply reply = take 16 reply

-- the rows: what follows the row owner, a body's length at a time
abbrev pub rows_of_reply : Table → Bytes → List Row
rows_of_reply table reply = rows_of (longest table) ((length reply - 16) / longest table) (drop 16 reply)

-- DELETE of the resource that holds the table's rows
unfoldable pub deletes : Table → Bytes → Bool
deletes Creds r = eqb (verb r) delete && eqb (resource r) cred
deletes Aces r = eqb (verb r) delete && eqb (resource r) acl2

-- the memory that wears, of rows of `stride` bytes: the old bytes, overwritten with the new ones in this range and nowhere else
unfoldable pub overwritten : Size → StoreRange → Bytes → Bytes → Bytes
overwritten stride range old new =
    take (range.first * stride) old
    ++ (take (range.count * stride) (drop (range.first * stride) new) ++ drop ((range.first + range.count) * stride) old)

-- the resource n, which has 6 bits, is in the set
unfoldable pub in_links : ResourceSet → ResourceNumber → Bool
in_links set n = eqb (set / 2 ^ (63 - n) % 2) 1

-- how many numbers below this one pass
unfoldable pub count_below : ResourceNumber → (ResourceNumber → Bool) → Size
count_below zero passes = 0
count_below (suc n) passes = cond (passes n) 1 0 + count_below n passes

abbrev pub effective : Clock → Tables → Sender → ResourceNumber → Permission
effective clock t sender n = effective_of clock (head_of t) (rows Aces t) (sender_row t sender) (connection_of sender) (resource_of n)
