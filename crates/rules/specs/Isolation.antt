-- 'The others alone': the premise on the chosen senders, whose records the others' are, and what is compared of the tables.
-- The chosen are any set of senders: of partners, and of the unauthenticated.
use Rattle.std.specs.Prelude.{◌≡◌, Bool, true, false, not, ◌&&◌, ◌||◌, cond, map, eqb}
use Rattle.rows.specs.Rows.{Row, some}
use Rattle.rules.specs.declared.Tables.{Tables}
use Rattle.rules.specs.declared.Table.TheVariants.{Creds, Aces}
use Rattle.rules.specs.Directory.{resource_of, some_security}
use Rattle.rules.specs.declared.Sender.{Sender}
use Rattle.rules.specs.declared.Sender.TheVariants.{Partner}
use Rattle.rules.specs.Record.{Request, sender}
use Rattle.rules.specs.Bodies.{row_number, ace_permission}
use Rattle.rules.specs.Roles.{without_roles}
use Rattle.rules.specs.Tables.{head_of, rows, with_rows, sound}
use Rattle.rules.specs.Permission.{C, U, D, has, sender_row, connection_of, subject_is, resource_fits, is_owner}
use Rattle.rules.specs.Types.{Connection, Permission}

-- create, update or delete
abbrev pub alters : Permission → Bool
alters p = has p C || has p U || has p D

-- the sender's credential row names the device owner or a row owner
unfoldable pub names_owner : Tables → Sender → Bool
names_owner t sender = some_security (is_owner (head_of t) (sender_row t sender))

-- the access row gives create, update or delete on a security resource
unfoldable pub row_alters : Row → Bool
row_alters ace = some_security (λ n. resource_fits (resource_of n) ace) && alters (ace_permission ace)

-- the access row may fit the sender: every role counts as a partner's (U11)
unfoldable pub may_fit : Row → Connection → Row → Bool
may_fit cred connection ace = subject_is (eqb connection 1) cred connection ace

-- an access row that may fit the sender does
unfoldable pub may_alter : Tables → Sender → Bool
may_alter t sender = some (λ ace. may_fit (sender_row t sender) (connection_of sender) ace && row_alters ace) (rows Aces t)

-- where anybody is chosen: there is an owner, no chosen sender's credential row names one, and no
-- access row that may fit a chosen sender gives create, update or delete on a security resource
pub record Harmless (chosen : Sender → Bool) (t : Tables) : Type 0 where
  pub has_owner : (s : Sender) → chosen s ≡ true → eqb t.owned 0 ≡ false
  pub not_owner : (s : Sender) → chosen s ≡ true → names_owner t s ≡ false
  pub not_granted : (s : Sender) → chosen s ≡ true → may_alter t s ≡ false

-- the premise at one point of the book's run; tables that are not sound need none
abbrev pub Premise : (Sender → Bool) → Tables → Type 0
Premise chosen t = sound t ≡ true → Harmless chosen t

-- the record is one of the others'
abbrev pub is_others : (Sender → Bool) → Request → Bool
is_others chosen q = not (chosen (sender q.bytes))

-- ---- the compared tables (U11)

-- a credential row, without what its partner asserted where it is chosen
unfoldable pub redacted : (Sender → Bool) → Row → Row
redacted chosen cred = cond (chosen (Partner (row_number cred))) (without_roles cred) cred

-- the tables with such rows
abbrev pub redacted_in : (Sender → Bool) → Tables → Tables
redacted_in chosen t = with_rows Creds t (map (redacted chosen) (rows Creds t))

-- the tables without the asserted roles of the chosen partners; tables that are not sound are compared whole
unfoldable pub compared : (Sender → Bool) → Tables → Tables
compared chosen t = cond (sound t) (redacted_in chosen t) t

-- nobody is chosen
unfoldable pub nobody : Sender → Bool
nobody x = false
