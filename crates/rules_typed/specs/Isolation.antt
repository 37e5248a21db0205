-- 'The others alone': the premise on the chosen senders, read in the book's tables.
-- The chosen are any set of senders: of partners, and of the unauthenticated.
use Rattle.std.specs.Prelude.{◌≡◌, Bool, true, false, ◌&&◌, ◌||◌, not, cond, [], map}
use Rattle.rows.specs.Rows.{same}
use Rattle.rules.specs.declared.Sender.{Sender}
use Rattle.rules_typed.specs.Lists.{is_none, holds, any, Maybe, none, just}
use Rattle.rules_typed.specs.Types.{Permission, Security, AuthCrypt, Subject, IsUuid, HasRole, IsConnection, Access, Tables, Caller, Record, Credential}
use Rattle.rules_typed.specs.Directory.{security_resources}
use Rattle.rules_typed.specs.Permission.{C, U, D, has, caller_of, same_connection, resource_fits, is_owner}
use Rattle.rules_typed.specs.Bodies.{sender_of}
use Rattle.rules_typed.specs.Effect.{with_credentials}
use Rattle.rules.specs.declared.Sender.TheVariants.{Partner}

-- the sender's credential row names an owner
unfoldable pub names_owner : Tables → Sender → Bool
names_owner t s = any (is_owner t (caller_of t s)) security_resources

-- the subject fits the sender's records by rule 1; every role counts as a partner's (U11)
unfoldable pub may_fit : Caller → Subject → Bool
may_fit who (IsUuid u) = holds who.credential (λ c. same u c.subject)
may_fit who (HasRole r) = same_connection who.connection AuthCrypt
may_fit who (IsConnection c) = same_connection c who.connection

-- create, update or delete
abbrev pub alters : Permission → Bool
alters p = has p C || has p U || has p D

-- the access row, of any period (U8), gives one of them on a security resource
unfoldable pub row_alters : Access → Bool
row_alters a = any (λ s. resource_fits (Security s) a) security_resources && alters a.permission

unfoldable pub may_alter : Tables → Sender → Bool
may_alter t s = any (λ a. may_fit (caller_of t s) a.subject && row_alters a) t.accesses

-- there is an owner, no chosen sender's credential row names one, and no access row that fits a chosen sender
-- gives create, update or delete on a security resource; where nobody is chosen, nothing is asked
pub record Harmless (chosen : Sender → Bool) (t : Tables) : Type 0 where
  pub has_owner : (s : Sender) → chosen s ≡ true → is_none t.owner ≡ false
  pub not_owner : (s : Sender) → chosen s ≡ true → names_owner t s ≡ false
  pub not_granted : (s : Sender) → chosen s ≡ true → may_alter t s ≡ false

-- the premise at one point of the book's run; where there are no tables, each record gets 1, and nothing is asked
abbrev pub Premise : (Sender → Bool) → Maybe Tables → Type 0
Premise chosen none = Unit {0}
Premise chosen (just t) = Harmless chosen t

-- the record is one of the others'
abbrev pub is_others : (Sender → Bool) → Record → Bool
is_others chosen r = not (chosen (sender_of r))

-- ---- the compared tables leave the chosen partners' asserted roles out (U11)

unfoldable pub redacted : (Sender → Bool) → Credential → Credential
redacted chosen c =
    cond (chosen (Partner c.number)) (record { number = c.number; subject = c.subject; role = c.role; kind = c.kind; asserted = [] }) c

abbrev pub compared : (Sender → Bool) → Maybe Tables → Maybe Tables
compared chosen none = none
compared chosen (just t) = just (with_credentials (map (redacted chosen) t.credentials) t)
