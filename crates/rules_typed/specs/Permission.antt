-- 'Permission': the effective permission of a caller on a resource is the union of four sources.
use Rattle.std.specs.Prelude.{◌+◌, ◌/◌, ◌%◌, Bool, true, false, ◌&&◌, ◌||◌, cond, List, eqb, leb, ltb}
use Rattle.std.specs.Int.Bits.{bit_or}
use Rattle.rows.specs.Rows.{same}
use Rattle.rules.specs.declared.Sender.{Sender}
use Rattle.rules.specs.declared.Sender.TheVariants.{Unauthenticated, Partner}
use Rattle.rules_typed.specs.Lists.{Maybe, none, just, is_none, holds, any, find, without, union}
use Rattle.rules_typed.specs.Types.{Uuid, Clock, Permission, SecurityResource, Doxm, Pstat, Cred, Acl2, Roles, Resource, Security, Application}
use Rattle.rules_typed.specs.Types.{Connection, AnonClear, AuthCrypt, Role, Asserted, Credential, Subject, IsUuid, HasRole, IsConnection, Access, Tables}
use Rattle.rules_typed.specs.Types.{Caller}
use Rattle.rules_typed.specs.Directory.{star_reaches, plus_reaches, minus_reaches}

-- ---- permission bits

abbrev pub C : Permission
C = 1

abbrev pub R : Permission
R = 2

abbrev pub U : Permission
U = 4

abbrev pub D : Permission
D = 8

-- stored, and needed by no verb
abbrev pub N : Permission
N = 16

-- all five bits, 31
abbrev pub all_bits : Permission
all_bits = C + R + U + D + N

unfoldable pub has : Permission → Permission → Bool
has p bit = eqb (p / bit % 2) 1

-- ---- the caller

abbrev pub connection_of : Sender → Connection
connection_of Unauthenticated = AnonClear
connection_of (Partner n) = AuthCrypt

-- a partner's credential row is the one with its number
abbrev pub credential_of : Tables → Sender → Maybe Credential
credential_of t Unauthenticated = none
credential_of t (Partner n) = find (λ c. eqb c.number n) t.credentials

abbrev pub caller_of : Tables → Sender → Caller
caller_of t s = record { connection = connection_of s; credential = credential_of t s }

abbrev pub same_connection : Connection → Connection → Bool
same_connection AnonClear AnonClear = true
same_connection AnonClear AuthCrypt = false
same_connection AuthCrypt AnonClear = false
same_connection AuthCrypt AuthCrypt = true

-- ---- 1. every access row whose subject, resource and period fit

-- a role fits only with its authority (U7)
unfoldable pub same_role : Role → Role → Bool
same_role r s = eqb r.role s.role && eqb r.authority s.authority

-- the same role, up to any second (U11)
abbrev pub same_asserted : Asserted → Asserted → Bool
same_asserted new a = same_role a.role new.role

-- the last second is before the clock
unfoldable pub expired : Clock → Asserted → Bool
expired clock a = ltb a.last clock

-- asserted roles fit up to their last second (U11)
unfoldable pub roles_in_force : Clock → Credential → List Asserted
roles_in_force clock c = without (expired clock) c.asserted

-- the stored role, or an asserted one in force
unfoldable pub has_role : Clock → Role → Credential → Bool
has_role clock r c = holds c.role (same_role r) || any (λ a. same_role r a.role) (roles_in_force clock c)

-- a UUID fits a credential row with that subject, a role a row that has it, a connection the same one
unfoldable pub subject_fits : Clock → Caller → Subject → Bool
subject_fits clock who (IsUuid u) = holds who.credential (λ c. same u c.subject)
subject_fits clock who (HasRole r) = holds who.credential (has_role clock r)
subject_fits clock who (IsConnection c) = same_connection c who.connection

-- the resource is in the set, or a wildcard reaches it
unfoldable pub resource_fits : Resource → Access → Bool
resource_fits e a =
    a.resources e
    || (a.wildcards.star && star_reaches e)
    || (a.wildcards.plus && plus_reaches e)
    || (a.wildcards.minus && minus_reaches e)

-- first ≤ clock ≤ last (U8)
unfoldable pub in_period : Clock → Access → Bool
in_period clock a = leb a.first clock && leb clock a.last

unfoldable pub gives : Clock → Caller → Resource → Access → Permission
gives clock who e a = cond (subject_fits clock who a.subject && resource_fits e a && in_period clock a) a.permission 0

-- ---- 2. all five bits on a security resource for the device owner, and for the resource's row owner

-- the credential's subject is this owner; where there is none, nobody is
abbrev pub names : Maybe Uuid → Credential → Bool
names none c = false
names (just owner) c = same owner c.subject

-- roles has no row owner (U11)
abbrev pub row_owner : Tables → SecurityResource → Maybe Uuid
row_owner t Doxm = t.row_owners.doxm
row_owner t Pstat = t.row_owners.pstat
row_owner t Cred = t.row_owners.cred
row_owner t Acl2 = t.row_owners.acl2
row_owner t Roles = none

unfoldable pub is_owner : Tables → Caller → SecurityResource → Bool
is_owner t who s = holds who.credential (λ c. names t.owner c || names (row_owner t s) c)

abbrev pub by_owner : Tables → Caller → Resource → Permission
by_owner t who (Security s) = cond (is_owner t who s) all_bits 0
by_owner t who (Application a) = 0

-- ---- 3. and for anyone while owned is 0

abbrev pub by_no_owner : Tables → Resource → Permission
by_no_owner t (Security s) = cond (is_none t.owner) all_bits 0
by_no_owner t (Application a) = 0

-- ---- 4. connection 1 has permission 6 on roles (U11)

abbrev pub on_roles : Connection → Permission
on_roles AnonClear = 0
on_roles AuthCrypt = R + U

abbrev pub by_connection : Caller → Resource → Permission
by_connection who (Security Doxm) = 0
by_connection who (Security Pstat) = 0
by_connection who (Security Cred) = 0
by_connection who (Security Acl2) = 0
by_connection who (Security Roles) = on_roles who.connection
by_connection who (Application a) = 0

-- ---- the union

unfoldable pub effective : Clock → Tables → Caller → Resource → Permission
effective clock t who e =
    bit_or (bit_or (bit_or
    (union (gives clock who e) t.accesses)
    (by_owner t who e))
    (by_no_owner t e))
    (by_connection who e)
