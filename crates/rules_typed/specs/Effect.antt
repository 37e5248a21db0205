-- What becomes of the tables: the effect of a permitted record.
-- RETRIEVE, OBSERVE and application resources change none.
use Rattle.std.specs.Prelude.{List}
use Rattle.rules_typed.specs.Lists.{Maybe, none, just, without, put}
use Rattle.rules_typed.specs.Types.{Uuid, Clock, SecurityResource, Doxm, Pstat, Cred, Acl2, Roles, State, Reset, To, Asserted, Credential, Access}
use Rattle.rules_typed.specs.Types.{RowOwners, Tables, Action, Serve, Read, SetRowOwner, SetOwner, Move, StoreCredential, StoreAccess, DeleteCredentials}
use Rattle.rules_typed.specs.Types.{DeleteSubject, DeleteAccesses, AssertRole, Caller}
use Rattle.rules_typed.specs.Permission.{same_asserted, roles_in_force}
use Rattle.rules_typed.specs.Checks.{has_number, has_subject, is_numbered, of_credentials, of_accesses}

-- ---- tables that differ in one thing

abbrev pub with_state : State → Tables → Tables
with_state s t = record { state = s; owner = t.owner; row_owners = t.row_owners; credentials = t.credentials; accesses = t.accesses }

abbrev pub with_owner : Maybe Uuid → Tables → Tables
with_owner owner t = record { state = t.state; owner = owner; row_owners = t.row_owners; credentials = t.credentials; accesses = t.accesses }

abbrev pub with_row_owners : RowOwners → Tables → Tables
with_row_owners owners t = record { state = t.state; owner = t.owner; row_owners = owners; credentials = t.credentials; accesses = t.accesses }

abbrev pub with_credentials : List Credential → Tables → Tables
with_credentials cs t = record { state = t.state; owner = t.owner; row_owners = t.row_owners; credentials = cs; accesses = t.accesses }

abbrev pub with_accesses : List Access → Tables → Tables
with_accesses xs t = record { state = t.state; owner = t.owner; row_owners = t.row_owners; credentials = t.credentials; accesses = xs }

-- the new row owner of one resource; roles has none (U11)
abbrev pub set_row_owner : SecurityResource → Maybe Uuid → RowOwners → RowOwners
set_row_owner Doxm owner os = record { doxm = owner; pstat = os.pstat; cred = os.cred; acl2 = os.acl2 }
set_row_owner Pstat owner os = record { doxm = os.doxm; pstat = owner; cred = os.cred; acl2 = os.acl2 }
set_row_owner Cred owner os = record { doxm = os.doxm; pstat = os.pstat; cred = owner; acl2 = os.acl2 }
set_row_owner Acl2 owner os = record { doxm = os.doxm; pstat = os.pstat; cred = os.cred; acl2 = owner }
set_row_owner Roles owner os = os

-- ---- rows

-- a number already held replaces that row in its place, any other goes to the end
abbrev pub stored : Credential → Tables → Tables
stored c t = with_credentials (put (has_number c.number) c t.credentials) t

-- the roles that are not in force are removed first; an equal role gets the new last second in its place (U11)
abbrev pub with_role : Clock → Asserted → Credential → Credential
with_role clock r c =
    record { number = c.number; subject = c.subject; role = c.role; kind = c.kind; asserted = put (same_asserted r) r (roles_in_force clock c) }

-- in the sender's own credential row
abbrev pub asserting : Clock → Asserted → Maybe Credential → Tables → Tables
asserting clock r none t = t
asserting clock r (just c) t = stored (with_role clock r c) t

-- ---- by the action; entering RESET gives the fresh tables immediately

abbrev pub effect : Tables → Clock → Tables → Caller → Action → Tables
effect fresh clock t who Serve = t
effect fresh clock t who Read = t
effect fresh clock t who (SetRowOwner s owner) = with_row_owners (set_row_owner s owner t.row_owners) t
effect fresh clock t who (SetOwner owner) = with_owner owner t
effect fresh clock t who (Move Reset) = fresh
effect fresh clock t who (Move (To s)) = with_state s t
effect fresh clock t who (StoreCredential c) = stored c t
effect fresh clock t who (StoreAccess a) = with_accesses (put (is_numbered a.number) a t.accesses) t
effect fresh clock t who (DeleteCredentials which) = with_credentials (without (of_credentials which) t.credentials) t
effect fresh clock t who (DeleteSubject u) = with_credentials (without (has_subject u) t.credentials) t
effect fresh clock t who (DeleteAccesses which) = with_accesses (without (of_accesses which) t.accesses) t
effect fresh clock t who (AssertRole r) = asserting clock r who.credential t

-- no body, no effect: a request without an action is refused
abbrev pub effect_of : Tables → Clock → Tables → Caller → Maybe Action → Tables
effect_of fresh clock t who none = t
effect_of fresh clock t who (just a) = effect fresh clock t who a
