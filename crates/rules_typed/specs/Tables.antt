-- 'The tables': when they are sound, and the fresh ones.
-- Sound tables are those that can be written: the bytes are read as none, and the answer is 1, if they are not (Reading).
use Rattle.std.specs.Prelude.{ℕ, Bool, true, not, ◌&&◌, ◌||◌, cond, List, [], ◌∷◌, eqb, leb, ltb, length}
use Rattle.std.specs.Int.Count.{ones}
use Rattle.rows.specs.Rows.{all_zero}
use Rattle.rules_typed.specs.Lists.{Maybe, none, just, is_none, all, distinct}
use Rattle.rules_typed.specs.Types.{Bytes, Uuid, RFOTM, Role, Asserted, Credential, Subject, IsUuid, HasRole, IsConnection, Access, Tables}
use Rattle.rules_typed.specs.Permission.{same_asserted}
use Rattle.rules_typed.specs.States.{is_state}

-- ---- each row is a row that a body could store

unfoldable pub is_bytes : List ℕ → Bool
is_bytes [] = true
is_bytes (b ∷ bs) = ltb b 256 && is_bytes bs

-- sixteen bytes, not nil
unfoldable pub is_uuid : Bytes → Bool
is_uuid u = eqb (length u) 16 && is_bytes u && not (all_zero u)

abbrev pub uuid_or_none : Maybe Uuid → Bool
uuid_or_none none = true
uuid_or_none (just u) = is_uuid u

-- 16 bits, not 0: of a row, and of a role
unfoldable pub is_number : ℕ → Bool
is_number n = not (eqb n 0) && ltb n 65536

unfoldable pub valid_role : Role → Bool
valid_role r = is_number r.role && ltb r.authority 65536

abbrev pub role_or_none : Maybe Role → Bool
role_or_none none = true
role_or_none (just r) = valid_role r

unfoldable pub valid_asserted : Asserted → Bool
valid_asserted a = valid_role a.role && ltb a.last 4294967296

-- a type of six bits, at most one of them set; at most two asserted roles, distinct (U11)
unfoldable pub valid_credential : Credential → Bool
valid_credential c =
    is_number c.number
    && is_uuid c.subject
    && role_or_none c.role
    && (ltb c.kind 64 && leb (ones c.kind) 1)
    && (leb (length c.asserted) 2 && all valid_asserted c.asserted && distinct same_asserted c.asserted)

abbrev pub valid_subject : Subject → Bool
valid_subject (IsUuid u) = is_uuid u
valid_subject (HasRole r) = valid_role r
valid_subject (IsConnection c) = true

-- five bits of permission; first no later than last (U8)
unfoldable pub valid_access : Access → Bool
valid_access a =
    is_number a.number
    && valid_subject a.subject
    && ltb a.permission 32
    && (leb a.first a.last && ltb a.last 4294967296)

-- ---- sound tables

abbrev pub same_credential : Credential → Credential → Bool
same_credential c d = eqb d.number c.number

abbrev pub same_access : Access → Access → Bool
same_access a b = eqb b.number a.number

-- up to 24 credential rows and 32 access rows, numbers distinct, and a state other than 1 has owned 1
unfoldable pub sound : Tables → Bool
sound t =
    leb (length t.credentials) 24
    && leb (length t.accesses) 32
    && all valid_credential t.credentials
    && all valid_access t.accesses
    && distinct same_credential t.credentials
    && distinct same_access t.accesses
    && (uuid_or_none t.owner && uuid_or_none t.row_owners.doxm && uuid_or_none t.row_owners.pstat && uuid_or_none t.row_owners.cred && uuid_or_none
    t.row_owners.acl2)
    && (is_state t.state RFOTM || not (is_none t.owner))

-- ---- fresh tables: state 1, owned 0, owners nil, and the build's default rows (U5)

abbrev pub fresh_tables : List Credential → List Access → Tables
fresh_tables cs xs =
    record { state = RFOTM; owner = none; row_owners = record { doxm = none; pstat = none; cred = none; acl2 = none }; credentials = cs; accesses = xs }

-- of a list of rows that bodies could store, none if there is another among them: a list with more than two rows
-- or a number twice counts as none too
abbrev pub default_credentials : Maybe (List Credential) → List Credential
default_credentials none = []
default_credentials (just cs) = cond (leb (length cs) 2 && distinct same_credential cs) cs []

abbrev pub default_accesses : Maybe (List Access) → List Access
default_accesses none = []
default_accesses (just xs) = cond (leb (length xs) 2 && distinct same_access xs) xs []

abbrev pub fresh : Maybe (List Credential) → Maybe (List Access) → Tables
fresh cs xs = fresh_tables (default_credentials cs) (default_accesses xs)

-- the clear button takes tables of any content and gives the fresh ones
abbrev pub cleared : Tables → Maybe Tables → Tables
cleared fresh tables = fresh
