-- How bytes are read as typed values: fields by their places, zeros as none.
-- A body, a row or tables are read as the value that their fields give, if that value, written, is these bytes.
use Rattle.std.specs.Prelude.{ℕ, ◌+◌, ◌*◌, ◌/◌, ◌%◌, Bool, true, ◌&&◌, cond, List, [], ◌∷◌, map, eqb, length, take, drop}
use Rattle.rows.specs.Rows.{Row, same, all_zero, without as withoutRows, rows_of}
use Rattle.rules.specs.declared.Tables.{Tables as ByteTables}
use Rattle.rules.specs.declared.Table.TheVariants.{Creds, Aces}
use Rattle.rules.specs.Lookup.{lookup}
use Rattle.rules.specs.Bits.{bit, bits}
use Rattle.rules.specs.Record.{Request as ByteRequest}
use Rattle.rules.specs.Roles.{no_role, roles_of}
use Rattle.rules.specs.Tables.{rows}
use Rattle.rules_typed.specs.Lists.{Maybe, none, just, when}
use Rattle.rules_typed.specs.Types.{Bytes, Uuid, Verb, Create, Retrieve, Update, Delete, Observe, Connection, AnonClear, AuthCrypt, Record, State, RFOTM}
use Rattle.rules_typed.specs.Types.{RFPRO, RFNOP, SRESET, Target, Reset, To, Role, Asserted, Credential, Access, RowOwners, Tables, Subject, IsUuid}
use Rattle.rules_typed.specs.Types.{HasRole, IsConnection}
use Rattle.rules_typed.specs.Directory.{number_of, resource_of}
use Rattle.rules_typed.specs.Tables.{uuid_or_none, valid_credential, valid_access, valid_asserted, sound, fresh}
use Rattle.rules_typed.specs.Writing.{owner_bytes, target_bytes, credential_bytes, asserted_bytes, access_bytes, written_tables}
use Rattle.rules.specs.Defaults.{Defaults}

-- ---- numbers

unfoldable pub verb_of : ℕ → Maybe Verb
verb_of v = lookup v ((0, just Create) ∷ (1, just Retrieve) ∷ (2, just Update) ∷ (3, just Delete) ∷ (4, just Observe) ∷ []) none

unfoldable pub connection_as : ℕ → Connection
connection_as c = cond (eqb c 1) AuthCrypt AnonClear

unfoldable pub state_of : ℕ → State
state_of s = lookup s ((1, RFOTM) ∷ (2, RFPRO) ∷ (3, RFNOP) ∷ []) SRESET

unfoldable pub target_of : ℕ → Target
target_of s = cond (eqb s 0) Reset (To (state_of s))

-- ---- a UUID that is nil, and role 0, are none

unfoldable pub owner_of : Bytes → Maybe Uuid
owner_of u = cond (all_zero u) none (just u)

unfoldable pub role_of : ℕ → ℕ → Maybe Role
role_of role authority = cond (eqb role 0) none (just (record { role = role; authority = authority }))

-- ---- rows

-- authority (16), role (16), last second (32)
abbrev pub asserted_of : Row → Asserted
asserted_of p = record { role = record { role = bits p 16 16; authority = bits p 0 16 }; last = bits p 32 32 }

-- number (16), subject (128), role (16), authority (16), type (6), zeros (2)
abbrev pub credential_in : Row → List Asserted → Credential
credential_in w asserted = record {
  number = bits w 0 16;
  subject = take 16 (drop 2 w);
  role = role_of (bits w 144 16) (bits w 160 16);
  kind = bits w 176 6;
  asserted = asserted;
}

-- and two places of 8 bytes, of which those are used that have a role
abbrev pub credential_as : Row → Credential
credential_as w = credential_in w (map asserted_of (withoutRows no_role (roles_of w)))

unfoldable pub subject_of : Row → Subject
subject_of w =
    lookup (bits w 16 2)
    ((0, IsUuid (take 16 (drop 12 w))) ∷ (1, HasRole (record { role = bits w 208 16; authority = bits w 192 16 })) ∷ [])
    (IsConnection (connection_as (bits w 223 1)))

-- number (16), subject kind (2), permission (5), wildcards (3), zeros (6), set (64), subject (128), first (32), last (32)
abbrev pub access_of : Row → Access
access_of w = record {
  number = bits w 0 16;
  subject = subject_of w;
  permission = bits w 18 5;
  wildcards = record { plus = eqb (bits w 23 1) 1; minus = eqb (bits w 24 1) 1; star = eqb (bits w 25 1) 1 };
  resources = λ e. eqb (bit w (32 + number_of e)) 1;
  first = bits w 224 32;
  last = bits w 256 32;
}

-- ---- bodies

-- the value, if it is a valid one and these are its bytes
abbrev pub read_as : {A : Type 0} → (A → Bool) → (A → Bytes) → Bytes → A → Maybe A
read_as valid write b x = when (valid x && same (write x) b) x

-- 17 bytes: owned (1), zeros (7), device owner (128)
unfoldable pub read_owner : Bytes → Maybe (Maybe Uuid)
read_owner b = read_as uuid_or_none owner_bytes b (owner_of (drop 1 b))

-- 1 byte: target state (3), zeros (5)
unfoldable pub read_target : Bytes → Maybe Target
read_target b = read_as (λ _. true) target_bytes b (target_of (bits b 0 3))

-- 23 bytes
unfoldable pub read_credential : Bytes → Maybe Credential
read_credential b = read_as valid_credential credential_bytes b (credential_in b [])

-- 36 bytes
unfoldable pub read_access : Bytes → Maybe Access
read_access b = read_as valid_access access_bytes b (access_of b)

-- 8 bytes
unfoldable pub read_asserted : Bytes → Maybe Asserted
read_asserted b = read_as valid_asserted asserted_bytes b (asserted_of b)

-- ---- the tables

-- 16 bytes each, of doxm, pstat, cred and acl2
abbrev pub owner_at : ℕ → Bytes → Maybe Uuid
owner_at n b = owner_of (take 16 (drop (n * 16) b))

abbrev pub owners_at : Bytes → RowOwners
owners_at b = record { doxm = owner_at 0 b; pstat = owner_at 1 b; cred = owner_at 2 b; acl2 = owner_at 3 b }

abbrev pub tables_of : ByteTables → Tables
tables_of t = record {
  state = state_of t.state;
  owner = owner_of t.devowner;
  row_owners = owners_at t.rowners;
  credentials = map credential_as (rows Creds t);
  accesses = map access_of (rows Aces t);
}

unfoldable pub same_tables : ByteTables → ByteTables → Bool
same_tables t u =
    eqb t.state u.state
    && eqb t.owned u.owned
    && eqb t.ncreds u.ncreds
    && eqb t.naces u.naces
    && same t.devowner u.devowner
    && same t.rowners u.rowners
    && same t.creds u.creds
    && same t.aces u.aces

-- none: the bytes are no tables (check 1)
unfoldable pub read_tables : ByteTables → Maybe Tables
read_tables t = when (sound (tables_of t) && same_tables (written_tables (tables_of t)) t) (tables_of t)

-- ---- the default lists of a build: rows in the form of their longest bodies (U5)

abbrev pub followed : {A : Type 0} → Maybe A → Maybe (List A) → Maybe (List A)
followed none xs = none
followed (just x) none = none
followed (just x) (just xs) = just (x ∷ xs)

-- each row is read, or none
unfoldable pub read_all : {A : Type 0} → (Bytes → Maybe A) → List Bytes → Maybe (List A)
read_all read [] = just []
read_all read (w ∷ ws) = followed (read w) (read_all read ws)

-- whole rows of that many bytes
unfoldable pub read_rows : {A : Type 0} → ℕ → (Bytes → Maybe A) → Bytes → Maybe (List A)
read_rows size read b = cond (eqb (length b % size) 0) (read_all read (rows_of size (length b / size) b)) none

unfoldable pub read_fresh : Defaults → Tables
read_fresh d = fresh (read_rows 23 read_credential d.creds) (read_rows 36 read_access d.aces)

-- ---- a record: verb (3), connection (1), resource (6), zeros (6), credential number (16), body

abbrev pub read_record : ByteRequest → Record
read_record q =
    let r = q.bytes in
    record {
      clock = q.clock;
      capacity = q.capacity;
      size = length r;
      verb = verb_of (bits r 0 3);
      connection = connection_as (bits r 3 1);
      resource = resource_of (bits r 4 6);
      zeros = bits r 10 6;
      credential = bits r 16 16;
      body = drop 4 r;
    }
