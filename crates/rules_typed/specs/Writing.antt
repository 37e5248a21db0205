-- How typed values are written as bytes: each field in the paper's order of bits, most significant bit first. None is zeros.
-- What is read is what is written: a body, and tables, are read as the value of which they are the bytes (Reading).
use Rattle.std.specs.Prelude.{ℕ, zero, suc, ◌+◌, ◌*◌, ◌/◌, ◌%◌, Bool, true, cond, List, [], ◌∷◌, ◌++◌, map, length, replicate}
use Rattle.std.specs.Int.Count.{ones}
use Rattle.rows.specs.Rows.{joined, packed}
use Rattle.rules.specs.declared.Tables.{Tables as ByteTables}
use Rattle.rules.specs.declared.StoreRange.{StoreRange}
use Rattle.rules.specs.declared.Links.{Links}
use Rattle.rules.specs.Bits.{be16}
use Rattle.rules.specs.Links.{set_of}
use Rattle.rules.specs.Outcome.{Response as ByteResponse, Outcome as ByteOutcome}
use Rattle.rules_typed.specs.Lists.{Maybe, none, just, holds}
use Rattle.rules_typed.specs.Types.{Bytes, Uuid, Resource, Application, Connection, AnonClear, AuthCrypt, Target, Reset, To, Role, Asserted, Credential}
use Rattle.rules_typed.specs.Types.{Subject, IsUuid, HasRole, IsConnection, Access, RowOwners, Tables, Reply, NoReply, OwnerReply, StateReply}
use Rattle.rules_typed.specs.Types.{CredentialReply, AccessReply, RoleReply, Places, Response, Outcome}
use Rattle.rules_typed.specs.Directory.{number_of, resource_of}
use Rattle.rules_typed.specs.States.{state_number}

-- ---- numbers

abbrev pub flag : Bool → ℕ
flag b = cond b 1 0

-- 32 bits
unfoldable pub be32 : ℕ → Bytes
be32 n = be16 (n / 65536) ++ be16 (n % 65536)

abbrev pub connection_number : Connection → ℕ
connection_number AnonClear = 0
connection_number AuthCrypt = 1

abbrev pub target_number : Target → ℕ
target_number Reset = 0
target_number (To s) = state_number s

-- ---- owners: the nil UUID, sixteen zero bytes, is nobody

unfoldable pub nil : Bytes
nil = replicate 16 0

abbrev pub uuid_bytes : Maybe Uuid → Bytes
uuid_bytes none = nil
uuid_bytes (just u) = u

abbrev pub owned_number : Maybe Uuid → ℕ
owned_number none = 0
owned_number (just u) = 1

-- doxm, 17 bytes: owned (1), zeros (7), device owner (128)
unfoldable pub owner_bytes : Maybe Uuid → Bytes
owner_bytes owner = owned_number owner * 128 ∷ uuid_bytes owner

-- pstat, 1 byte: target state (3), zeros (5)
unfoldable pub target_bytes : Target → Bytes
target_bytes target = target_number target * 32 ∷ []

-- ---- cred, 23 bytes: number (16), subject (128), role (16), authority (16), type (6), zeros (2)

abbrev pub role_bytes : Maybe Role → Bytes
role_bytes none = 0 ∷ 0 ∷ 0 ∷ 0 ∷ []
role_bytes (just r) = be16 r.role ++ be16 r.authority

unfoldable pub credential_bytes : Credential → Bytes
credential_bytes c = be16 c.number ++ (c.subject ++ (role_bytes c.role ++ (c.kind * 4 ∷ [])))

-- ---- roles, 8 bytes: authority (16), role (16), last second (32)

unfoldable pub asserted_bytes : Asserted → Bytes
asserted_bytes a = be16 a.role.authority ++ (be16 a.role.role ++ be32 a.last)

-- ---- acl2, 36 bytes: number (16), subject kind (2), permission (5), wildcards (3), zeros (6), set (64), subject (128), first (32), last (32)

abbrev pub kind_number : Subject → ℕ
kind_number (IsUuid u) = 0
kind_number (HasRole r) = 1
kind_number (IsConnection c) = 2

-- a role has its authority before it, and both zeros; a connection zeros
abbrev pub subject_bytes : Subject → Bytes
subject_bytes (IsUuid u) = u
subject_bytes (HasRole r) = replicate 12 0 ++ (be16 r.authority ++ be16 r.role)
subject_bytes (IsConnection c) = replicate 15 0 ++ (connection_number c ∷ [])

-- the resource with this number is in the set; no unknown one is
unfoldable pub in_set : (Resource → Bool) → ℕ → Bool
in_set set n = holds (resource_of n) set

-- a bit for each of that many numbers, the first on top
unfoldable pub bits_from : (Resource → Bool) → ℕ → ℕ → ℕ
bits_from set start zero = 0
bits_from set start (suc n) = bits_from set start n * 2 + flag (in_set set (start + n))

-- the top bit is resource 0
unfoldable pub set_bytes : (Resource → Bool) → Bytes
set_bytes s =
    bits_from s 0 8 ∷ bits_from s 8 8 ∷ bits_from s 16 8 ∷ bits_from s 24 8 ∷ bits_from s 32 8 ∷ bits_from s 40 8 ∷ bits_from s 48 8 ∷ bits_from s 56 8 ∷ []

unfoldable pub access_bytes : Access → Bytes
access_bytes a =
    be16 a.number
    ++ ((kind_number a.subject * 64 + a.permission * 2 + flag a.wildcards.plus) ∷ (flag a.wildcards.minus * 128 + flag a.wildcards.star * 64)
    ∷ [])
    ++ set_bytes a.resources
    ++ subject_bytes a.subject
    ++ be32 a.first
    ++ be32 a.last

-- ---- the tables: rows in order of arrival, and zeros in all unused ones

-- a credential row, 39 bytes: its body, and two places for asserted roles
unfoldable pub credential_row : Credential → Bytes
credential_row c = credential_bytes c ++ packed 16 (map asserted_bytes c.asserted)

abbrev pub row_owner_bytes : RowOwners → Bytes
row_owner_bytes os = uuid_bytes os.doxm ++ (uuid_bytes os.pstat ++ (uuid_bytes os.cred ++ uuid_bytes os.acl2))

-- 24 credential rows of 39 bytes, 32 access rows of 36
abbrev pub written_tables : Tables → ByteTables
written_tables t = record {
  state = state_number t.state;
  owned = owned_number t.owner;
  ncreds = length t.credentials;
  naces = length t.accesses;
  devowner = uuid_bytes t.owner;
  rowners = row_owner_bytes t.row_owners;
  creds = packed 936 (map credential_row t.credentials);
  aces = packed 1152 (map access_bytes t.accesses);
}

-- ---- the response

abbrev pub reply_bytes : Reply → Bytes
reply_bytes NoReply = []
reply_bytes (OwnerReply owner row_owner) = owner_bytes owner ++ uuid_bytes row_owner
reply_bytes (StateReply state row_owner) = target_bytes (To state) ++ uuid_bytes row_owner
reply_bytes (CredentialReply row_owner cs) = uuid_bytes row_owner ++ joined (map credential_bytes cs)
reply_bytes (AccessReply row_owner xs) = uuid_bytes row_owner ++ joined (map access_bytes xs)
reply_bytes (RoleReply rs) = joined (map asserted_bytes rs)

abbrev pub written_places : Places → StoreRange
written_places p = record { first = p.first; count = p.count }

-- a set of 64 bits, top bit for resource 0, and its size
unfoldable pub written_links : List ℕ → Links
written_links ns = record { set = set_of (λ _. true) ns; size = ones (set_of (λ _. true) ns) }

abbrev pub written : Response → ByteResponse
written r = record {
  answer = r.answer;
  permission = r.permission;
  payload = r.payload;
  contents = reply_bytes r.reply;
  store = written_places r.store;
  links = written_links (map (λ a. number_of (Application a)) r.links);
}

-- bytes that are no tables stay as they were
abbrev pub written_or : ByteTables → Maybe Tables → ByteTables
written_or bytes none = bytes
written_or bytes (just t) = written_tables t

abbrev pub written_outcome : ByteTables → Outcome → ByteOutcome
written_outcome bytes o = record { response = written o.response; tables = written_or bytes o.tables }
