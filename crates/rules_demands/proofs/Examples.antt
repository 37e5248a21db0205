-- The paper's examples on the rules as one reads them: the fourteen rows of 'Why a record is refused', the worked run, the readings to guard against.
-- Each is computed from the definitions.
use Rattle.rows.proofs.Prelude.{◌≡◌, refl, true, false, List, [], ◌∷◌, ◌++◌, map, ℕ, zero, suc, replicate, ones, or-false, Bool, eqb, eqb-true, contradiction}
use Rattle.rows.specs.Rows.{same, all_zero}
use Rattle.rules.specs.declared.Sender.{Sender}
use Rattle.rules.specs.declared.Sender.TheVariants.{Unauthenticated, Partner}
use Rattle.rules.specs.Bits.{bit, bits, be16}
use Rattle.rules.specs.Record.{received}
use Rattle.rules.specs.Run.{Along}
use Rattle.rules_typed.specs.Lists.{Maybe, none, just, when, any, all, find, without, put, distinct, union}
use Rattle.rules_typed.specs.Types.{Bytes, Uuid, Permission, Security, Application, Acl2, Weight, Connection, AnonClear, AuthCrypt, RFPRO, RFNOP, State, To}
use Rattle.rules_typed.specs.Types.{Credential, IsConnection}
use Rattle.rules_typed.specs.Types.{Access, Tables, Caller, Outcome}
use Rattle.rules_typed.specs.Directory.{resource_of}
use Rattle.rules_typed.specs.Permission.{has, caller_of, same_role, expired, roles_in_force, has_role, subject_fits, resource_fits, in_period, gives, is_owner}
use Rattle.rules_typed.specs.Permission.{effective}
use Rattle.rules_typed.specs.States.{state_number, is_state, may_move}
use Rattle.rules_typed.specs.Tables.{is_bytes, is_uuid, is_number, valid_role, valid_asserted, valid_credential, valid_access, sound, fresh_tables}
use Rattle.rules_typed.specs.Writing.{nil, be32, owner_bytes, target_bytes, credential_bytes, asserted_bytes}
use Rattle.rules_typed.specs.Reading.{verb_of, connection_as, state_of, target_of, owner_of, role_of, read_owner, read_target, read_credential, read_access, read_asserted}
use Rattle.rules_typed.specs.Reading.{read_record}
use Rattle.rules_typed.specs.Bodies.{read, new_row_owner, row_numbered, sender_of}
use Rattle.rules_typed.specs.Checks.{both_taken, verdict}
use Rattle.rules_typed.specs.Outcome.{gap, links_of, outcome, next}
use Rattle.rules_typed.specs.Isolation.{names_owner, may_fit, row_alters, may_alter, Harmless, Premise}

-- `unfolding definitions` opens all that this line names
unfoldable definitions : Unit {0}
unfolding same all_zero bit bits be16 when any all find without put distinct union resource_of has same_role expired roles_in_force has_role subject_fits
    resource_fits in_period gives is_owner effective is_state is_bytes is_uuid is_number valid_role valid_asserted valid_credential valid_access sound nil be32
    owner_bytes target_bytes credential_bytes asserted_bytes verb_of connection_as state_of target_of owner_of role_of read_owner read_target read_credential read_access
    read_asserted read new_row_owner row_numbered sender_of both_taken verdict gap links_of outcome ones names_owner may_fit
    row_alters may_alter
definitions = tt

-- ---- what the examples are made of

-- sixteen bytes 11
abbrev U : Uuid
U = replicate 16 17

abbrev fresh : Tables
fresh = fresh_tables [] []

abbrev credential : ℕ → Credential
credential n = record { number = n; subject = U; role = none; kind = 1; asserted = [] }

-- numbered from n down to 1
abbrev credentials : ℕ → List Credential
credentials zero = []
credentials (suc n) = credential (suc n) ∷ credentials n

abbrev holding : ℕ → Tables
holding n = fresh_tables (credentials n) []

-- RFPRO, owner in row 5
abbrev owned : Tables
owned = record { state = RFPRO; owner = just U; row_owners = fresh.row_owners; credentials = credential 5 ∷ []; accesses = [] }

abbrev judged : Maybe Tables → Bytes → Outcome
judged tables r = outcome fresh tables (read_record (received 0 r 1168))

-- ---- the fourteen rows

-- tables that claim 25 credential rows are not sound
overfull : sound (holding 25) ≡ false
unfolding definitions
overfull = refl

abbrev examples : List (Maybe Tables × Bytes)
examples =
    (when (sound (holding 25)) (holding 25), [])
    ∷ (just fresh, 0x40 ∷ 0x80 ∷ 0x00 ∷ [])
    ∷ (just fresh, 0xa2 ∷ 0x00 ∷ 0x00 ∷ 0x00 ∷ [])
    ∷ (just fresh, 0x22 ∷ 0x01 ∷ 0x00 ∷ 0x00 ∷ [])
    ∷ (just fresh, 0x22 ∷ 0x00 ∷ 0x00 ∷ 0x05 ∷ [])
    ∷ (just fresh, 0x21 ∷ 0x40 ∷ 0x00 ∷ 0x00 ∷ [])
    ∷ (just fresh, 0x32 ∷ 0x00 ∷ 0x00 ∷ 0x09 ∷ [])
    ∷ (just fresh, 0x22 ∷ 0x00 ∷ 0x00 ∷ 0x00 ∷ [])
    ∷ (just fresh, 0x00 ∷ 0xc0 ∷ 0x00 ∷ 0x00 ∷ [])
    ∷ (just fresh, 0x40 ∷ 0x40 ∷ 0x00 ∷ 0x00 ∷ 0xa0 ∷ [])
    ∷ (just owned, 0x50 ∷ 0x00 ∷ 0x00 ∷ 0x05 ∷ 0x80 ∷ U)
    ∷ (just fresh, 0x40 ∷ 0x40 ∷ 0x00 ∷ 0x00 ∷ 0x60 ∷ [])
    ∷ (just fresh, 0x60 ∷ 0x80 ∷ 0x00 ∷ 0x00 ∷ 0x00 ∷ 0x05 ∷ [])
    ∷ (just (holding 24), 0x40 ∷ 0x80 ∷ 0x00 ∷ 0x00 ∷ 0x00 ∷ 0x19 ∷ U ++ 0x00 ∷ 0x00 ∷ 0x04 ∷ [])
    ∷ []

pub fourteen_typed : map (λ (e : Maybe Tables × Bytes). (judged e.0 e.1).response.answer) examples
    ≡ 1 ∷ 2 ∷ 3 ∷ 4 ∷ 5 ∷ 6 ∷ 7 ∷ 8 ∷ 9 ∷ 10 ∷ 11 ∷ 12 ∷ 13 ∷ 14 ∷ []
unfolding definitions
fourteen_typed = refl

-- ---- the worked run

abbrev state_in : Maybe Tables → ℕ
state_in none = 0
state_in (just t) = state_number t.state

-- the answer, the permission and the state afterwards of each record
abbrev lines : Maybe Tables → List Bytes → List (ℕ × ℕ × ℕ)
lines tables [] = []
lines tables (r ∷ rs) =
    let o = judged tables r in
    (o.response.answer, o.response.permission, state_in o.tables) ∷ lines o.tables rs

pub worked_typed : lines (just fresh) (
    (0x40 ∷ 0x80 ∷ 0x00 ∷ 0x00 ∷ 0x00 ∷ 0x05 ∷ U ++ 0x00 ∷ 0x00 ∷ 0x04 ∷ [])
    ∷ (0x40 ∷ 0x00 ∷ 0x00 ∷ 0x00 ∷ 0x80 ∷ U)
    ∷ (0x40 ∷ 0x40 ∷ 0x00 ∷ 0x00 ∷ 0x40 ∷ [])
    ∷ (0x50 ∷ 0x40 ∷ 0x00 ∷ 0x05 ∷ 0x40 ∷ [])
    ∷ (0x50 ∷ 0x40 ∷ 0x00 ∷ 0x05 ∷ 0x40 ∷ [])
    ∷ []) ≡ (0, 31, 1) ∷ (0, 31, 1) ∷ (8, 0, 1) ∷ (0, 31, 2) ∷ (12, 0, 2) ∷ []
unfolding definitions
worked_typed = refl

-- ---- the readings to guard against

-- a row for anybody over a connection, on every resource that "*" reaches, at every second
abbrev star : Connection → Permission → Access
star c p = record {
  number = 1;
  subject = IsConnection c;
  permission = p;
  wildcards = record { plus = false; minus = false; star = true };
  resources = λ _. false;
  first = 0;
  last = 4294967295;
}

abbrev with : List Access → Tables
with xs = record { state = RFPRO; owner = just U; row_owners = fresh.row_owners; credentials = []; accesses = xs }

abbrev stranger : Caller
stranger = caller_of (with []) Unauthenticated

-- rows with 1 and 4 together give 5
pub together : effective 0 (with (star AnonClear 1 ∷ star AnonClear 4 ∷ [])) stranger (Application Weight) ≡ 5
unfolding definitions
together = refl

-- "*" does not reach /oic/sec/acl2
pub star_stops : resource_fits (Security Acl2) (star AnonClear 31) ≡ false
unfolding definitions
star_stops = refl

-- a nil row owner fits nobody
pub nil_nobody : (c : Credential) → is_owner (with []) (record { connection = AuthCrypt; credential = just c }) Acl2 ≡ same U c.subject
unfolding is_owner
nil_nobody c = or-false (same U c.subject)

-- a row for auth-crypt does not fit anon-clear
pub not_in_clear : subject_fits 0 stranger (IsConnection AuthCrypt) ≡ false
unfolding definitions
not_in_clear = refl

-- a stranger with a malformed body learns 8, not 10
pub learns_eight : (judged (just (with [])) (0x40 ∷ 0xc0 ∷ 0x00 ∷ 0x00 ∷ 0x07 ∷ [])).response.answer ≡ 8
unfolding definitions
learns_eight = refl

-- a target equal to the present state does not pass
pub no_stay : may_move RFPRO (just U) (To RFPRO) ≡ false
unfolding definitions
no_stay = refl

-- ---- the others alone

-- sixteen bytes 22
abbrev W : Uuid
W = replicate 16 34

-- the owner has row 5, another partner row 7; over auth-crypt all may read
abbrev shared : State → Tables
shared s = record {
  state = s;
  owner = just U;
  row_owners = fresh.row_owners;
  credentials = credential 5 ∷ record { number = 7; subject = W; role = none; kind = 1; asserted = [] } ∷ [];
  accesses = star AuthCrypt 2 ∷ [];
}

abbrev chosen_as : ℕ → Sender → Bool
chosen_as m Unauthenticated = false
chosen_as m (Partner n) = eqb n m

seven_owns_nothing : (s : State) (x : Sender) → chosen_as 7 x ≡ true → names_owner (shared s) x ≡ false
unfolding definitions
seven_owns_nothing s Unauthenticated c = contradiction c refl
seven_owns_nothing s (Partner n) c = rw (eqb-true n 7 c)

seven_alters_nothing : (s : State) (x : Sender) → chosen_as 7 x ≡ true → may_alter (shared s) x ≡ false
unfolding definitions
seven_alters_nothing s Unauthenticated c = contradiction c refl
seven_alters_nothing s (Partner n) c = refl

-- partner 7 is harmless
seven_harmless : (s : State) → Harmless (chosen_as 7) (shared s)
unfolding definitions
seven_harmless s = record {
  has_owner = λ x c. refl;
  not_owner = seven_owns_nothing s;
  not_granted = seven_alters_nothing s;
}

-- the premise holds along a run in which the owner moves the state
pub premise_holds : Along (next fresh) (Premise (chosen_as 7)) (just (shared RFPRO)) (
    read_record (received 0 (0x50 ∷ 0x40 ∷ 0x00 ∷ 0x05 ∷ 0x60 ∷ []) 1168) ∷ [])
unfolding definitions
premise_holds = (seven_harmless RFPRO, seven_harmless RFNOP)

-- the owner is not
pub owner_is_not : names_owner (shared RFPRO) (Partner 5) ≡ true
unfolding definitions
owner_is_not = refl
