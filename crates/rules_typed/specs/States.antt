-- 'Device states': the writes that each state allows, and the moves from state to state.
use Rattle.std.specs.Prelude.{ℕ, Bool, true, false, not, ◌&&◌, List, [], ◌∷◌, eqb}
use Rattle.rules_typed.specs.Lists.{Maybe, none, just, is_none, any}
use Rattle.rules_typed.specs.Types.{Uuid, Connection, AuthCrypt, State, RFOTM, RFPRO, RFNOP, SRESET, Target, Reset, To, Action, Serve, Read, SetRowOwner}
use Rattle.rules_typed.specs.Types.{SetOwner, Move, StoreCredential, StoreAccess, DeleteCredentials, DeleteSubject, DeleteAccesses, AssertRole}
use Rattle.rules_typed.specs.Permission.{same_connection}

abbrev pub state_number : State → ℕ
state_number RFOTM = 1
state_number RFPRO = 2
state_number RFNOP = 3
state_number SRESET = 4

unfoldable pub is_state : State → State → Bool
is_state s other = eqb (state_number s) (state_number other)

-- ---- what a state allows: 11 if it does not

-- a row of the paper's table; whether a doxm body is allowed may depend on the owner that it names
pub record Allowed : Type 0 where
  pub doxm : Maybe Uuid → Bool
  pub row_owners : Bool
  pub rows : Bool
  pub target : Bool

abbrev pub yes : Maybe Uuid → Bool
yes owner = true

abbrev pub no : Maybe Uuid → Bool
no owner = false

abbrev pub owned : Maybe Uuid → Bool
owned owner = not (is_none owner)

abbrev pub row : (Maybe Uuid → Bool) → Bool → Bool → Bool → Allowed
row doxm row_owners rows target = record { doxm = doxm; row_owners = row_owners; rows = rows; target = target }

-- doxm 17 bytes, row owners, cred and acl2 rows, target state
abbrev pub allowed : State → Allowed
allowed RFOTM = row yes true true true
allowed RFPRO = row no false true true
allowed RFNOP = row no false false true
allowed SRESET = row owned true true true

-- security resources are read in every state; application resources are served in RFNOP only;
-- roles are asserted in RFNOP and over connection 1 only (U11)
abbrev pub state_allows : State → Connection → Action → Bool
state_allows s c Serve = is_state s RFNOP
state_allows s c Read = true
state_allows s c (SetRowOwner e owner) = (allowed s).row_owners
state_allows s c (SetOwner owner) = (allowed s).doxm owner
state_allows s c (Move target) = (allowed s).target
state_allows s c (StoreCredential row) = (allowed s).rows
state_allows s c (StoreAccess row) = (allowed s).rows
state_allows s c (DeleteCredentials which) = (allowed s).rows
state_allows s c (DeleteSubject subject) = (allowed s).rows
state_allows s c (DeleteAccesses which) = (allowed s).rows
state_allows s c (AssertRole role) = is_state s RFNOP && same_connection c AuthCrypt

-- ---- targets: 12 if it is not on the list

-- RESET from every state; in addition these, from RFOTM only if owned is 1
abbrev pub targets : State → Maybe Uuid → List State
targets RFOTM none = []
targets RFOTM (just owner) = RFPRO ∷ []
targets RFPRO owner = RFNOP ∷ SRESET ∷ []
targets RFNOP owner = RFPRO ∷ SRESET ∷ []
targets SRESET owner = RFPRO ∷ []

abbrev pub may_move : State → Maybe Uuid → Target → Bool
may_move s owner Reset = true
may_move s owner (To target) = any (is_state target) (targets s owner)
