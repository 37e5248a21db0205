-- The words of document 01 and of the requests (02), as types.
-- A sender, Unauthenticated or Partner with its credential number, is the type that the code declares.
use Rattle.std.specs.Prelude.{ℕ, Bool, List}
use Rattle.rules.specs.declared.Sender.{Sender}
use Rattle.rules_typed.specs.Lists.{Maybe}

abbrev pub Bytes : Type 0
Bytes = List ℕ

-- sixteen bytes, not all zero: the paper's nil UUID is `none` here
abbrev pub Uuid : Type 0
Uuid = List ℕ

-- seconds (U8)
abbrev pub Clock : Type 0
Clock = ℕ

-- a union of C 1, R 2, U 4, D 8, N 16
abbrev pub Permission : Type 0
Permission = ℕ

-- the number of the list of checks that applies; 0 is permitted
abbrev pub Answer : Type 0
Answer = ℕ

-- ---- the directory

pub data SecurityResource : Type 0 where
  Doxm Pstat Cred Acl2 Roles : SecurityResource

pub data ApplicationResource : Type 0 where
  Weight Tare Zero Ticket Lamp Calib Display Yard : ApplicationResource

pub data Resource : Type 0 where
  Security : SecurityResource → Resource
  Application : ApplicationResource → Resource

-- ---- the record

pub data Verb : Type 0 where
  Create Retrieve Update Delete Observe : Verb

pub data Connection : Type 0 where
  AnonClear AuthCrypt : Connection

-- a record as it is received: with the terminal's clock (U8) and the length of the reply buffer (U1)
pub record Record : Type 0 where
  pub clock : Clock
  pub capacity : ℕ
  -- how many bytes it has
  pub size : ℕ
  -- none: verb 5 to 7
  pub verb : Maybe Verb
  pub connection : Connection
  -- none: a number that the directory does not have
  pub resource : Maybe Resource
  -- the six bits that must be zero
  pub zeros : ℕ
  -- the credential number, 0 without one
  pub credential : ℕ
  -- all that follows the header
  pub body : Bytes

-- ---- the tables

pub data State : Type 0 where
  RFOTM RFPRO RFNOP SRESET : State

-- RESET is never kept
pub data Target : Type 0 where
  Reset : Target
  To : State → Target

-- a role of an authority (U7)
pub record Role : Type 0 where
  pub role : ℕ
  pub authority : ℕ

-- a role shown on the day, up to its last second (U11)
pub record Asserted : Type 0 where
  pub role : Role
  pub last : Clock

-- the type is stored and decides nothing
pub record Credential : Type 0 where
  pub number : ℕ
  pub subject : Uuid
  pub role : Maybe Role
  pub kind : ℕ
  pub asserted : List Asserted

pub data Subject : Type 0 where
  IsUuid : Uuid → Subject
  HasRole : Role → Subject
  IsConnection : Connection → Subject

-- "+", "-" and "*"
pub record Wildcards : Type 0 where
  pub plus : Bool
  pub minus : Bool
  pub star : Bool

-- it holds from its first second to its last (U8)
pub record Access : Type 0 where
  pub number : ℕ
  pub subject : Subject
  pub permission : Permission
  pub wildcards : Wildcards
  pub resources : Resource → Bool
  pub first : Clock
  pub last : Clock

pub record RowOwners : Type 0 where
  pub doxm : Maybe Uuid
  pub pstat : Maybe Uuid
  pub cred : Maybe Uuid
  pub acl2 : Maybe Uuid

-- owned is 1 where there is a device owner, and else 0
pub record Tables : Type 0 where
  pub state : State
  pub owner : Maybe Uuid
  pub row_owners : RowOwners
  pub credentials : List Credential
  pub accesses : List Access

-- ---- what a record asks for

-- all rows, or the one with a number
pub data Rows : Type 0 where
  All : Rows
  Numbered : ℕ → Rows

pub data Action : Type 0 where
  -- an application resource is served; a security resource is read
  Serve Read : Action
  SetRowOwner : SecurityResource → Maybe Uuid → Action
  SetOwner : Maybe Uuid → Action
  Move : Target → Action
  StoreCredential : Credential → Action
  StoreAccess : Access → Action
  DeleteCredentials : Rows → Action
  -- every row with the subject (U3)
  DeleteSubject : Uuid → Action
  DeleteAccesses : Rows → Action
  -- (U11)
  AssertRole : Asserted → Action

-- a record with a verb and a known resource
pub record Request : Type 0 where
  pub clock : Clock
  pub capacity : ℕ
  pub sender : Sender
  pub verb : Verb
  pub resource : Resource
  -- none: the body has another length or a forbidden value
  pub action : Maybe Action
  pub body : Bytes

-- who asks: over this connection, with this credential row
pub record Caller : Type 0 where
  pub connection : Connection
  pub credential : Maybe Credential

-- ---- what its sender gets

pub data Verdict : Type 0 where
  Permitted : Verdict
  Refused : Answer → Verdict

-- what a RETRIEVE of a security resource shows (U1)
pub data Reply : Type 0 where
  NoReply : Reply
  -- doxm and pstat: the device owner, or the state; the row owner
  OwnerReply : Maybe Uuid → Maybe Uuid → Reply
  StateReply : State → Maybe Uuid → Reply
  -- cred and acl2: the row owner, the rows
  CredentialReply : Maybe Uuid → List Credential → Reply
  AccessReply : Maybe Uuid → List Access → Reply
  -- roles: the sender's own in force (U11)
  RoleReply : List Asserted → Reply

-- rows to store: the first, counted from 0, and how many (U4)
pub record Places : Type 0 where
  pub first : ℕ
  pub count : ℕ

pub record Response : Type 0 where
  pub answer : Answer
  pub permission : Permission
  pub payload : Bytes
  pub reply : Reply
  pub store : Places
  -- the links of /yard that would be permitted (U9)
  pub links : List ApplicationResource

-- the tables are none where the bytes are no tables, before and afterwards
pub record Outcome : Type 0 where
  pub response : Response
  pub tables : Maybe Tables
