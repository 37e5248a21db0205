-- The question: are the senders of a list isolated from all others? The answer is 'isolated', or the first reason why not.
-- It is 'isolated' exactly where the tables are sound and the premise of 'The others alone' holds (proofs/Exact.antt).
use Rattle.std.specs.Prelude.{suc, ◌/◌, ◌%◌, Bool, true, false, not, ◌&&◌, cond, List, [], ◌∷◌, eqb, length}
use Rattle.rows.specs.Rows.{Row, rows_of, rows_before, some}
use Rattle.rules.specs.declared.Tables.{Tables}
use Rattle.rules.specs.declared.Table.TheVariants.{Aces}
use Rattle.rules.specs.declared.Sender.{Sender}
use Rattle.rules.specs.declared.Sender.TheVariants.{Unauthenticated, Partner}
use Rattle.rules.specs.Bodies.{row_number}
use Rattle.rules.specs.Tables.{rows, sound}
use Rattle.rules.specs.Permission.{sender_row, connection_of}
use Rattle.rules.specs.Isolation.{names_owner, row_alters, may_fit, may_alter}
use Rattle.rules_isolation.specs.declared.Isolation.{Isolation}
use Rattle.rules_isolation.specs.declared.Isolation.TheVariants.{Isolated, OddLength, Unsound, NoOwner, NamesOwner, MayAlter}
use Rattle.rules_isolation.specs.declared.IsolationReport.{IsolationReport}
use Rattle.rules.specs.Types.{Bytes, Connection, Number}

-- ---- the list: two bytes for each sender, a credential number; 0 is the unauthenticated

abbrev pub entries : Bytes → List Row
entries list = rows_of 2 (length list / 2) list

unfoldable pub anonymous : Row → Bool
anonymous entry = eqb (row_number entry) 0

-- the sender that an entry names
unfoldable pub sender_of : Row → Sender
sender_of entry = cond (anonymous entry) Unauthenticated (Partner (row_number entry))

abbrev pub same_sender : Sender → Sender → Bool
same_sender Unauthenticated Unauthenticated = true
same_sender Unauthenticated (Partner n) = false
same_sender (Partner m) Unauthenticated = false
same_sender (Partner m) (Partner n) = eqb m n

-- the list names the sender
unfoldable pub chosen_by : Bytes → Sender → Bool
chosen_by list sender = some (λ entry. same_sender (sender_of entry) sender) (entries list)

-- ---- the reasons, in their order

unfoldable pub odd_length : Bytes → Bool
odd_length list = eqb (length list % 2) 1

-- somebody is named, and there is no owner; an empty list needs none
unfoldable pub lacks_owner : Tables → Bytes → Bool
lacks_owner t list = not (eqb (length list) 0) && eqb t.owned 0

-- the access row may fit the sender with this credential row, and gives create, update or delete on a security resource
abbrev pub lets_alter : Row → Connection → Row → Bool
lets_alter cred connection ace = may_fit cred connection ace && row_alters ace

-- the number of the sender's first such access row in the table, from 1
unfoldable pub altering_number : Tables → Sender → Number
altering_number t sender = suc (rows_before (lets_alter (sender_row t sender) (connection_of sender)) (rows Aces t))

-- of the sender at the entry with this number, if `rest` is the answer for the entries after it
unfoldable pub entry_answer : Tables → Number → Sender → Isolation → Isolation
entry_answer t number sender rest = cond (names_owner t sender) (NamesOwner number) (cond (may_alter t sender) (MayAlter number (altering_number t sender)) rest)

-- of the entries from this number on
unfoldable pub entries_answer : Tables → Number → List Row → Isolation
entries_answer t number [] = Isolated
entries_answer t number (entry ∷ rest) = entry_answer t number (sender_of entry) (entries_answer t (suc number) rest)

-- of the list
unfoldable pub isolation_of : Tables → Bytes → Isolation
isolation_of t list =
    cond (odd_length list) OddLength
    (cond (not (sound t)) Unsound
    (cond (lacks_owner t list) NoOwner
    (entries_answer t 1 (entries list))))

-- ---- for C: the numbers of the reasons

abbrev pub report_of : Isolation → IsolationReport
report_of Isolated = record { reason = 0; entry = 0; row = 0 }
report_of OddLength = record { reason = 1; entry = 0; row = 0 }
report_of Unsound = record { reason = 2; entry = 0; row = 0 }
report_of NoOwner = record { reason = 3; entry = 0; row = 0 }
report_of (NamesOwner i) = record { reason = 4; entry = i; row = 0 }
report_of (MayAlter i j) = record { reason = 5; entry = i; row = j }
