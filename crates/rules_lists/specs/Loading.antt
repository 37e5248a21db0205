-- How a list is loaded (U10): its rows, one straight after the other, each as a record of the device owner.
-- What the terminal must be for that, and what has become of it afterwards.
use Rattle.std.specs.Prelude.{◌<◌, ◌≡◌, Bool, true, ◌&&◌, List, [], ◌∷◌, ◌++◌}
use Rattle.rows.specs.Rows.{Row}
use Rattle.rules.specs.declared.Tables.{Tables}
use Rattle.rules.specs.declared.Table.TheVariants.{Aces}
use Rattle.rules.specs.Bits.{be16}
use Rattle.rules.specs.declared.Sender.{Sender}
use Rattle.rules.specs.declared.Sender.TheVariants.{Partner}
use Rattle.rules.specs.Record.{Request}
use Rattle.rules.specs.Tables.{sound}
use Rattle.rules.specs.States.{rfpro}
use Rattle.rules.specs.Defaults.{Defaults}
use Rattle.rules.specs.Permission.{sender_row, is_row, names}
use Rattle.rules.specs.Promises.Storing.{AllStored}
use Rattle.rules.specs.Types.{Bytes, Number}

-- the sender has a credential row, and it names the device owner
unfoldable pub owns_device : Tables → Sender → Bool
owns_device t sender = is_row (sender_row t sender) && names t.devowner (sender_row t sender)

-- partner n's record that stores the row: verb 2, connection 1, resource 3, six zero bits, the number, and the row as its body
unfoldable pub storing : Number → Row → Bytes
storing number ace = 0x50 ∷ 0xc0 ∷ (be16 number ++ ace)

-- the request stores the row, as a record of the device owner by one of its credential rows; its clock and buffer length are any
pub record OwnerStores (t : Tables) (q : Request) (w : Row) : Type 0 where
  pub number : Number
  pub small : number < 65536
  pub owner : owns_device t (Partner number) ≡ true
  pub stores : q.bytes ≡ storing number w

-- one request for each row, in their order; each may use another of the owner's credential rows
abbrev pub Stores : Tables → List Request → List Row → Type 0
Stores t [] [] = Unit {0}
Stores t [] (ace ∷ aces) = ⊥
Stores t (q ∷ qs) [] = ⊥
Stores t (q ∷ qs) (ace ∷ aces) = OwnerStores t q ace × Stores t qs aces

-- sound tables in RFPRO with no access rows
pub record Ready (t : Tables) : Type 0 where
  pub is_sound : sound t ≡ true
  pub in_rfpro : t.state ≡ rfpro
  pub no_aces : t.naces ≡ 0

-- each record is permitted; the access rows are then these, in their order, and nothing else is changed
abbrev pub Loaded : Defaults → Tables → List Request → List Row → Type 0
Loaded d t qs aces = AllStored d Aces t qs aces
