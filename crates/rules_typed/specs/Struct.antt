-- What the types of the code give of bytes, and lists of numbers do not: each is below 256, and an array has its length.
-- A struct's field [u8; N] and a slice &[u8] hold bytes, so every caller meets this premise.
-- Each record keeps it, with tables of any content (`struct_kept`, proofs/Whole.antt), and so do calls (`calls_keep`, rules_demands/proofs/Calls.antt).
use Rattle.std.specs.Prelude.{◌≡◌, true, List, [], ◌∷◌, length}
use Rattle.rules.specs.declared.Tables.{Tables as ByteTables}
use Rattle.rules.specs.Record.{Request as ByteRequest}
use Rattle.rules.specs.Defaults.{Defaults}
use Rattle.rules.specs.Tables.{sound as soundBytes}
use Rattle.rules_typed.specs.Tables.{is_bytes}

pub record IsStruct (t : ByteTables) : Type 0 where
  pub owner_long : length t.devowner ≡ 16
  pub owners_long : length t.rowners ≡ 64
  pub creds_long : length t.creds ≡ 936
  pub aces_long : length t.aces ≡ 1152
  pub owner_bytes : is_bytes t.devowner ≡ true
  pub owners_bytes : is_bytes t.rowners ≡ true
  pub creds_bytes : is_bytes t.creds ≡ true
  pub aces_bytes : is_bytes t.aces ≡ true

-- sound tables in such arrays
pub record Given (t : ByteTables) : Type 0 where
  pub is_sound : soundBytes t ≡ true
  pub struct : IsStruct t

-- default lists of bytes, and records of bytes
pub record DefaultBytes (d : Defaults) : Type 0 where
  pub creds : is_bytes d.creds ≡ true
  pub aces : is_bytes d.aces ≡ true

abbrev pub AllBytes : List ByteRequest → Type 0
AllBytes [] = Unit {0}
AllBytes (q ∷ qs) = (is_bytes q.bytes ≡ true) × AllBytes qs
