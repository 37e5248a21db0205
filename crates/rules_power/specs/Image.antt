-- The image of a terminal: the bytes of the tables in the order of the struct, and with them the queue.
-- Every field is a byte or an array of bytes, so no image depends on padding or on the order of bytes.
use Rattle.std.specs.Prelude.{◌+◌, ◌≡◌, ◌∷◌, ◌++◌, length, take, drop, get_or}
use Rattle.rules.specs.declared.Tables.{Tables}
use Rattle.rules.specs.declared.Table.TheVariants.{Creds, Aces}
use Rattle.rules.specs.Tables.{table_size}
use Rattle.rules_terminal.specs.Slots.{queue_size}
use Rattle.rules_terminal.specs.Terminal.{Terminal, terminal}
use Rattle.rules.specs.Types.{Bytes, Offset, Size}
use Rattle.rules_store.specs.Store.{Image}

-- ---- written

unfoldable pub tables_image : Tables → Image
tables_image t = t.state ∷ t.owned ∷ t.ncreds ∷ t.naces ∷ (t.devowner ++ (t.rowners ++ (t.creds ++ t.aces)))

unfoldable pub terminal_image : Terminal → Image
terminal_image x = tables_image x.tables ++ x.queue

-- where the rows of each table begin: after four bytes, the device owner and four row owners
abbrev pub creds_at : Offset
creds_at = 4 + 16 + 64

abbrev pub aces_at : Offset
aces_at = creds_at + table_size Creds

abbrev pub tables_size : Size
tables_size = aces_at + table_size Aces

abbrev pub terminal_size : Size
terminal_size = tables_size + queue_size

-- ---- read

unfoldable pub field : Size → Offset → Image → Bytes
field size at bytes = take size (drop at bytes)

unfoldable pub tables_in : Image → Tables
tables_in bytes = record {
  state = get_or bytes 0 0;
  owned = get_or bytes 1 0;
  ncreds = get_or bytes 2 0;
  naces = get_or bytes 3 0;
  devowner = field 16 4 bytes;
  rowners = field 64 20 bytes;
  creds = field (table_size Creds) creds_at bytes;
  aces = field (table_size Aces) aces_at bytes;
}

unfoldable pub terminal_in : Image → Terminal
terminal_in bytes = terminal (tables_in bytes) (field queue_size tables_size bytes)

-- ---- the lengths of the struct's arrays

pub record SizedTables (t : Tables) : Type 0 where
  pub devowner : length t.devowner ≡ 16
  pub rowners : length t.rowners ≡ 64
  pub creds : length t.creds ≡ table_size Creds
  pub aces : length t.aces ≡ table_size Aces

pub record SizedTerminal (x : Terminal) : Type 0 where
  pub tables : SizedTables x.tables
  pub queue : length x.queue ≡ queue_size
