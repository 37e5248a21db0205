-- A terminal is loaded from its image as it was.
use Rattle.rows.proofs.Prelude.{◌≡◌, sym, ap, ap₂, ◌∙◌, List, [], ◌++◌, append_assoc, append-nil, ℕ, ◌+◌, ◌≤◌, arith, length, take, drop}
use Rattle.rows.proofs.Prelude.{length-append, length-drop, length-take-le, drop-drop, take_at, drop_at, take_all}
use Rattle.rules.specs.declared.Tables.{Tables}
use Rattle.rules_terminal.specs.Slots.{queue_size}
use Rattle.rules_terminal.specs.Terminal.{Terminal, terminal}
use Rattle.rules_power.specs.Image.{tables_image, terminal_image, tables_size, terminal_size, field, tables_in, terminal_in, SizedTables, SizedTerminal, creds_at, aces_at}
use Rattle.rules.specs.declared.Table.TheVariants.{Aces, Creds}
use Rattle.rules.specs.Tables.{table_size}

-- ---- lengths

pub length_tables : (t : Tables) → SizedTables t → length (tables_image t) ≡ tables_size
unfolding tables_image
length_tables t l = simp length-append (omega (arith, l.devowner, l.rowners, l.creds, l.aces))

pub length_terminal : (x : Terminal) → SizedTerminal x → length (terminal_image x) ≡ terminal_size
unfolding terminal_image
length_terminal x l = omega (arith, length-append (tables_image x.tables) x.queue, length_tables x.tables l.tables, l.queue)

length_field : (size at : ℕ) (bytes : List ℕ) → at + size ≤ length bytes → length (field size at bytes) ≡ size
unfolding field
length_field size at bytes h = length-take-le size (drop at bytes) (omega (arith, length-drop at bytes))

pub sized_tables : (bytes : List ℕ) → tables_size ≤ length bytes → SizedTables (tables_in bytes)
unfolding tables_in
sized_tables bytes h = record {
  devowner = length_field _ _ bytes (omega arith);
  rowners = length_field _ _ bytes (omega arith);
  creds = length_field _ _ bytes (omega arith);
  aces = length_field _ _ bytes (omega arith);
}

pub sized_terminal : (bytes : List ℕ) → length bytes ≡ terminal_size → SizedTerminal (terminal_in bytes)
unfolding terminal_in
sized_terminal bytes l = record { tables = sized_tables bytes (omega arith); queue = length_field _ _ bytes (omega arith) }

-- ---- field after field

-- the field that begins here, and what comes after it
next_field : (size at : ℕ) (bytes a rest : List ℕ) → length a ≡ size → drop at bytes ≡ a ++ rest
    → (field size at bytes ≡ a) × (drop (at + size) bytes ≡ rest)
unfolding field
next_field size at bytes a rest l e = (
  ap (take size) e ∙ take_at a rest size l,
  sym (drop-drop size at bytes) ∙ ap (drop size) e ∙ drop_at a rest size l,
)

same_tables : (t : Tables) (owner owners creds aces : List ℕ) → owner ≡ t.devowner → owners ≡ t.rowners → creds ≡ t.creds → aces ≡ t.aces
    → record {
      state = t.state;
      owned = t.owned;
      ncreds = t.ncreds;
      naces = t.naces;
      devowner = owner;
      rowners = owners;
      creds = creds;
      aces = aces;
    } ≡ t
same_tables t owner owners creds aces e f g h = rw (e, f, g, h)

-- tables, whatever comes after them
module _ (t : Tables) (rest : List ℕ) (l : SizedTables t) where
  abbrev bytes : List ℕ
  bytes = tables_image t ++ rest

  arrays : drop 4 bytes ≡ t.devowner ++ (t.rowners ++ (t.creds ++ (t.aces ++ rest)))
  unfolding tables_image
  arrays = simp append_assoc

  tables_among : tables_in bytes ≡ t
  unfolding tables_in tables_image
  tables_among =
      let owner = next_field 16 4 bytes t.devowner _ l.devowner arrays in
      let owners = next_field 64 20 bytes t.rowners _ l.rowners owner.1 in
      let creds = next_field (table_size Creds) creds_at bytes t.creds _ l.creds owners.1 in
      let aces = next_field (table_size Aces) aces_at bytes t.aces rest l.aces creds.1 in
      same_tables t _ _ _ _ owner.0 owners.0 creds.0 aces.0

pub tables_back : (t : Tables) → SizedTables t → tables_in (tables_image t) ≡ t
tables_back t l = ap tables_in (sym (append-nil (tables_image t))) ∙ tables_among t [] l

pub terminal_back : (x : Terminal) → SizedTerminal x → terminal_in (terminal_image x) ≡ x
unfolding terminal_in terminal_image field
terminal_back x l =
    let after = drop_at (tables_image x.tables) x.queue tables_size (length_tables x.tables l.tables) in
    ap₂ terminal (tables_among x.tables x.queue l.tables) (ap (take queue_size) after ∙ take_all queue_size x.queue (omega (arith, l.queue)))
