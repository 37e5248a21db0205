-- A list without a fault, and the first fault of a list: its size, or that of a row after rows that have none (U10).
use Rattle.std.specs.Prelude.{suc, ℕ, length, false, true, List, ◌++◌, ◌∷◌, ◌≡◌}
use Rattle.rows.specs.Rows.{Row, distinct_numbers, every, some}
use Rattle.rules.specs.Tables.{storable}
use Rattle.rules.specs.declared.Table.TheVariants.{Aces}
use Rattle.rules_lists.specs.Lists.{bad_size, excessive, listed, unfit}

-- rows without a fault: each could be stored, no number twice, none that gives too much
pub record Clean (ws : List Row) : Type 0 where
  pub stores : every (storable Aces) ws ≡ true
  pub distinct : distinct_numbers ws ≡ true
  pub modest : some excessive ws ≡ false

-- the fault n of a row after these
pub data RowFault (before : List Row) (w : Row) : ℕ → Type 0 where
  unstored : unfit before w ≡ true → RowFault before w 20
  excess : unfit before w ≡ false → excessive w ≡ true → RowFault before w 21

-- w is in the list right after these rows, which have no fault
pub record Behind (before : List Row) (w : Row) (ws : List Row) : Type 0 where
  pub after : List Row
  pub stands : ws ≡ before ++ (w ∷ after)
  pub clean : Clean before

-- the list has no fault
pub record Faultless (b : List ℕ) : Type 0 where
  pub whole : bad_size b ≡ false
  pub clean : Clean (listed b)

-- the list's first fault is n, at row m: its size, or the fault of a row with none before it
pub data Fault (b : List ℕ) : ℕ → ℕ → Type 0 where
  size : bad_size b ≡ true → Fault b 19 0
  row : {before : List Row} {w : Row} {n : ℕ} → bad_size b ≡ false → Behind before w (listed b) → RowFault before w n → Fault b n (suc (length before))
