-- The index of the first row that goes is the number of the rows before it.
use Rattle.rows.proofs.Prelude.{◌≡◌, ap, ◌∙◌, Bool, List, ℕ, ◌-◌, ◌≤◌, arith, length}
use Rattle.std.specs.Prelude.{Some, None}
use Rattle.rows.specs.Rows.{Row, rows_before}
use Rattle.rows.specs.Promises.{index_of}
use Rattle.rows.proofs.Laws.{some_index, is_some, length_rows_of}
use Rattle.rows.proofs.Gap.{index_before, before_all}
use Rattle.rules.specs.StoreRange.{gap_of, no_range}

before_is : (goes : Row → Bool) (rows : List Row) (i : ℕ) → index_of goes rows ≡ Some i → i ≡ rows_before goes rows
before_is goes rows i p = omega (arith, index_before goes 0 i rows p)

pub gap_none : (goes : Row → Bool) (rows : List Row) → index_of goes rows ≡ None → gap_of goes rows ≡ no_range
unfolding gap_of
gap_none goes rows p = rw (some_index 0 goes rows ∙ ap is_some p)

pub gap_found : (goes : Row → Bool) (rows : List Row) (i : ℕ) → index_of goes rows ≡ Some i → gap_of goes rows ≡ record { first = i; count = length rows - i }
unfolding gap_of
gap_found goes rows i p = rw (some_index 0 goes rows ∙ ap is_some p, before_is goes rows i p)

pub found_within : (goes : Row → Bool) (rows : List Row) (i : ℕ) → index_of goes rows ≡ Some i → i ≤ length rows
found_within goes rows i p = omega (arith, before_is goes rows i p, before_all goes rows)

-- all that is asked of the gap
pub ruleset gaps = (gap_none, gap_found, found_within, length_rows_of)
