-- The rows that a permitted DELETE leaves to store (U4): rows before the first one deleted stay where they are.
-- The range ends with the last row that there was. No other record has a range, nor has a DELETE of no row.
use Rattle.std.specs.Prelude.{◌-◌, Bool, cond, List, length}
use Rattle.rows.specs.Rows.{Row, some, rows_before}
use Rattle.rules.specs.declared.Tables.{Tables}
use Rattle.rules.specs.declared.StoreRange.{StoreRange}
use Rattle.rules.specs.declared.Action.{Action}
use Rattle.rules.specs.Keys.{goes}
use Rattle.rules.specs.Kinds.{on_remove}
use Rattle.rules.specs.Tables.{rows}
use Rattle.rules.specs.Types.{Bytes}

abbrev pub no_range : StoreRange
no_range = record { first = 0; count = 0 }

-- from the first row deleted to the last row before it is deleted
unfoldable pub gap_of : (Row → Bool) → List Row → StoreRange
gap_of goes rows = cond (some goes rows) (record { first = rows_before goes rows; count = length rows - rows_before goes rows }) no_range

-- by the action, with the body b
abbrev pub store_range_of : Tables → Bytes → Action → StoreRange
store_range_of t b = on_remove (λ table key. gap_of (goes key b) (rows table t)) no_range
