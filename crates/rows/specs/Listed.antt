-- The rows that the types of `rows::table` hold, as a list.
use Rattle.std.specs.Prelude.{◌≡◌, ◌<◌, ◌≤◌, List, [], length, get_or, Option, MatchOption}
use Rattle.std.specs.Borrow.{Bor}
use Rattle.rows.specs.declared.table.Rows.{Rows}
use Rattle.rows.specs.declared.table.RowIter.{RowIter}
use Rattle.rows.specs.Rows.{Row, rows_of}
use Rattle.rows.specs.Types.{Bytes, Index}

-- all of them
abbrev pub listed : Rows → List Row
listed rows = rows_of rows.stride rows.count rows.bytes.now

-- those that are left of a walk
abbrev pub left : RowIter → List Row
left walk = listed walk.rows

-- what is said of an index: the row there, or that it is past the rows
abbrev pub RowAt : List Row → Index → Option (Bor Bytes) → Type 0
RowAt rows index answer = MatchOption answer (length rows ≤ index) (λ row. (index < length rows) × (row.now ≡ get_or rows index []))
