-- What is said of a test of rows that a function is passed.
use Rattle.std.specs.Prelude.{◌≡◌, Bool, not}
use denote.Param.Members.{Shared}
use denote.Ref.{Bor}
use Rattle.rows.specs.Rows.{Row}

-- it lets the others stay: it answers no just where these go
abbrev pub TestsOthers : {F : Type 0} → Shared F (Bor Row × Unit {0}) Bool → F → (Row → Bool) → Type 0
TestsOthers g test goes = (row : Bor Row) (answer : Bool) → g.post test (row, tt) answer → answer ≡ not (goes row.now)
