-- `retain`: for each test of the rows that go.
use Rattle.rows.proofs.Prelude.{◌≡◌, Bool, List, ℕ, ◌≤◌, length}
use Rattle.rows.specs.Rows.{Row}
use Rattle.rows_change.specs.Tests.{TestsOthers}
use Rattle.rows_change.proofs.Staying.{Staying, Beside}
use Rattle.rows_change.proofs.retain.Given as goal

pub record Kept (Test : (Row → Bool) → Type 0) (s count : ℕ) (b₀ b : List ℕ) (i from kept : ℕ) : Type 0 where
  pub few : kept ≤ from
  pub order : from ≤ i
  pub long : length b ≡ length b₀
  pub rows : (goes : Row → Bool) → Test goes → Staying goes s count b₀ b from kept × Beside goes s count b₀ from i

abbrev pub invariant-loop-i : goal.invariant-loop-i
invariant-loop-i g l = Kept (TestsOthers g.F.Fn l.stays) l.stride l.count l.fn.rows l.rows l.i l.from l.kept
