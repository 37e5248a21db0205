-- `move_pieces`: so many bytes are copied.
use Rattle.rows.proofs.Prelude.{◌≡◌, List, ℕ, ◌+◌, ◌*◌}
use Rattle.std.specs.List.{copy_within}
use Rattle.rows_change.proofs.move_pieces.Given as goal

pub record Copied (n : ℕ) (b₀ b : List ℕ) (from to turns moved : ℕ) : Type 0 where
  pub bytes : moved ≡ turns * n
  pub part : b ≡ copy_within b₀ from (from + moved) to

abbrev pub invariant-loop : goal.invariant-loop
invariant-loop g l = Copied g.row.N l.fn.bytes l.bytes l.from l.to l.counter l.moved
