-- `again`: a search where the low byte was seen, and none where it was not.
use Rattle.rows.proofs.Prelude.{◌≡◌, ◌∙◌, List, ℕ, ◌+◌, ◌*◌, ◌≤◌, arith, length, take, drop, length-drop}
use Rattle.std.specs.Prelude.{Option}
use Rattle.rows.specs.Rows.{rows_of, some, numbered_as, has_key}
use Rattle.rows.specs.Promises.{index_of}
use Rattle.rows.proofs.Laws.{some_numbered, some_index, is_some}
use Rattle.rows_distinct.proofs.again.Goals as goal

-- what a search for the number's two bytes says
told : (rows : List ℕ) (stride i : ℕ) {number : List ℕ} {f : Option ℕ} → (2 ≤ stride) × (i * stride + stride ≤ length rows)
    → number ≡ take 2 (drop (i * stride) rows) → f ≡ index_of (has_key 0 number) (rows_of stride i rows)
    → is_some f ≡ some (numbered_as (take stride (drop (i * stride) rows))) (rows_of stride i rows)
told rows stride i h number found =
    let row = drop (i * stride) rows in
    let long : 2 ≤ length row = rw length-drop (omega arith) in
    rw (found, ← some_index, number, some_numbered stride row h.0 long)

pub returns : goal.returns
returns c =
    let a = c.args in
    c.is_some.ensures ∙ told a.rows.now a.stride a.i c.requires.le_stride c.part-number.ensures (rw c.new.ensures at c.find.ensures)
