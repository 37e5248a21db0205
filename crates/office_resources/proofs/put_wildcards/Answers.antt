-- `put_wildcards`: the last three choices, each named or not.
use Rattle.rows.proofs.Prelude.{refl, sym, ◌∙◌, ◌+◌, arith}
use Rattle.text.specs.Text.{ascii}
use Rattle.text.proofs.Buffers.{Writing, writing_start, writing_end}
use Rattle.rows.specs.Rows.{joined}
use Rattle.rules_office.specs.Office.{choices, chosen, braced}
use Rattle.office_resources.proofs.Chosen.{count, items, items_put, items_skip}
use Rattle.office_resources.proofs.put_wildcards.Goals as goal
use Rattle.office_resources.proofs.put_wildcards.Goals.{then-plus, else-plus, then-minus, else-minus}

pub returns-then-star : goal.returns-then-star
unfolding choices chosen braced joined ascii
returns-then-star c =
    let w = c.args.row.now in
    let w₀ = writing_start c.args.out.now c.args.at (items w c.args.first count) (omega arith) (omega arith) in
    let w₁ : Writing c.args.out.now c.args.at (items w c.args.first count) (items w c.if-plus.first (count + 1)) c.if-plus.out c.if-plus.p = elim c.if-plus.branch [
      | then-plus t ↦ rw (t.out-is, t.p-is, t.first-is) (items_put w _ count (omega arith) (sym t.if-plus.true ∙ c.plus.ensures) w₀ t.put_choice-p.ensures refl)
      | else-plus t ↦ rw (t.out-is, t.p-is, t.first-is) (items_skip w _ count (omega arith) (sym t.if-plus.false ∙ c.plus.ensures) w₀)
    ] in
    let w₂ : Writing c.args.out.now c.args.at (items w c.args.first count) (items w c.if-minus.first (count + 2)) c.if-minus.out c.if-minus.p = elim c.if-minus.branch [
      | then-minus t ↦ rw (t.out-is, t.p-is, t.first-is)
          (items_put w _ (count + 1) (omega arith) (sym t.if-minus.true ∙ c.minus.ensures) w₁ t.put_choice-p-then-minus.ensures refl)
      | else-minus t ↦ rw (t.out-is, t.p-is, t.first-is) (items_skip w _ (count + 1) (omega arith) (sym t.if-minus.false ∙ c.minus.ensures) w₁)
    ] in
    writing_end (items_put w _ (count + 2) (omega arith) (sym c.if-star.true ∙ c.star.ensures) w₂ c.put_choice-p-then-star.ensures refl) refl

pub returns-else-star : goal.returns-else-star
unfolding choices chosen braced joined ascii
returns-else-star c =
    let w = c.args.row.now in
    let w₀ = writing_start c.args.out.now c.args.at (items w c.args.first count) (omega arith) (omega arith) in
    let w₁ : Writing c.args.out.now c.args.at (items w c.args.first count) (items w c.if-plus.first (count + 1)) c.if-plus.out c.if-plus.p = elim c.if-plus.branch [
      | then-plus t ↦ rw (t.out-is, t.p-is, t.first-is) (items_put w _ count (omega arith) (sym t.if-plus.true ∙ c.plus.ensures) w₀ t.put_choice-p.ensures refl)
      | else-plus t ↦ rw (t.out-is, t.p-is, t.first-is) (items_skip w _ count (omega arith) (sym t.if-plus.false ∙ c.plus.ensures) w₀)
    ] in
    let w₂ : Writing c.args.out.now c.args.at (items w c.args.first count) (items w c.if-minus.first (count + 2)) c.if-minus.out c.if-minus.p = elim c.if-minus.branch [
      | then-minus t ↦ rw (t.out-is, t.p-is, t.first-is)
          (items_put w _ (count + 1) (omega arith) (sym t.if-minus.true ∙ c.minus.ensures) w₁ t.put_choice-p-then-minus.ensures refl)
      | else-minus t ↦ rw (t.out-is, t.p-is, t.first-is) (items_skip w _ (count + 1) (omega arith) (sym t.if-minus.false ∙ c.minus.ensures) w₁)
    ] in
    writing_end (items_skip w _ (count + 2) (omega arith) (sym c.if-star.false ∙ c.star.ensures) w₂) refl
