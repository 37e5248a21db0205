-- `put_resources`: a turn puts the item of a known number, if the row names it, and the wildcards end the text.
use Rattle.rows.proofs.Prelude.{refl, sym, ◌∙◌, ◌<◌, add-one, arith}
use Rattle.text.specs.Text.{ascii}
use Rattle.text.proofs.Buffers.{writing_start, writing_step, writing_end}
use Rattle.rules_office.specs.Office.{resources_text}
use Rattle.office_resources.proofs.Chosen.{count, in_number, around_name, items_put, items_skip, items_last}
use Rattle.office_resources.proofs.put_resources.Goals as goal
use Rattle.office_resources.proofs.put_resources.Goals.{then-in_set, else-in_set}

pub loop-n-init : goal.loop-n-init
loop-n-init c = writing_start _ _ _ (omega arith) (omega arith)

pub loop-n-preserved : goal.loop-n-preserved
unfolding ascii
loop-n-preserved c =
    let w = c.args.row.now in
    let k = c.loop-n.n-index in
    let h : k < count = omega arith in
    let b = c.in_set.ensures ∙ in_number w k h in
    elim c.if-in_set.branch [
      | then-in_set t ↦ rw (add-one k, t.out-is, t.p-is, t.first-is)
          (items_put w c.loop-n.first k (omega arith) (sym t.if-in_set.true ∙ b) c.loop-n.invariant t.put_choice-p.ensures (around_name k h _ t.name_of.ensures))
      | else-in_set t ↦ rw (add-one k, t.out-is, t.p-is, t.first-is)
          (items_skip w c.loop-n.first k (omega arith) (sym t.if-in_set.false ∙ b) c.loop-n.invariant)
    ]

pub returns : goal.returns
unfolding resources_text
returns c =
    let e = items_last c.args.row.now c.loop-n.first c.loop-n.n-index (omega arith) (omega arith) in
    writing_end (writing_step _ _ c.loop-n.invariant e c.put_wildcards.ensures) refl
