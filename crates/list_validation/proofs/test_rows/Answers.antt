-- `test_rows`. The loop's invariant: the first `i` rows have no fault, so that what is reported of the list is reported of the rest after them.
use Rattle.rows.proofs.Prelude.{sym, ap, ◌∙◌, arith, eqb}
use Rattle.rows.specs.Rows.{Row}
use Rattle.rules.specs.Checks.{verdict}
use Rattle.list_validation.specs.Answers.{result_for}
use Rattle.list_validation.proofs.RowLoop.{code_checks, row_start, row_end, row_bad, row_turn, row_fault}
use Rattle.list_validation.proofs.test_rows.Goals as goal

pub before_repeat-repeat-requires : goal.before_repeat-repeat-requires
before_repeat-repeat-requires c = (omega arith, c.requires)

pub loop-i-init : goal.loop-i-init
loop-i-init c = row_start _ _ _ c.before_repeat-repeat.ensures

pub returns-in-Refuse : goal.returns-in-Refuse
returns-in-Refuse c =
    let refused = sym (c.check_row.ensures ∙ ap (λ (w : Row). verdict (code_checks w (eqb c.loop-i.i c.before_repeat-repeat.result))) c.part-row.ensures) ∙ c.in-Refuse.is in
    let reported = row_bad _ _ _ _ c.loop-i.invariant c.loop-i-test.true _ refused in
    record { reported = reported; answer = row_fault _ _ _ _ refused ∙ ap result_for reported }

pub loop-i-preserved : goal.loop-i-preserved
loop-i-preserved c =
    row_turn _ _ _ _ c.loop-i.invariant c.loop-i-test.true (sym ((c.check_row.ensures ∙ ap (λ (w : Row). verdict (code_checks w (eqb c.loop-i.i c.before_repeat-repeat.result))) c.part-row.ensures)) ∙ c.in_default.is)

pub returns : goal.returns
unfolding result_for
returns c =
    let reported = row_end _ _ _ _ c.loop-i.invariant c.loop-i-test.false in
    record { reported = reported; answer = ap result_for reported }
