-- `test_list`: a size that is bad is 19, and with any other the rows, which lie within the bytes, are tested.
use Rattle.rows.proofs.Prelude.{◌≡◌, ap, ◌∙◌, true, false, List, [], ℕ}
use Rattle.rules.specs.Checks.{refuse_if}
use Rattle.rules_lists.specs.Lists.{bad_size, listed, rows_tested, list_tested}
use Rattle.list_validation.specs.Answers.{result_for}
use Rattle.list_validation.proofs.test_list.Goals as goal

bad : (b : List ℕ) → bad_size b ≡ true → record { answer = 19; row = 0 } ≡ list_tested b
unfolding list_tested refuse_if
bad b e = rw e

good : (b : List ℕ) → bad_size b ≡ false → rows_tested [] (listed b) ≡ list_tested b
unfolding list_tested refuse_if
good b e = rw e

pub returns-then-rows-count : goal.returns-then-rows-count
unfolding bad_size result_for
returns-then-rows-count c =
    let reported = bad c.args.rows.now c.if-rows-count.true in
    record { reported = reported; answer = ap result_for reported }

pub returns : goal.returns
unfolding bad_size
returns c =
    let whole = good _ c.if-rows-count.false in
    record { reported = c.test_rows.ensures.reported ∙ whole; answer = c.test_rows.ensures.answer ∙ ap result_for whole }
