-- `convert`: a bad file, too many rows, a buffer that is too short, or the rows.
use Rattle.rows.proofs.Prelude.{sym, ◌∙◌, arith}
use Rattle.rules_legacy.proofs.Stored.{rows_size}
use Rattle.list_convert.proofs.Ends.{bad_file_lem, too_many, too_short, all_put}
use Rattle.list_convert.proofs.convert.Goals as goal

pub returns-then-is_bad_file : goal.returns-then-is_bad_file
returns-then-is_bad_file c = bad_file_lem _ _ (sym c.is_bad_file.ensures ∙ c.if-is_bad_file.true)

pub returns-then-made : goal.returns-then-made
returns-then-made c = too_many _ _ (sym c.is_bad_file.ensures ∙ c.if-is_bad_file.false) _ c.count_made-made.ensures (omega arith)

pub returns-then-rows-made : goal.returns-then-rows-made
returns-then-rows-made c =
    too_short _ _ (sym c.is_bad_file.ensures ∙ c.if-is_bad_file.false) _ c.count_made-made.ensures (omega arith) c.if-rows-made.true

pub returns : goal.returns
returns c =
    all_put _ _ (sym c.is_bad_file.ensures ∙ c.if-is_bad_file.false) _ c.count_made-made.ensures (omega arith) _ c.if-rows-made.false c.put_all.ensures

pub put_all-requires : goal.put_all-requires
put_all-requires c = (omega (arith, c.count_made-made.ensures), omega (arith, c.count_made-made.ensures, rows_size c.args.file.now))
