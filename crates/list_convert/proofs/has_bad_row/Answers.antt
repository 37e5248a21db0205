-- `has_bad_row`: `any` over the rows.
use Rattle.rows.proofs.Prelude.{◌∙◌, rules}
use Rattle.std.proofs.lemmas.Iterator.Search.{any_from_yields_List}
use Rattle.rules_legacy.specs.OldList.{old_rows, bad_row}
use Rattle.list_convert.proofs.Files.{all_rows, some_any}
use Rattle.list_convert.proofs.has_bad_row.Goals as goal

pub returns : goal.returns
returns c =
    any_from_yields_List bad_row c.any.new.self _ _ c.any.ensures.ran (all_rows _ c.chunks_exact.ensures.rest c.chunks_exact.ensures.size) (λ x b q k. search rules)
    ∙ some_any bad_row (old_rows c.args.file.now)
