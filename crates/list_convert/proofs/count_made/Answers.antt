-- `count_made`: the sum over the rows, each of which becomes two at most.
use Rattle.rows.proofs.Prelude.{sym, ◌∙◌, arith, rules, length}
use Rattle.std.proofs.lemmas.Iterator.{YieldsList-from_map}
use Rattle.std.proofs.lemmas.Iterator.Consumers.{YieldsList-at, sum_by_from_yields_List, fits_by_from_yields_list}
use Rattle.rows.specs.Rows.{Row}
use Rattle.rules_legacy.specs.Conversion.{entries_of}
use Rattle.rules_legacy.proofs.Stored.{rows_count}
use Rattle.list_convert.proofs.Files.{all_rows, summed, few_made}
use Rattle.list_convert.proofs.count_made.Goals as goal

pub sum-requires-clause-fits : goal.sum-requires-clause-fits
sum-requires-clause-fits c =
    let rows = all_rows c.args.file.now c.chunks_exact.ensures.rest c.chunks_exact.ensures.size in
    fits_by_from_yields_list (λ (row : Row). length (entries_of row)) _ _ _
    (YieldsList-from_map _ _ (YieldsList-at c.map.ensures.source rows) c.map.ensures.closure (λ x r q k. search rules))
    (omega (arith, few_made c.args.file.now))

pub returns : goal.returns
returns c =
    let rows = all_rows c.args.file.now c.chunks_exact.ensures.rest c.chunks_exact.ensures.size in
    sum_by_from_yields_List (λ (row : Row). length (entries_of row)) _ _ _ c.sum.ensures.ran
    (YieldsList-from_map _ _ (YieldsList-at c.map.ensures.source rows) c.map.ensures.closure (λ x r q k. search rules))
    ∙ summed _
    ∙ sym (rows_count c.args.file.now)
