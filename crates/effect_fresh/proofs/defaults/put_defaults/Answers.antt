-- `defaults::put_defaults`: of a list that is not good, zeros over the whole table.
use Rattle.rows.proofs.Prelude.{sym, ap, ◌∙◌, ℕ, length, replicate, length-replicate}
use Rattle.rules.specs.Tables.{table_size}
use Rattle.effect_fresh.proofs.DefaultLaws.{bad_table}
use Rattle.effect_fresh.proofs.defaults.put_defaults.Goals as goal

pub returns-clause-out_value : goal.returns-clause-out_value
returns-clause-out_value c =
    let table = c.args.table in
    let size = c.put_listed.auto.out ∙ ap length c.requires ∙ length-replicate (table_size table) 0 in
    bad_table table c.args.list.now _ (sym c.good_list.ensures ∙ c.if-good_list.false) (c.clear.ensures ∙ ap (λ (n : ℕ). replicate n 0) size)
