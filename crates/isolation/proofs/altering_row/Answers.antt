-- `altering_row`: the position in the walk.
use Rattle.rows.proofs.Prelude.{◌∙◌, rules}
use Rattle.std.proofs.lemmas.Iterator.Search.{position_from_yields_List}
use Rattle.std.proofs.lemmas.Iterator.Consumers.{YieldsList-from_first}
use Rattle.rows.specs.Listed.{listed, left}
use Rattle.rows.proofs.Walk.{index_is}
use Rattle.rules_isolation.specs.Question.{lets_alter}
use Rattle.isolation.proofs.altering_row.Goals as goal

pub returns : goal.returns
returns c =
    let passes = lets_alter c.args.cred.now c.args.connection in
    let rows = listed c.args.rows in
    position_from_yields_List passes c.position.new.self _ _ c.position.ensures.ran (YieldsList-from_first (λ r. r.now) left rows c.iter.ensures) (λ x b q k. search rules)
    ∙ index_is passes rows
