-- `all_creds_sound`: each row of the walk passes the test.
use Rattle.rows.proofs.Prelude.{◌∙◌, rules}
use Rattle.std.proofs.lemmas.Iterator.Search.{all_from_yields_List}
use Rattle.std.proofs.lemmas.Iterator.Consumers.{YieldsList-from_first}
use Rattle.rows.specs.Rows.{rows_of}
use Rattle.rows.specs.Listed.{left}
use Rattle.rows.proofs.Walk.{every_is}
use Rattle.rules.specs.Roles.{cred_sound}
use Rattle.rules.specs.Sizes.{cred_row_size}
use Rattle.row_format.proofs.all_creds_sound.Goals as goal

pub returns : goal.returns
returns c =
    let rows = rows_of cred_row_size c.args.count c.args.rows.now in
    all_from_yields_List cred_sound c.all.new.self _ _ c.all.ensures.ran (YieldsList-from_first (λ r. r.now) left rows (c.iter.ensures ∙ c.new.ensures)) (λ x b q k. search rules)
    ∙ every_is cred_sound rows
