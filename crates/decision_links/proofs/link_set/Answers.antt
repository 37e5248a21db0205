-- `link_set`: the permissions of one walk are those that each link's own record has.
use Rattle.rows.proofs.Prelude.{◌∙◌}
use Rattle.rules.specs.Tables.{tables_of}
use Rattle.decision_links.proofs.Passes.{set_is}
use Rattle.decision_links.proofs.link_set.Goals as goal

pub returns : goal.returns
returns c =
    let a = c.args in
    c.bits_sum.ensures
    ∙ set_is a.clock (tables_of a.tables.head a.tables.creds.now a.tables.aces.now) a.caller _ _ _
    c.row_of-cred.ensures c.connection_of.ensures c.effective_links-permissions.ensures
