-- `links_of`: the set and the count of its ones, or nothing.
use Rattle.rows.proofs.Prelude.{sym, ◌∙◌, ones, ones_in}
use Rattle.decision_links.specs.Linked.{permitted_set}
use Rattle.decision_links.proofs.links_of.Goals as goal

pub returns-then-not-asks_links : goal.returns-then-not-asks_links
unfolding permitted_set ones ones_in
returns-then-not-asks_links c = rw (sym c.asks_links.ensures ∙ c.if-not-asks_links.true) c.none.ensures

pub returns : goal.returns
unfolding permitted_set ones ones_in
returns c = rw (sym c.asks_links.ensures ∙ c.if-not-asks_links.false, ← c.link_set-set.ensures)
