-- `asks_links`: by the verb.
use Rattle.rows.proofs.Prelude.{and-true, and-false, ne_eqb, arith}
use Rattle.rules.specs.Links.{asks_links}
use Rattle.decision_links.proofs.asks_links.Goals as goal

pub returns-in-1 : goal.returns-in-1
unfolding asks_links
returns-in-1 c = rw (c.in-1.is, and-true)

pub returns-in-2 : goal.returns-in-2
unfolding asks_links
returns-in-2 c = rw (c.in-2.is, and-true)

pub returns-in_default : goal.returns-in_default
unfolding asks_links
returns-in_default c = rw (ne_eqb c.args.h.verb 1 (omega arith), ne_eqb c.args.h.verb 2 (omega arith), and-false)
