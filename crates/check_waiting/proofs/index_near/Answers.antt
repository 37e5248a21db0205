-- `index_near`: a row that has the number is one of them; else a search for it tells.
use Rattle.rows.proofs.Prelude.{ap, ◌∙◌, not}
use Rattle.rows.specs.Listed.{listed}
use Rattle.check_waiting.proofs.Laws.{near, searched, lacks}
use Rattle.check_waiting.proofs.index_near.Goals as goal

pub returns-in-Some : goal.returns-in-Some
returns-in-Some c one n e =
    rw (← e) (ap not (near (listed c.args.creds) c.args.number.now _ _ c.in-Some.ensures _ c.has_key.ensures c.if-has_key.true))

pub returns-in_default : goal.returns-in_default
returns-in_default c one n e = rw (← e) (lacks n c.find.result ∙ ap not (searched _ _ _ c.find.ensures))
