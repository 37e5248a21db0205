-- `row_count`: as many as the walk gives.
use Rattle.std.proofs.lemmas.Iterator.Consumers.{count_from_yields_List, YieldsList-from_first}
use Rattle.rows.specs.Listed.{listed, left}
use Rattle.queue_turn.proofs.row_count.Goals as goal

pub returns : goal.returns
returns c =
    count_from_yields_List c.iter.result _ c.count.ensures.ran (YieldsList-from_first (λ r. r.now) left (listed c.args.rows) c.iter.ensures)
