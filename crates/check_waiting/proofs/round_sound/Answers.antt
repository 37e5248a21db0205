-- `round_sound`: byte by byte.
use Rattle.rows.proofs.Prelude.{rules}
use Rattle.check_waiting.proofs.Laws.{round_is}
use Rattle.check_waiting.proofs.round_sound.Goals as goal

pub returns : goal.returns
returns c = round_is c.args.queue.now (search rules) _ c.eq.ensures
