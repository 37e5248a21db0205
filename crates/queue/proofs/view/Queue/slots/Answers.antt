-- `slots`: no more than there are.
use Rattle.rows.proofs.Prelude.{◌∙◌, min-eq_left}
use Rattle.rows.proofs.Laws.{take_rest}
use Rattle.rules_terminal.specs.Slots.{waiting}
use Rattle.queue.proofs.view.Queue.slots.Goals as goal

pub returns : goal.returns
unfolding waiting
returns c = c.new.ensures ∙ rw (c.count.ensures, take_rest, min-eq_left c.args.self.few)
