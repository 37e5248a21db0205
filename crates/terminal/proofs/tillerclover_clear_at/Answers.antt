-- `tillerclover_clear_at`: a new terminal, whatever was there.
use Rattle.rules_terminal.specs.Terminal.{cleared_terminal}
use Rattle.terminal.proofs.tillerclover_clear_at.Goals as goal

pub returns : goal.returns
unfolding cleared_terminal
returns c = c.tillerclover_fresh_at.ensures
