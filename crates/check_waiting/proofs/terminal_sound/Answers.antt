-- `terminal_sound`: both tests.
use Rattle.rows.proofs.Prelude.{ap₂, Bool, ◌&&◌}
use Rattle.rules_terminal.specs.Terminal.{sound_terminal}
use Rattle.check_waiting.proofs.terminal_sound.Goals as goal

pub returns : goal.returns
unfolding sound_terminal
returns c = ap₂ (λ (a b : Bool). a && b) c.tables_sound.ensures c.queue_sound.ensures
