-- `check_terminal`: the test is the definition.
use Rattle.check_waiting.proofs.check_terminal.Goals as goal

pub returns : goal.returns
returns c = rw c.terminal_sound.ensures at c.refuse_if.ensures
