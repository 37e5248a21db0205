-- `empty`: nothing waits, byte for byte.
use Rattle.rows.proofs.Prelude.{refl}
use Rattle.vectors.proofs.terminal_at.Terminal.empty.Goals as goal

pub returns-clause-queue : goal.returns-clause-queue
returns-clause-queue c = refl
