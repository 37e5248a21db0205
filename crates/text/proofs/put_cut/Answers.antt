-- `put_cut` meets its contract: the part that fits is copied, and the position goes on by the whole text.
use Rattle.std.proofs.Common.{arith}
use Rattle.text.proofs.Buffers.{puts_copied}
use Rattle.text.proofs.put_cut.Goals as goal

pub returns : goal.returns
returns c = puts_copied c.min-start.ensures c.min-fits.ensures (omega arith) c.copy_bytes.ensures c.saturating_add.ensures
