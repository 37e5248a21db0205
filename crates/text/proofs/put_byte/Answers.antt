-- `put_byte` meets its contract: in the buffer the byte is set, and past its end nothing is.
use Rattle.text.proofs.Buffers.{puts_one, puts_beyond}
use Rattle.text.proofs.put_byte.Goals as goal
use Rattle.text.proofs.put_byte.Goals.{then-at-out, else-at-out}

pub returns : goal.returns
returns c =
    elim c.if-at-out.branch [
      | then-at-out w ↦ rw w.out-is (puts_one _ _ _ c.saturating_add.ensures)
      | else-at-out w ↦ rw w.out-is (puts_beyond _ _ _ w.if-at-out.false c.saturating_add.ensures)
    ]
