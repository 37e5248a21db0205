-- `bits::bit_at`: the definition's quotient and remainder.
use Rattle.rules.specs.Bits.{bit}
use Rattle.fields.proofs.bits.bit_at.Goals as goal

pub returns : goal.returns
unfolding bit
returns c = rw c.byte_at.ensures
