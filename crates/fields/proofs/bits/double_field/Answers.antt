-- `bits::double_field`: a field of 32 bits splits into two of 16.
use Rattle.rows.proofs.Prelude.{sym}
use Rattle.rules.proofs.BitLaws.{bits_split}
use Rattle.fields.proofs.bits.double_field.Goals as goal

pub returns : goal.returns
returns c = rw (c.field-high.ensures, c.field-low.ensures) (sym (bits_split _ _ 16 16))
