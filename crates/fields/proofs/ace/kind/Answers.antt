-- `kind`: two bits have four values.
use Rattle.rows.proofs.Prelude.{arith}
use Rattle.rules.proofs.BitLaws.{bits_small}
use Rattle.fields.proofs.ace.kind.Goals as goal

pub returns-in_default : goal.returns-in_default
returns-in_default c = omega (arith, c.field-number.ensures, bits_small c.args.row.now 16 2)
