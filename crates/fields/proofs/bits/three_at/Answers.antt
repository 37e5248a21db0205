-- `bits::three_at`: the field of 24 bits is the number of its three bytes.
use Rattle.rows.proofs.Prelude.{sym, rules}
use Rattle.rules.proofs.BitLaws.{bits_three}
use Rattle.fields.proofs.bits.three_at.Goals as goal

pub returns : goal.returns
returns c =
    rw (c.byte_at-a.ensures, c.byte_at-b.ensures, c.byte_at-c.ensures)
    (sym (bits_three _ _ (search rules) (search rules) (search rules)))
