-- `put_hex`: the dash and the two digits.
use Rattle.rows.proofs.Prelude.{arith}
use Rattle.text.proofs.Buffers.{puts_then}
use Rattle.rules_office.specs.Office.{hex_byte}
use Rattle.office_entry.proofs.put_hex.Goals as goal

pub returns : goal.returns
unfolding hex_byte
returns c =
    rw (← c.hex_digit.ensures, ← c.hex_digit-2.ensures)
    (puts_then (omega arith) c.put_dash-p.ensures (puts_then (omega arith) c.put_byte-p.ensures c.put_byte.ensures))
