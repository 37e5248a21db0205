-- `put_row`: the texts, one after the other.
use Rattle.rows.proofs.Prelude.{◌≤◌, arith, length}
use Rattle.text.specs.Buffer.{largest}
use Rattle.text.specs.Text.{ascii}
use Rattle.text.proofs.Buffers.{puts_then}
use Rattle.office_entry.proofs.Parts.{row_puts}
use Rattle.office_entry.proofs.put_row.Goals as goal

pub returns : goal.returns
unfolding ascii
returns c =
    let h : length c.args.out.now ≤ largest = omega arith in
    row_puts _ _ _ c.be16.ensures c.permission.ensures
    (puts_then h
    (puts_then h
    (puts_then h (puts_then h (puts_then h (puts_then h c.put_number-p.ensures c.put-p.ensures) c.put_subject-p.ensures) c.put-p-2.ensures) c.put_resources-p.ensures)
    c.put_number-p-2.ensures)
    c.put.ensures)
