-- `put_role_subject`: the authority and the role, each after its key, and the end.
use Rattle.rows.proofs.Prelude.{◌≤◌, arith, length}
use Rattle.text.specs.Buffer.{largest}
use Rattle.text.specs.Text.{ascii}
use Rattle.text.proofs.Buffers.{puts_then}
use Rattle.office_entry.proofs.Parts.{role_puts}
use Rattle.office_entry.proofs.put_role_subject.Goals as goal

pub returns : goal.returns
unfolding ascii
returns c =
    let h : length c.args.out.now ≤ largest = omega arith in
    role_puts _ _ _ c.authority.ensures c.role.ensures (puts_then h (puts_then h c.put_number-p.ensures c.put_number-p-2.ensures) c.put.ensures)
