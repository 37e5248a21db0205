-- `put_uuid_subject`: the key, the UUID and the end.
use Rattle.rows.proofs.Prelude.{arith}
use Rattle.text.specs.Text.{ascii}
use Rattle.rules_office.specs.Office.{uuid_subject}
use Rattle.office_entry.proofs.Parts.{puts_three}
use Rattle.office_entry.proofs.put_uuid_subject.Goals as goal

pub returns : goal.returns
unfolding uuid_subject ascii
returns c = rw (← c.subject.ensures) (puts_three (omega arith) c.put-p.ensures c.put_uuid-p.ensures c.put.ensures)
