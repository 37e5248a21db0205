-- `put_uuid`: the text from byte i on is still to be put.
use Rattle.rows.proofs.Prelude.{drop}
use Rattle.text.proofs.Buffers.{Writing}
use Rattle.rules_office.specs.Office.{uuid_from, uuid_text}
use Rattle.office_entry.proofs.put_uuid.Given as goal

abbrev pub invariant-loop-i : goal.invariant-loop-i
invariant-loop-i l = Writing l.fn.out l.at (uuid_text l.u) (uuid_from l.i (drop l.i l.u)) l.out l.p
