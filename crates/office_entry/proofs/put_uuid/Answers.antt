-- `put_uuid`: a turn puts one byte's text.
use Rattle.rows.proofs.Prelude.{ap, add-one, arith, get_or, drop-cons}
use Rattle.text.proofs.Buffers.{writing_start, writing_step}
use Rattle.rules_office.specs.Office.{hex_byte, uuid_from, uuid_text}
use Rattle.office_entry.proofs.put_uuid.Goals as goal

pub loop-i-init : goal.loop-i-init
unfolding uuid_text
loop-i-init c = writing_start _ _ _ (omega arith) (omega arith)

pub loop-i-preserved : goal.loop-i-preserved
loop-i-preserved c =
    let l = c.loop-i in
    let u = c.args.u.now in
    rw (add-one l.i) (writing_step (hex_byte l.i (get_or u l.i 0)) _ l.invariant (ap (uuid_from l.i) (drop-cons u l.i 0 (omega arith))) c.put_hex-p.ensures)
