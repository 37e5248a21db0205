-- `bits::byte_at`: past the end 0.
use Rattle.rows.proofs.Prelude.{sym, List·getD-eq-default}
use Rattle.fields.proofs.bits.byte_at.Goals as goal

pub returns-else-i-s : goal.returns-else-i-s
returns-else-i-s c = sym (List·getD-eq-default c.args.s.now 0 c.if-i-s.false)
