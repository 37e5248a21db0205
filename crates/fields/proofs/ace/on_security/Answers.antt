-- `ace::on_security`: one range of the directory.
use Rattle.rows.proofs.Prelude.{sym}
use Rattle.rules.proofs.SetLaws.{set_security}
use Rattle.fields.proofs.ace.on_security.Goals as goal

pub returns : goal.returns
returns c = rw c.field.ensures (sym (set_security c.args.row.now))
