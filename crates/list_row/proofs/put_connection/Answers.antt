-- `put_connection`: the connection is the subject's last byte.
use Rattle.rules_legacy.specs.Conversion.{connection_entry}
use Rattle.list_row.proofs.put_connection.Goals as goal

pub returns : goal.returns
unfolding connection_entry
returns c = c.put_row.ensures
