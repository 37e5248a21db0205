-- `put_row`: the row that is made, over the part of the buffer from `at` on.
use Rattle.rows.proofs.Prelude.{arith}
use Rattle.rules_legacy.proofs.Made.{made}
use Rattle.list_row.proofs.OldRows.{row_put}
use Rattle.list_row.proofs.put_row.Goals as goal

pub returns : goal.returns
returns c =
    row_put _ _ _ _ _ (omega arith) c.requires.3 (made _ _ _ _ c.requires.0 c.requires.2 c.requires.1).long c.row_made-made.ensures c.put_row.ensures
