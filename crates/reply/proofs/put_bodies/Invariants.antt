-- `put_bodies`: the bodies of the rows that are left are still to be put.
use Rattle.rows.proofs.Prelude.{map}
use Rattle.rows.specs.Rows.{joined}
use Rattle.rows.specs.Listed.{left}
use Rattle.rows.proofs.Kept.{AllLong}
use Rattle.text.proofs.Buffers.{Writing}
use Rattle.rules.specs.declared.Table.TheVariants.{Creds}
use Rattle.rules.specs.Tables.{rows_in}
use Rattle.rules.specs.Roles.{body_of}
use Rattle.rules.specs.Sizes.{cred_row_size}
use Rattle.reply.proofs.put_bodies.Given as goal

abbrev pub invariant-loop-row : goal.invariant-loop-row
invariant-loop-row l =
    AllLong cred_row_size (left l.row-iterator)
    × Writing l.initial.out l.at (joined (map body_of (rows_in Creds l.count l.creds))) (joined (map body_of (left l.row-iterator))) l.out l.p
