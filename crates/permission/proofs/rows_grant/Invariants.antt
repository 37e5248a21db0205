-- `rows_grant`: what is left of the rows adds what all add.
use Rattle.rows.proofs.Prelude.{◌≡◌}
use Rattle.std.specs.List.{fold}
use Rattle.rows.specs.Listed.{listed, left}
use Rattle.rules.specs.Permission.{grants}
use Rattle.permission.proofs.LinksUnion.{united}
use Rattle.permission.proofs.rows_grant.Given as goal

abbrev pub invariant-loop-row : goal.invariant-loop-row
invariant-loop-row l =
    let with_row = united (grants l.asker.clock l.asker.cred.now l.asker.connection l.e) in
    fold with_row 0 (listed l.rows) ≡ fold with_row l.total (left l.row-iterator)
