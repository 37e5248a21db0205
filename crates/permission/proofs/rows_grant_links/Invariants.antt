-- `rows_grant_links`: what is left of the rows adds what all add.
use Rattle.rows.proofs.Prelude.{◌≡◌, ℕ, replicate}
use Rattle.std.specs.List.{fold}
use Rattle.rows.specs.Listed.{listed, left}
use Rattle.rules.specs.Directory.{resource_of}
use Rattle.rules.specs.Permission.{grants}
use Rattle.permission.proofs.LinksUnion.{links_united}
use Rattle.permission.proofs.rows_grant_links.Given as goal

abbrev pub invariant-loop-row : goal.invariant-loop-row
invariant-loop-row l =
    let with_row = links_united (λ (n : ℕ). grants l.asker.clock l.asker.cred.now l.asker.connection (resource_of n)) in
    fold with_row (replicate 7 0) (listed l.rows) ≡ fold with_row l.total (left l.row-iterator)
