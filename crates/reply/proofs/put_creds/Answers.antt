-- `put_creds`: past the buffer's end as many bytes are counted as the bodies have.
use Rattle.rows.proofs.Prelude.{◌≡◌, sym, ◌∙◌, ◌*◌, arith, length, take, length-take-le, rules}
use Rattle.reply.proofs.RowBytes.{bodies_counted, counted}
use Rattle.rules.specs.declared.Table.TheVariants.{Creds}
use Rattle.rules.specs.Tables.{table_size}
use Rattle.rules.specs.Sizes.{cred_body_size}
use Rattle.reply.proofs.put_creds.Goals as goal

pub returns-then-out-at : goal.returns-then-out-at
returns-then-out-at c =
    let creds = c.args.creds.now in
    let size : length creds ≡ table_size Creds = search rules in
    let n = c.capped-count.result in
    let long : length (take (n * cred_body_size) creds) ≡ n * cred_body_size = length-take-le (n * cred_body_size) creds (omega (arith, size, c.capped-count.ensures)) in
    counted c.if-out-at.true (long ∙ rw c.capped-count.ensures (sym (bodies_counted c.args.count creds size))) (rw c.part.ensures at c.put.ensures)
