-- `effective_links`: only the access rows count.
use Rattle.permission.proofs.Application.{links_alone}
use Rattle.permission.proofs.effective_links.Goals as goal

pub returns : goal.returns
returns c = rw (c.rows_grant_links.ensures, c.ace_rows.ensures) (links_alone _ _ _ _ _)
