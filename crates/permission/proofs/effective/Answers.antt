-- `effective`: all five bits, or what the access rows give and what partners have on roles.
use Rattle.rows.proofs.Prelude.{sym, ◌∙◌}
use Rattle.rules.specs.Permission.{permission_of}
use Rattle.permission.proofs.Owners.{all_five, no_owners}
use Rattle.permission.proofs.effective.Goals as goal

pub returns-then-has_all : goal.returns-then-has_all
unfolding permission_of
returns-then-has_all c = sym (all_five _ _ _ _ _ _ (sym c.has_all.ensures ∙ c.if-has_all.true))

pub returns : goal.returns
unfolding permission_of
returns c =
    rw (c.roles_grant-shown.ensures, c.rows_grant-granted.ensures, c.connection_of-connection.ensures, c.ace_rows.ensures)
    (no_owners _ _ _ _ _ _ (sym c.has_all.ensures ∙ c.if-has_all.false))
