-- `row_alters`: of security resources a row can only have those in its set, since no wildcard reaches one.
use Rattle.rows.proofs.Prelude.{◌≡◌, sym, ap, Bool, ◌&&◌, ℕ}
use Rattle.rows.specs.Rows.{Row}
use Rattle.rules.specs.Directory.{resource_of, some_security}
use Rattle.rules.specs.Bodies.{ace_permission, in_set}
use Rattle.rules.specs.Permission.{resource_fits}
use Rattle.rules.specs.Isolation.{alters, row_alters}
use Rattle.rules.proofs.PermissionLaws.{security_same, fits_by_set}
use Rattle.permission_row.proofs.row_alters.Goals as goal

told : (w : Row) (p : ℕ) (s g : Bool) → s ≡ some_security (in_set w) → p ≡ ace_permission w → g ≡ alters p → (s && g) ≡ row_alters w
unfolding row_alters
told w p s g on at al =
    let in_set_lem = security_same (λ n. resource_fits (resource_of n) w) (λ n. in_set w n) (fits_by_set w) in
    rw (al, at, on) (ap (λ (x : Bool). x && alters (ace_permission w)) (sym in_set_lem))

pub returns : goal.returns
returns c = told _ _ _ _ c.on_security.ensures c.permission.ensures c.alters.ensures
