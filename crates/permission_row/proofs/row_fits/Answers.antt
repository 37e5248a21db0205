-- `row_fits`: its calls answer what the definition joins; a resource or a period that does not fit settles it, whatever the subject.
-- So does a subject that asks for a credential row where the sender has none.
use Rattle.rows.proofs.Prelude.{◌≡◌, sym, ◌∙◌, true, false, not, and-false, and-true, ℕ, length, eqb}
use denote.Enum.Bare.{sameb}
use Rattle.rows.specs.Rows.{Row}
use Rattle.rules.specs.contracts.Subject.{the_type}
use Rattle.rules.specs.declared.Subject.{Subject}
use Rattle.rules.specs.declared.Subject.TheVariants.{Uuid, Role, Connection, Other}
use Rattle.rules.specs.Promises.Kinds.{kind_number}
use Rattle.rules.specs.Bodies.{ace_kind}
use Rattle.rules.specs.Permission.{role_fits, subject_is, subject_fits, row_fits}
use Rattle.permission_row.proofs.row_fits.Goals as goal

no_row : (clock : ℕ) (w : Row) (connection : ℕ) (a : Row) (k : Subject) → kind_number k ≡ ace_kind a → eqb (length w) 0 ≡ true
    → not (sameb the_type k Connection) ≡ true → subject_fits clock w connection a ≡ false
unfolding subject_fits subject_is role_fits
no_row clock w connection a Uuid e h n = rw (← e, h)
no_row clock w connection a Role e h n = rw (← e, h)
no_row clock w connection a Connection e h n = absurd (cc)
no_row clock w connection a Other e h n = rw (← e)

pub returns-then-not-resource_fits : goal.returns-then-not-resource_fits
unfolding row_fits
returns-then-not-resource_fits c = rw (sym c.resource_fits.ensures ∙ c.if-not-resource_fits.true, and-false)

pub returns-then-ne : goal.returns-then-ne
unfolding row_fits
returns-then-ne c = rw (no_row _ _ _ _ _ c.kind.ensures (sym c.if-is_empty.ensures) (sym c.if-ne.ensures))

pub returns-then-not-in_force : goal.returns-then-not-in_force
unfolding row_fits
returns-then-not-in_force c = rw (sym c.in_force.ensures ∙ c.if-not-in_force.true, and-false)

pub returns : goal.returns
unfolding row_fits
returns c =
    rw (
      c.subject_fits.ensures,
      sym c.in_force.ensures ∙ c.if-not-in_force.false,
      and-true,
      sym c.resource_fits.ensures ∙ c.if-not-resource_fits.false,
      and-true,
    )
