-- Theorems: what a take gives is the outcome of the record due, at the take's clock, whether it is permitted or refused.
-- A record that enters RESET leaves the fresh terminal, at a take and directly: fresh tables, nothing waits, and the round starts over.
use Rattle.rows.proofs.Prelude.{◌≡◌, refl, ap, ap₂, ◌∙◌, true, false, ◌||◌, List, ℕ, length, eqb, eqb-true, and_left, and_right, contradiction}
use Rattle.rows.specs.Rows.{Row}
use Rattle.rules.specs.declared.Tables.{Tables}
use Rattle.rules.specs.declared.Check.TheVariants.{Pass}
use Rattle.rules.specs.declared.Action.{Action}
use Rattle.rules.specs.declared.Action.TheVariants.{Serve, Read, SetRowOwner, SetOwner, SetState, Store, Remove, Assert, Malformed}
use Rattle.rules.specs.Record.{Request, received}
use Rattle.rules.specs.Defaults.{Defaults, fresh}
use Rattle.rules.specs.Action.{action}
use Rattle.rules.specs.Checks.{verdict}
use Rattle.rules.specs.Outcome.{Outcome, effect_by, entered, response_to, tables_after}
use Rattle.rules.proofs.CheckLaws.{check_cases}
use Rattle.rules.proofs.Refusals.{permitted_outcome}
use Rattle.rules_terminal.specs.Slots.{Round, waiting}
use Rattle.rules_terminal.specs.Terminal.{Terminal, terminal, fresh_terminal, sound_terminal, is_reset, clears, queue_after, terminal_after}
use Rattle.rules_terminal.specs.Terminal.{take_checks, due, take_of, taken, OutcomeOfDue}
use Rattle.rules_terminal.proofs.Refused.{take_ready}
use Rattle.rules_terminal.proofs.Built.{refused_number}

module _ (d : Defaults) (x : Terminal) (clock capacity : ℕ) where
  -- on a sound terminal where a record waits
  pub taken_is : sound_terminal x ≡ true → eqb (length (waiting x.queue)) 0 ≡ false
      → taken d x clock capacity ≡ take_of d x (received clock (due x) capacity) Pass
  unfolding taken
  taken_is h w = ap (take_of d x (received clock (due x) capacity)) (take_ready x h w)

  -- with any answer but 1 and 27, so with 0
  pub judged_take : (eqb (taken d x clock capacity).response.answer 1 || eqb (taken d x clock capacity).response.answer 27) ≡ false
      → OutcomeOfDue d x clock capacity
  unfolding taken
  judged_take a =
      check_cases (verdict (take_checks x))
      (λ e. record { handed = rw e; response = rw e; tables = rw e })
      (λ n e. contradiction (refused_number x n e) (rw e at a))

  pub permitted_take : (taken d x clock capacity).response.answer ≡ 0 → OutcomeOfDue d x clock capacity
  permitted_take a = judged_take (rw a)

-- ---- RESET

module _ (d : Defaults) (t : Tables) (q : Request) where
  reset_effect : (a : Action) → is_reset a ≡ true → effect_by d t q a ≡ fresh d
  unfolding entered
  reset_effect Serve e = contradiction e refl
  reset_effect Read e = contradiction e refl
  reset_effect (SetRowOwner n) e = contradiction e refl
  reset_effect (SetOwner o) e = contradiction e refl
  reset_effect (SetState s) e = rw e
  reset_effect (Store k) e = contradiction e refl
  reset_effect (Remove k key) e = contradiction e refl
  reset_effect (Assert c) e = contradiction e refl
  reset_effect Malformed e = contradiction e refl

  reset_tables : clears d t q ≡ true → tables_after d t q ≡ fresh d
  unfolding clears
  reset_tables c =
      ap (λ (o : Outcome). o.tables) (permitted_outcome d t q (eqb-true _ _ (and_left _ _ c)))
      ∙ reset_effect (action q.bytes) (and_right (eqb (response_to d t q).answer 0) _ c)

  pub reset_fresh : (k : Round) (ws : List Row) → clears d t q ≡ true → terminal_after d t q k ws ≡ fresh_terminal d
  unfolding queue_after fresh_terminal
  reset_fresh k ws c = ap₂ terminal (reset_tables c) (rw c)
