-- A decision that passes, with the queue: the memory that it leaves.
-- An application record leaves the tables as they are.
use Rattle.rows.proofs.Prelude.{◌≡◌, sym, ap, ◌∙◌, Bool, true, false, ◌&&◌, List, ℕ, eqb, eq-eqb, ne_eqb}
use Rattle.rows.specs.Rows.{Row, without}
use Rattle.rules.specs.declared.Tables.{Tables}
use Rattle.rules.specs.declared.Action.TheVariants.{Serve}
use Rattle.rules.specs.declared.Decision.{Decision}
use Rattle.rules.specs.declared.Judgement.{Judgement}
use Rattle.rules.specs.Record.{Request}
use Rattle.rules.specs.Tables.{tables_of}
use Rattle.rules.specs.Defaults.{Defaults}
use Rattle.rules.specs.Action.{action}
use Rattle.rules.specs.Promises.Results.{Result}
use Rattle.rules.specs.Outcome.{Outcome, tables_after, effect_by}
use Rattle.rules_terminal.specs.Slots.{Round, queue_of, empty_queue}
use Rattle.rules_terminal.specs.Round.{seats, same_seats, orphaned, valid_round, same_count}
use Rattle.rules_terminal.specs.Terminal.{is_reset, clears, queue_after}
use Rattle.rules_terminal.proofs.RowsMoved.{count_tells}
use Rattle.execute.specs.Executed.{Decided, Executes}
use Rattle.execute.proofs.Laws.{action_is, passes}

-- the tables that are left
pub left_as : {d : Defaults} {t : Tables} {q : Request} {lent cs es buffer : List ℕ} {j : Judgement} → Executes d t q lent j cs es buffer
    → tables_of j.head cs es ≡ tables_after d t q
left_as e = ap (λ (s : Result). s.tables) e.says

module _ (t : Tables) (q : Request) (g : Decision) (permits : Decided t q g) where
  -- a record of an application resource leaves the tables
  pub served : (d : Defaults) → g.action ≡ Serve → tables_after d t q ≡ t
  served d e = sym (ap (λ (o : Outcome). o.tables) (passes t q g permits.1 permits.2 permits.0 d)) ∙ ap (effect_by d t q) (sym (action_is t q g permits.1 permits.2) ∙ e)

  clears_is : (d : Defaults) → clears d t q ≡ is_reset g.action
  unfolding clears
  clears_is d =
      sym (ap (λ (o : Outcome). eqb o.response.answer 0 && is_reset (action q.bytes)) (passes t q g permits.1 permits.2 permits.0 d))
      ∙ ap is_reset (sym (action_is t q g permits.1 permits.2))

  -- ---- the memory that it leaves

  module _ (d : Defaults) (over : Bool) (told : over ≡ is_reset g.action) (u : Tables) (after : u ≡ tables_after d t q) (k : Round) (ws : List Row) where
    pub cleared_queue : over ≡ true → empty_queue ≡ queue_after d t q k ws
    unfolding queue_after
    cleared_queue e = sym (rw (clears_is d ∙ sym told ∙ e))

    module _ (e : over ≡ false) where
      stays : clears d t q ≡ false
      stays = clears_is d ∙ sym told ∙ e

      -- the number of rows tells whether one was added or removed
      tells : same_seats (seats t) (seats (tables_after d t q)) ≡ eqb t.ncreds u.ncreds
      unfolding same_count
      tells = count_tells d t q permits.0 stays ∙ ap (λ (v : Tables). eqb t.ncreds v.ncreds) (sym after)

      pub same_queue : u.ncreds ≡ t.ncreds → queue_of k ws ≡ queue_after d t q k ws
      unfolding queue_after
      same_queue n = sym (rw (stays, tells ∙ eq-eqb t.ncreds u.ncreds (sym n)))

      pub moved_queue : (u.ncreds ≡ t.ncreds → ⊥)
          → queue_of (valid_round (seats u) (valid_round (seats t) k)) (without (orphaned (seats u)) ws) ≡ queue_after d t q k ws
      unfolding queue_after
      moved_queue n = sym (rw (stays, tells ∙ ne_eqb t.ncreds u.ncreds (λ f. n (sym f)), ← after))
