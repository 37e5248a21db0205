-- Theorems: what a record that is judged directly leaves of the memory. It stays byte for
-- byte unless a credential row is added or removed or the tables are cleared;
-- cleared tables hold no waiting record, whatever rows they hold. A round whose row is not held is not revived by a row that comes with its number.
use Rattle.rows.proofs.Prelude.{◌≡◌, ap, ◌∙◌, true, false, List, ℕ, suc, arith, ne_eqb}
use Rattle.rows.specs.Rows.{Row}
use Rattle.rules.specs.declared.Tables.{Tables}
use Rattle.rules.specs.declared.Check.TheVariants.{Pass}
use Rattle.rules.specs.Record.{Request}
use Rattle.rules.specs.Defaults.{Defaults}
use Rattle.rules.specs.Checks.{verdict}
use Rattle.rules.specs.Outcome.{Outcome, response_to, tables_after}
use Rattle.rules.proofs.Refusals.{refusal_is}
use Rattle.rules_terminal.specs.Slots.{Round, anew, round_of, waiting, queue_of, empty_queue}
use Rattle.rules_terminal.specs.Round.{seats, same_seats, valid_round}
use Rattle.rules_terminal.specs.Terminal.{Terminal, terminal, Transition, sound_terminal, clears, queue_after, terminal_after, direct_checks, direct_of}
use Rattle.rules_terminal.specs.Terminal.{judged}
use Rattle.rules_terminal.proofs.SlotLaws.{queue_is, round_back}
use Rattle.rules_terminal.proofs.RowsMoved.{seats_again}
use Rattle.rules_terminal.proofs.Sound.{terminal_parts}

-- a record on a sound terminal is judged
pub direct_ready : (x : Terminal) → sound_terminal x ≡ true → verdict (direct_checks x) ≡ Pass
unfolding verdict
direct_ready x h = rw h

-- a refusal leaves the tables, and of the queue what stood there
pub never_clears : (d : Defaults) (t : Tables) (q : Request) (n : ℕ) → (response_to d t q).answer ≡ suc n → clears d t q ≡ false
unfolding clears
never_clears d t q n a = rw (ne_eqb (response_to d t q).answer 0 (omega arith))

pub refused_after : (d : Defaults) (t : Tables) (q : Request) (k : Round) (ws : List Row) (n : ℕ) → (response_to d t q).answer ≡ suc n
    → terminal_after d t q k ws ≡ terminal t (queue_of k ws)
unfolding queue_after
refused_after d t q k ws n a = rw (never_clears d t q n a, ap (λ (o : Outcome). o.tables) (refusal_is d t q n a), seats_again (seats t))

module _ (d : Defaults) (x : Terminal) (q : Request) (h : sound_terminal x ≡ true) where
  pub judged_is : judged d x q ≡ direct_of d x q Pass
  unfolding judged
  judged_is = ap (direct_of d x q) (direct_ready x h)

  -- no row is added or removed: the memory stays byte for byte
  pub queue_stays : clears d x.tables q ≡ false → seats (tables_after d x.tables q) ≡ seats x.tables
      → queue_after d x.tables q (round_of x.queue) (waiting x.queue) ≡ x.queue
  unfolding queue_after
  queue_stays c e = rw (c, e, seats_again (seats x.tables)) (queue_is x.tables x.queue (terminal_parts x h).queue)

  pub undisturbed_stays : clears d x.tables q ≡ false → seats (tables_after d x.tables q) ≡ seats x.tables → (judged d x q).terminal.queue ≡ x.queue
  undisturbed_stays c e = ap (λ (a : Transition). a.terminal.queue) judged_is ∙ queue_stays c e

  -- tables that stay leave the terminal as it was: a record that is read, served or refused
  pub unchanged_stays : tables_after d x.tables q ≡ x.tables → clears d x.tables q ≡ false
      → terminal_after d x.tables q (round_of x.queue) (waiting x.queue) ≡ x
  unchanged_stays e c =
      ap (terminal (tables_after d x.tables q)) (queue_stays c (ap seats e))
      ∙ ap (λ (t : Tables). terminal t x.queue) e

  -- cleared tables hold no waiting record
  pub cleared_fresh : clears d x.tables q ≡ true → (judged d x q).terminal.queue ≡ empty_queue
  unfolding queue_after
  cleared_fresh c = ap (λ (a : Transition). a.terminal.queue) judged_is ∙ rw c

-- ---- the round

-- what a record leaves where the round stood at a seat that the tables do not hold: again once a row comes or goes
pub not_revived : (d : Defaults) (x : Terminal) (q : Request) → sound_terminal x ≡ true → valid_round (seats x.tables) (round_of x.queue) ≡ anew
    → same_seats (seats x.tables) (seats (tables_after d x.tables q)) ≡ false → clears d x.tables q ≡ false
    → round_of (judged d x q).terminal.queue ≡ anew
unfolding queue_after
not_revived d x q h n m c =
    ap (λ (a : Transition). round_of a.terminal.queue) (judged_is d x q h)
    ∙ rw (c, m, n) (round_back anew _ tt)
