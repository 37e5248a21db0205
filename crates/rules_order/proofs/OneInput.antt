-- One input to two terminals in step: a hand-in, a take or a record that is judged directly gets the same answer except for the order, and leaves them in step.
-- The queue is found by only the credential rows, so the queue of one is that of the other.
use Rattle.rows.proofs.Prelude.{◌≡◌, refl, sym, ap, ap₂, subst, true, List, ℕ, length}
use Rattle.rows.specs.Rows.{Row}
use Rattle.rules.specs.declared.Tables.{Tables}
use Rattle.rules.specs.declared.Table.TheVariants.{Aces}
use Rattle.rules.specs.Record.{Request, received}
use Rattle.rules.specs.Tables.{rows}
use Rattle.rules.specs.Defaults.{Defaults}
use Rattle.rules.specs.Checks.{verdict}
use Rattle.rules.specs.Outcome.{response_to, tables_after}
use Rattle.rules_terminal.specs.Slots.{Round}
use Rattle.rules_terminal.specs.Round.{seats, first_in_turn}
use Rattle.rules_terminal.specs.Terminal.{Terminal, terminal, Transition, number_transition, sound_terminal, hand_in_checks, handed_in, clears, queue_after}
use Rattle.rules_terminal.specs.Terminal.{take_checks, turn, due, taken, direct_checks, judged}
use Rattle.rules_terminal.specs.Inputs.{Input, hand_in, take_at, direct, transition, next}
use Rattle.rules.proofs.CheckLaws.{check_cases}
use Rattle.rules_terminal.proofs.Sound.{terminal_parts, sound_next}
use Rattle.rules_order.specs.Reorder.{Reordered}
use Rattle.rules_order.specs.Order.{OrderOnly, InStep, SameBut, SameAnswer}
use Rattle.rules_order.proofs.OneRecord.{with_bytes, order_is, credential_same, same_responses, record_step}
use Rattle.rules_order.proofs.OwnersKept.{owners_kept}

-- ---- the queue that a record leaves, where the tables before and after differ only in the order

seats_same : (t u : Tables) → OrderOnly t u → seats t ≡ seats u
unfolding seats
seats_same t u o = ap seats o.others

module _ (d : Defaults) (t u : Tables) (q : Request) (o : OrderOnly t u)
    (a : (response_to d t q).answer ≡ (response_to d u q).answer) (p : OrderOnly (tables_after d t q) (tables_after d u q)) where
  queue_same : (k : Round) (ws : List Row) → queue_after d t q k ws ≡ queue_after d u q k ws
  unfolding queue_after clears
  queue_same k ws = rw (a, seats_same t u o, seats_same (tables_after d t q) (tables_after d u q) p)

-- ---- an answer on two sides

record Stepped (i : Input) (a b : Transition) : Type 0 where
  same : SameAnswer i a b
  queue : a.terminal.queue ≡ b.terminal.queue
  tables : OrderOnly a.terminal.tables b.terminal.tables

module _ (d : Defaults) (t : Tables) (z m : List ℕ) (o : Reordered (rows Aces t) (rows Aces (with_bytes t z)))
    (h : sound_terminal (terminal t m) ≡ true) (k : sound_terminal (terminal (with_bytes t z) m) ≡ true) (l : length t.rowners ≡ 64) where
  abbrev u : Tables
  u = with_bytes t z

  abbrev x : Terminal
  x = terminal t m

  abbrev y : Terminal
  y = terminal u m

  congruent : OrderOnly t u
  congruent = record { others = refl; counted = refl; order = o }

  -- an answer that leaves both as they are
  stays : (i : Input) (n : ℕ) → Stepped i (number_transition n x) (number_transition n y)
  stays i n = record { same = record { bytes = refl; response = same_responses _ _ }; queue = refl; tables = congruent }

  judged_both : (q : Request) → SameBut q.bytes (response_to d t q) (response_to d u q) × OrderOnly (tables_after d t q) (tables_after d u q)
  judged_both q = record_step d t z o q (terminal_parts x h).tables (terminal_parts y k).tables l

  stepped : (i : Input) → Stepped i (transition d x i) (transition d y i)
  unfolding handed_in taken due turn first_in_turn seats judged
  stepped (hand_in r) =
      let v : verdict (hand_in_checks y r) ≡ verdict (hand_in_checks x r) = rw (h, k, credential_same t z o r) in
      rw v
      (check_cases (verdict (hand_in_checks x r))
      (λ e. rw e (record { same = record { bytes = refl; response = same_responses _ _ }; queue = refl; tables = congruent }))
      (λ n e. rw e (stays (hand_in r) n)))
  stepped (take_at clock capacity) =
      let v : verdict (take_checks y) ≡ verdict (take_checks x) = rw (h, k) in
      let q = received clock (due x) capacity in
      let both = judged_both q in
      rw v
      (check_cases (verdict (take_checks x))
      (λ e. rw e
      (record { same = record { bytes = refl; response = both.0 }; queue = queue_same d t u q congruent both.0.answer both.1 _ _; tables = both.1 }))
      (λ n e. rw e (stays (take_at clock capacity) n)))
  stepped (direct q) =
      let v : verdict (direct_checks y) ≡ verdict (direct_checks x) = rw (h, k) in
      let both = judged_both q in
      rw v
      (check_cases (verdict (direct_checks x))
      (λ e. rw e
      (record { same = record { bytes = refl; response = both.0 }; queue = queue_same d t u q congruent both.0.answer both.1 _ _; tables = both.1 }))
      (λ n e. rw e (stays (direct q) n)))

-- ---- the row owners keep their length

pub owners_next : (d : Defaults) (x : Terminal) (i : Input) → length x.tables.rowners ≡ 64 → length (next d x i).tables.rowners ≡ 64
unfolding handed_in taken judged
owners_next d x (hand_in r) l = check_cases (verdict (hand_in_checks x r)) (λ e. rw (e, next) l) (λ n e. rw (e, next) l)
owners_next d x (take_at clock capacity) l =
    check_cases (verdict (take_checks x))
    (λ e. rw (e, next) (owners_kept d x.tables (received clock (due x) capacity) l))
    (λ n e. rw (e, next) l)
owners_next d x (direct q) l =
    check_cases (verdict (direct_checks x)) (λ e. rw (e, next) (owners_kept d x.tables q l)) (λ n e. rw (e, next) l)

-- ---- one input

pub input_step : (d : Defaults) (x y : Terminal) (i : Input) → InStep x y → length x.tables.rowners ≡ 64
    → SameAnswer i (transition d x i) (transition d y i) × InStep (next d x i) (next d y i)
input_step d x y i s l =
    let is : y ≡ terminal (with_bytes x.tables y.tables.aces) x.queue =
    ap₂ terminal (order_is x.tables y.tables s.tables) (sym s.queue) in
    let both =
    subst (λ (w : Terminal). sound_terminal w ≡ true → Reordered (rows Aces x.tables)
    (rows Aces w.tables) → Stepped i (transition d x i) (transition d w i))
    (sym is)
    (λ k o. stepped d x.tables y.tables.aces x.queue o s.sound_left k l i) s.sound_right s.tables.order in (
      both.same,
      record { sound_left = sound_next d x i s.sound_left; sound_right = sound_next d y i s.sound_right; queue = both.queue; tables = both.tables },
    )
