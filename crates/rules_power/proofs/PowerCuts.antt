-- Theorems: a day of a terminal whose power is cut again and again, by the rules and by any calls that meet the contracts.
-- With tables and the queue as one image it is a run without power cuts; with only the tables nothing waits after each restart.
use Rattle.rows.proofs.Prelude.{◌≡◌, refl, ap, subst, Bool, true, List, [], ◌∷◌, map, ℕ, ◌+◌, ◌≤◌, arith, length, and_left, and_right, contradiction}
use Rattle.rows.specs.Rows.{same, some}
use Rattle.rules.specs.Defaults.{Defaults}
use Rattle.rules.specs.declared.Sender.{Sender}
use Rattle.rules.specs.Run.{replies, final}
use Rattle.rules_terminal.specs.Terminal.{Terminal, Transition, sound_terminal}
use Rattle.rules_terminal.specs.Inputs.{Input, hand_in, take_at, direct, transition, next, takes, records_in}
use Rattle.rules_terminal.specs.CallRun.{Call, Meets, left, Built, handed_back, all_shown}
use Rattle.rules_runs.specs.Events.{gathered}
use Rattle.rules_runs.specs.Isolation.{BookPremise, Isolated, answers_to}
use Rattle.rules_runs.specs.Waits.{record_taken, QuietFor}
use Rattle.rules_runs.proofs.Served.{waiting_served}
use Rattle.rules_runs.proofs.Calls.{handed_isolation, built_served}
use Rattle.rules_store.specs.Store.{size_for}
use Rattle.rules_power.specs.Image.{tables_size, terminal_size}
use Rattle.rules_power.specs.Day as day
use Rattle.rules_power.specs.Day.{Machine, Event, replied, found, Day, Restarts, Run, SeenOf, AsRun, in_rounds}
use Rattle.rules_power.specs.Kept as acted
use Rattle.rules_power.specs.Kept.{Act, input, clear, is_input, no_clear, Answers, Calls, take_of, takes_answered, nothing_waits}
use Rattle.rules_power.specs.Kept.{by_rules, by_calls, tables_by_rules, tables_by_calls, AsCalls}
use Rattle.rules_power.proofs.Terminals as terminals
use Rattle.rules_power.proofs.Terminals.{answers_next, calls_next}

module _ (d : Defaults) where
  -- ---- tables and the queue as one image

  pub whole_run : (s end : List ℕ) (es : List (Event Act Transition)) (z : Terminal) → length s ≡ size_for terminal_size
      → Day (by_rules d) (found (by_rules d) s) s es z end → AsRun (by_rules d) (found (by_rules d) s) es z × (found (by_rules d) end ≡ z)
  whole_run s end es z f = terminals.any_whole_run (Answers d) d (answers_next d) s end f es z

  pub whole_calls : (s end : List ℕ) (es : List (Event Act Call)) (z : Terminal) → length s ≡ size_for terminal_size
      → Day (by_calls d) (found (by_calls d) s) s es z end → AsRun (by_calls d) (found (by_calls d) s) es z × (found (by_calls d) end ≡ z)
  whole_calls s end es z f = terminals.any_whole_run (Calls d) d (calls_next d) s end f es z

  pub whole_sound : (s end : List ℕ) (es : List (Event Act Call)) (z : Terminal) → length s ≡ size_for terminal_size
      → Day (by_calls d) (found (by_calls d) s) s es z end → sound_terminal (found (by_calls d) s) ≡ true → sound_terminal z ≡ true
  whole_sound s end es z f = terminals.any_whole_sound (Calls d) d (calls_next d) s end f es z

  -- a store of any content, and the first image
  pub whole_first : (s end : List ℕ) (c : Call) (es : List (Event Act Call)) (z : Terminal) → length s ≡ size_for terminal_size
      → Day (by_calls d) (found (by_calls d) s) s (replied clear c ∷ es) z end → sound_terminal z ≡ true
  whole_first s end c es z f = terminals.any_whole_first (Calls d) d (calls_next d) s end f c es z

  -- several inputs, stored together and then answered
  pub whole_rounds : (s end : List ℕ) (es : List (Event (List Act) (List Call))) (z : Terminal) → length s ≡ size_for terminal_size
      → Day (in_rounds (by_calls d)) (found (by_calls d) s) s es z end → AsRun (in_rounds (by_calls d)) (found (by_calls d) s) es z × (found (by_calls d) end ≡ z)
  whole_rounds s end es z f = terminals.any_whole_rounds (Calls d) d (calls_next d) s end f es z

  -- ---- only the tables

  pub tables_run : (s end : List ℕ) (es : List (Event Act Transition)) (z : Terminal) → length s ≡ size_for tables_size
      → Day (tables_by_rules d) (found (tables_by_rules d) s) s es z end
      → Restarts (tables_by_rules d) (found (tables_by_rules d) s) es z × (found (tables_by_rules d) end ≡ nothing_waits z)
  tables_run s end es z f = terminals.any_tables_run (Answers d) d (answers_next d) s end f es z

  pub tables_calls : (s end : List ℕ) (es : List (Event Act Call)) (z : Terminal) → length s ≡ size_for tables_size
      → Day (tables_by_calls d) (found (tables_by_calls d) s) s es z end
      → Restarts (tables_by_calls d) (found (tables_by_calls d) s) es z × (found (tables_by_calls d) end ≡ nothing_waits z)
  tables_calls s end es z f = terminals.any_tables_run (Calls d) d (calls_next d) s end f es z

  pub tables_sound : (s end : List ℕ) (es : List (Event Act Call)) (z : Terminal) → length s ≡ size_for tables_size
      → Day (tables_by_calls d) (found (tables_by_calls d) s) s es z end → sound_terminal (found (tables_by_calls d) s) ≡ true → sound_terminal z ≡ true
  tables_sound s end es z f = terminals.any_tables_sound (Calls d) d (calls_next d) s end f es z

  pub tables_first : (s end : List ℕ) (c : Call) (es : List (Event Act Call)) (z : Terminal) → length s ≡ size_for tables_size
      → Day (tables_by_calls d) (found (tables_by_calls d) s) s (replied clear c ∷ es) z end → sound_terminal z ≡ true
  tables_first s end c es z f = terminals.any_tables_first (Calls d) d (calls_next d) s end f c es z

  -- several inputs, stored together and then answered
  pub tables_rounds : (s end : List ℕ) (es : List (Event (List Act) (List Transition))) (z : Terminal) → length s ≡ size_for tables_size
      → Day (in_rounds (tables_by_rules d)) (found (tables_by_rules d) s) s es z end
      → Restarts (in_rounds (tables_by_rules d)) (found (tables_by_rules d) s) es z × (found (tables_by_rules d) end ≡ nothing_waits z)
  tables_rounds s end es z f = terminals.any_tables_rounds (Answers d) d (answers_next d) s end f es z

  pub tables_rounds_calls : (s end : List ℕ) (es : List (Event (List Act) (List Call))) (z : Terminal) → length s ≡ size_for tables_size
      → Day (in_rounds (tables_by_calls d)) (found (tables_by_calls d) s) s es z end
      → Restarts (in_rounds (tables_by_calls d)) (found (tables_by_calls d) s) es z × (found (tables_by_calls d) end ≡ nothing_waits z)
  tables_rounds_calls s end es z f = terminals.any_tables_rounds (Calls d) d (calls_next d) s end f es z

  pub tables_rounds_sound : (s end : List ℕ) (es : List (Event (List Act) (List Call))) (z : Terminal) → length s ≡ size_for tables_size
      → Day (in_rounds (tables_by_calls d)) (found (tables_by_calls d) s) s es z end → sound_terminal (found (tables_by_calls d) s) ≡ true → sound_terminal z ≡ true
  tables_rounds_sound s end es z f = terminals.any_tables_rounds_sound (Calls d) d (calls_next d) s end f es z

  -- ---- runs are those of the other theorems, where the clear button is not pressed

  pub rules_run : (x z : Terminal) (is : List Input) (rs : List Transition) → Run (by_rules d) x (map input is) rs z
      → (rs ≡ replies (transition d) (next d) x is) × (z ≡ final (next d) x is)
  rules_run x z [] rs day.none = (refl, refl)
  rules_run x z (i ∷ is) rs (day.more {bs = bs} _ _ (acted.gives _ _) rest) =
      let r = rules_run (next d x i) z is bs rest in (ap (λ (l : List Transition). transition d x i ∷ l) r.0, r.1)

  calls_meet : (x y : Terminal) (i : Input) (c : Call) → Calls d x (input i) c y → Meets d x i c × (y ≡ left c)
  calls_meet x y i c (acted.gives _ _ _ m) = (m, refl)

  -- whatever is stored; so of a round
  module _ (m : Machine Terminal Act Call) (gives : (x y : Terminal) (act : Act) (c : Call) → m.Gives x act c y → Calls d x act c y) where
    pub run_built : (x z : Terminal) (is : List Input) (cs : List Call) → Run m x (map input is) cs z → Built d x is cs × (z ≡ handed_back x cs)
    run_built x z [] cs day.none = (tt, refl)
    run_built x z (i ∷ is) cs (day.more {y = y} {bs = bs} _ c g rest) =
        let here = calls_meet x y i c (gives x y (input i) c g) in
        let r = run_built (left c) z is bs (subst (λ (v : Terminal). Run m v (map input is) bs z) here.1 rest) in
        ((here.0, r.0), r.1)

  abbrev inputs_of : List Act → List Input
  inputs_of [] = []
  inputs_of (input i ∷ acts) = i ∷ inputs_of acts
  inputs_of (clear ∷ acts) = inputs_of acts

  more_inputs : (act : Act) (acts : List Act) → is_input act ≡ true → map input (inputs_of acts) ≡ acts → map input (inputs_of (act ∷ acts)) ≡ act ∷ acts
  more_inputs (input i) acts h e = ap (λ (l : List Act). input i ∷ l) e
  more_inputs clear acts h e = contradiction h refl

  all_inputs_lem : {Answer : Type 0} (acts : List Act) (rs : List Answer) (es : List (Event Act Answer)) → SeenOf acts rs es → no_clear es ≡ true
      → map input (inputs_of acts) ≡ acts
  all_inputs_lem acts rs es day.none h = refl
  all_inputs_lem acts rs es (day.transition {is = is} {bs = bs} {es = later} act a seen) h =
      more_inputs act is (and_left (is_input act) (no_clear later) h) (all_inputs_lem is bs later seen (and_right (is_input act) (no_clear later) h))
  all_inputs_lem acts rs es (day.counted {is = is} {bs = bs} {es = later} act a seen) h =
      more_inputs act is (and_left (is_input act) (no_clear later) h) (all_inputs_lem is bs later seen (and_right (is_input act) (no_clear later) h))
  all_inputs_lem acts rs es (day.left_out {es = later} act seen) h = all_inputs_lem acts rs later seen (and_right (is_input act) (no_clear later) h)
  all_inputs_lem acts rs es (day.unseen {es = later} seen) h = all_inputs_lem acts rs later seen h

  -- whatever is stored: so of a day with the queue stored, and with only the tables of each stretch without a cut
  pub as_calls : (m : Machine Terminal Act Call) → ((x y : Terminal) (act : Act) (c : Call) → m.Gives x act c y → Calls d x act c y)
      → (x z : Terminal) (es : List (Event Act Call)) → AsRun m x es z → no_clear es ≡ true → AsCalls d x es z
  as_calls m gives x z es r h =
      let e = all_inputs_lem r.inputs r.replies es r.seen h in
      let b = run_built m gives x z (inputs_of r.inputs) r.replies (rw e r.run) in
      record { inputs = inputs_of r.inputs; calls = r.replies; built = b.0; ends = b.1; seen = rw e r.seen }

  -- a day with the queue stored, from any store of the right length
  pub whole_as_calls : (s end : List ℕ) (es : List (Event Act Call)) (z : Terminal) → length s ≡ size_for terminal_size
      → Day (by_calls d) (found (by_calls d) s) s es z end → no_clear es ≡ true → AsCalls d (found (by_calls d) s) es z
  whole_as_calls s end es z f days h = as_calls (by_calls d) (λ x y act c g. g) (found (by_calls d) s) z es (whole_calls s end es z f days).0 h

  -- so demand 3 holds across power cuts: the book is fed the records as they were handed in or waited at the start
  pub day_isolation : (chosen : Sender → Bool) (x z : Terminal) (es : List (Event Act Call)) → (c : AsCalls d x es z)
      → BookPremise d chosen x c.inputs (all_shown c.inputs c.calls) → Isolated d chosen x c.inputs (all_shown c.inputs c.calls) z
  day_isolation chosen x z es c p = rw c.ends (handed_isolation d x c.inputs c.calls c.built chosen p)

  -- ---- a record that waits is given out within 25 takes that are answered, however often the power is cut

  abbrev takes_in : List Act → ℕ
  takes_in [] = 0
  takes_in (act ∷ acts) = take_of act + takes_in acts

  takes_answered_lem : {Answer : Type 0} (acts : List Act) (rs : List Answer) (es : List (Event Act Answer)) → SeenOf acts rs es → takes_answered es ≤ takes_in acts
  takes_answered_lem acts rs es day.none = omega arith
  takes_answered_lem acts rs es (day.transition {is = is} {bs = bs} {es = later} act a seen) = omega (arith, takes_answered_lem is bs later seen)
  takes_answered_lem acts rs es (day.counted {is = is} {bs = bs} {es = later} act a seen) = omega (arith, takes_answered_lem is bs later seen)
  takes_answered_lem acts rs es (day.left_out {es = later} act seen) = takes_answered_lem acts rs later seen
  takes_answered_lem acts rs es (day.unseen {es = later} seen) = takes_answered_lem acts rs later seen

  takes_inputs : (is : List Input) → takes_in (map input is) ≡ takes is
  takes_inputs [] = refl
  takes_inputs (hand_in r ∷ is) = omega (arith, takes_inputs is)
  takes_inputs (take_at clock capacity ∷ is) = omega (arith, takes_inputs is)
  takes_inputs (direct q ∷ is) = omega (arith, takes_inputs is)

  -- nothing is asked of the take that hands it out, nor of what comes later; that take may be cut
  pub day_served : (x z : Terminal) (es : List (Event Act Call)) → (c : AsCalls d x es z) → (r : List ℕ)
      → sound_terminal x ≡ true → some (same r) (records_in x) ≡ true → QuietFor r x c.inputs (all_shown c.inputs c.calls) → 25 ≤ takes_answered es
      → some (same r) (gathered record_taken c.inputs (all_shown c.inputs c.calls)) ≡ true
  day_served x z es c r h w q n =
      built_served d x c.inputs c.calls c.built h r w q
      (omega (arith, takes_inputs c.inputs, takes_answered_lem (map input c.inputs) c.calls es c.seen))

  -- the same by the rules
  pub day_served_rules : (x : Terminal) (is : List Input) (rs : List Transition) (es : List (Event Act Transition)) → SeenOf (map input is) rs es → (r : List ℕ)
      → sound_terminal x ≡ true → some (same r) (records_in x) ≡ true → QuietFor r x is (answers_to d x is) → 25 ≤ takes_answered es
      → some (same r) (gathered record_taken is (answers_to d x is)) ≡ true
  day_served_rules x is rs es seen r h w q n =
      waiting_served d x is r h w q (omega (arith, takes_inputs is, takes_answered_lem (map input is) rs es seen))
