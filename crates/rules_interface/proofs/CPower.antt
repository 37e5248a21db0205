-- Theorem: a day with power cuts, of C calls. Each is on the bytes that the one before left or, after a cut, on those that the store held.
-- They are calls as the theorems of power cuts take them (rules_power/proofs/PowerCuts.antt).
use Rattle.rows.proofs.Prelude.{◌≡◌, refl, sym, ap, subst, ◌∙◌, Bool, true, ◌&&◌, List, [], ◌∷◌, ℕ, length}
use Rattle.rules.specs.Defaults.{Defaults}
use Rattle.rules_terminal.specs.Terminal.{Terminal}
use Rattle.rules_terminal.specs.CallRun.{Call}
use Rattle.rules_store.specs.Store.{size_for}
use Rattle.rules_power.specs.Image.{tables_size, terminal_size}
use Rattle.rules_power.specs.Day as day
use Rattle.rules_power.specs.Day.{Machine, Event, found, Day, Restarts, Run, AsRun, in_rounds}
use Rattle.rules_power.specs.Kept as kept
use Rattle.rules_power.specs.Kept.{Act, input, clear, Calls, nothing_waits, whole, tables_alone, by_calls, tables_by_calls, is_input, no_clear}
use Rattle.rules_power.specs.Stretches.{shown_across, IsolatedAcross, all_inputs, no_clear_in}
use Rattle.rules_power.proofs.Days.{day_mapped}
use Rattle.rules_power.proofs.PowerCuts.{whole_calls, tables_calls, whole_rounds, tables_rounds_calls, as_calls, day_isolation, day_served}
use Rattle.rules_power.proofs.Stretches.{across_isolation, across_served, as_stretches}
use Rattle.rules_interface.specs.Memory.{Memory, terminal_at}
use Rattle.rules_interface.specs.Calls.{CCall, PromisedBy}
use Rattle.rules_interface.specs.CallRun.{call_of}
use Rattle.rules_interface.specs.Power.{CGives, gives, call_at, seen, calls_at, seen_rounds, CDay, CTablesDay}
use Rattle.rules_interface.proofs.CCalls.{c_meets}

c_act : (d : Defaults) (m : Memory) (act : Act) (c : CCall) → PromisedBy d m act c → Calls d (terminal_at m) act (call_at act c) (terminal_at c.memory)
c_act d m (input i) c p = kept.gives (terminal_at m) i (call_of i c) (c_meets d m i c p)
c_act d m clear c p = kept.clears (terminal_at m) (call_at clear c) (ap terminal_at p)

c_calls : (d : Defaults) (x y : Terminal) (act : Act) (c : CCall) → CGives d x act c y → Calls d x act (call_at act c) y
c_calls d x y act c (gives m _ _ p) = c_act d m act c p

module _ (d : Defaults) where
  -- tables and the queue as one image: a run without power cuts
  pub c_whole : (s end : List ℕ) (es : List (Event Act CCall)) (z : Terminal) → length s ≡ size_for terminal_size
      → Day (whole (CGives d)) (found (whole (CGives d)) s) s es z end
      → AsRun (by_calls d) (found (by_calls d) s) (seen es) z × (found (by_calls d) end ≡ z)
  unfolding found
  c_whole s end es z f days =
      whole_calls d s end (seen es) z f (day_mapped (whole (CGives d)) (Calls d) call_at (c_calls d) (found (whole (CGives d)) s) z s end es days)

  -- only the tables: nothing waits after a restart
  pub c_tables : (s end : List ℕ) (es : List (Event Act CCall)) (z : Terminal) → length s ≡ size_for tables_size
      → Day (tables_alone (CGives d)) (found (tables_alone (CGives d)) s) s es z end
      → Restarts (tables_by_calls d) (found (tables_by_calls d) s) (seen es) z × (found (tables_by_calls d) end ≡ nothing_waits z)
  unfolding found
  c_tables s end es z f days =
      tables_calls d s end (seen es) z f
      (day_mapped (tables_alone (CGives d)) (Calls d) call_at (c_calls d) (found (tables_alone (CGives d)) s) z s end es days)

  -- ---- in rounds

  round_calls : (m : Machine Terminal Act Call) → ((x y : Terminal) (act : Act) (c : Call) → Calls d x act c y → m.Gives x act c y)
      → (n : Machine Terminal Act CCall) → ((x y : Terminal) (act : Act) (c : CCall) → n.Gives x act c y → CGives d x act c y)
      → (x y : Terminal) (round : List Act) (cs : List CCall) → Run n x round cs y → Run m x round (calls_at round cs) y
  round_calls m forth n back x y round cs day.none = day.none
  round_calls m forth n back x y round cs (day.more {y = v} {is = acts} {bs = ds} act c g rest) =
      day.more act (call_at act c) (forth x v act (call_at act c) (c_calls d x v act c (back x v act c g))) (round_calls m forth n back v y acts ds rest)

  pub c_whole_rounds : (s end : List ℕ) (es : List (Event (List Act) (List CCall))) (z : Terminal) → length s ≡ size_for terminal_size
      → Day (in_rounds (whole (CGives d))) (found (whole (CGives d)) s) s es z end
      → AsRun (in_rounds (by_calls d)) (found (by_calls d) s) (seen_rounds es) z × (found (by_calls d) end ≡ z)
  unfolding found
  c_whole_rounds s end es z f days =
      whole_rounds d s end (seen_rounds es) z f
      (day_mapped (in_rounds (whole (CGives d))) (Run (by_calls d)) calls_at (round_calls (by_calls d) (λ x y act c g. g) (whole (CGives d)) (λ x y act c g. g))
      (found (whole (CGives d)) s) z s end es days)

  pub c_tables_rounds : (s end : List ℕ) (es : List (Event (List Act) (List CCall))) (z : Terminal) → length s ≡ size_for tables_size
      → Day (in_rounds (tables_alone (CGives d))) (found (tables_alone (CGives d)) s) s es z end
      → Restarts (in_rounds (tables_by_calls d)) (found (tables_by_calls d) s) (seen_rounds es) z × (found (tables_by_calls d) end ≡ nothing_waits z)
  unfolding found
  c_tables_rounds s end es z f days =
      tables_rounds_calls d s end (seen_rounds es) z f
      (day_mapped (in_rounds (tables_alone (CGives d))) (Run (tables_by_calls d)) calls_at
      (round_calls (tables_by_calls d) (λ x y act c g. g) (tables_alone (CGives d)) (λ x y act c g. g))
      (found (tables_alone (CGives d)) s) z s end es days)

  -- ---- demand 3 and 25 takes, where the clear button is not pressed

  seen_inputs : (es : List (Event Act CCall)) → no_clear (seen es) ≡ no_clear es
  seen_inputs [] = refl
  seen_inputs (day.replied act c ∷ es) = ap (λ (b : Bool). is_input act && b) (seen_inputs es)
  seen_inputs (day.cut act ∷ es) = ap (λ (b : Bool). is_input act && b) (seen_inputs es)
  seen_inputs (day.idle ∷ es) = seen_inputs es

  rounds_inputs : (es : List (Event (List Act) (List CCall))) → no_clear_in (seen_rounds es) ≡ no_clear_in es
  rounds_inputs [] = refl
  rounds_inputs (day.replied acts cs ∷ es) = ap (λ (b : Bool). all_inputs acts && b) (rounds_inputs es)
  rounds_inputs (day.cut acts ∷ es) = ap (λ (b : Bool). all_inputs acts && b) (rounds_inputs es)
  rounds_inputs (day.idle ∷ es) = rounds_inputs es

  -- with the queue stored: a day of C calls, cut however often
  pub c_day : (s end : List ℕ) (es : List (Event Act CCall)) (z : Terminal) → length s ≡ size_for terminal_size
      → Day (whole (CGives d)) (found (whole (CGives d)) s) s es z end → no_clear es ≡ true → CDay d (found (by_calls d) s) es z
  c_day s end es z f days none =
      let x = found (by_calls d) s in
      let run = as_calls d (by_calls d) (λ x y act c g. g) x z (seen es) (c_whole s end es z f days).0 (seen_inputs es ∙ none) in
      record {
        run = run;
        isolated = λ chosen. day_isolation d chosen x z (seen es) run;
        served = λ h r w q n. day_served d x z (seen es) run r h w q n;
      }

  -- with only the tables, in rounds: demand 3 across restarts
  pub c_tables_day : (s end : List ℕ) (es : List (Event (List Act) (List CCall))) (z : Terminal) → length s ≡ size_for tables_size
      → Day (in_rounds (tables_alone (CGives d))) (found (tables_alone (CGives d)) s) s es z end → no_clear_in es ≡ true
      → CTablesDay d (found (tables_by_calls d) s) es z
  c_tables_day s end es z f days none =
      let x = found (tables_by_calls d) s in
      let run = as_stretches d x z (seen_rounds es) (c_tables_rounds s end es z f days).0 (rounds_inputs es ∙ none) in
      let iss = run.inputs ∷ run.later in
      let css = run.calls ∷ run.later_calls in
      record {
        run = run;
        isolated = λ chosen p.
            subst (λ (v : Terminal). IsolatedAcross d chosen x iss (shown_across iss css) v) (sym run.ends)
            (across_isolation d x iss css run.built chosen p);
        served = across_served d x iss css run.built;
      }
