-- Theorems over the definitions: a waiting record is given out within 25 takes, and none is lost, while no credential row is added or
-- removed and the tables are not cleared; and none is altered. Within 25 takes, nothing is asked once the record is given out.
use Rattle.rows.proofs.Prelude.{◌≡◌, refl, sym, ◌∙◌, Bool, true, false, List, [], ◌∷◌, map, ◌++◌, ℕ, ◌+◌, ◌≤◌, eq-eqb, not-false, contradiction}
use Rattle.rows.proofs.Prelude.{bool_cases, or_left, or_right, or_true_right}
use mathlib.Core.List.{map-append}
use Rattle.rows.specs.Rows.{same, some}
use Rattle.rows.proofs.Laws.{some_append}
use Rattle.rows.proofs.Kept.{same_refl}
use Rattle.rules.specs.Defaults.{Defaults}
use Rattle.rules.specs.Checks.{verdict}
use Rattle.rules.specs.Run.{final}
use Rattle.rules.proofs.Answers.{passed}
use Rattle.rules.proofs.CheckLaws.{check_cases}
use Rattle.rules_terminal.specs.Terminal.{Terminal, Transition, sound_terminal, hand_in_checks, handed_in}
use Rattle.rules_terminal.specs.Inputs.{Input, hand_in, next, turns_at, turns, bytes_of, takes, Undisturbed, records_in, kept_at, count_of}
use Rattle.rules_terminal.proofs.Sound.{sound_next}
use Rattle.rules_terminal.proofs.Lockstep.{collected_through}
use Rattle.rules_terminal.proofs.Served.{served}
use Rattle.rules_terminal.proofs.Origin.{none_lost, taken_came, kept_waits}
use Rattle.rules_runs.specs.Events.{gathered}
use Rattle.rules_runs.specs.Waits.{record_kept, record_taken, Quiet, QuietFor}
use Rattle.rules_runs.specs.Isolation.{answers_to}
use Rattle.rules_runs.proofs.Seen.{not_zero, kept_seen, taken_seen, resets_seen, gathered_is}

-- where the record is not given out, it is quiet throughout
always_quiet : (r : List ℕ) (x : Terminal) (is : List Input) (answers : List Transition) → some (same r) (gathered record_taken is answers) ≡ false
    → QuietFor r x is answers → Quiet x is answers
always_quiet r x [] answers n q = tt
always_quiet r x (i ∷ is) [] n q = tt
always_quiet r x (i ∷ is) (a ∷ answers) n q =
    let now = some (same r) (record_taken i a) in
    let both = sym (some_append (same r) (record_taken i a) (gathered record_taken is answers)) ∙ n in
    let here = q (or_left now _ both) in
    (here.0, always_quiet r a.terminal is answers (or_right now _ both) here.1)

-- 0 is answered at hand-in only on sound terminals
kept_sound : (x : Terminal) (r : List ℕ) → (handed_in x r).response.answer ≡ 0 → sound_terminal x ≡ true
unfolding handed_in
kept_sound x r a =
    check_cases (verdict (hand_in_checks x r))
    (λ e. not-false _ (passed (hand_in_checks x r) e 1))
    (λ n e. contradiction (eq-eqb n 0 (rw e at a)) (not_zero (hand_in_checks x r) n refl e))

some_last : (r : List ℕ) (rs : List (List ℕ)) → some (same r) (rs ++ r ∷ []) ≡ true
unfolding some
some_last r rs = some_append (same r) rs (r ∷ []) ∙ or_true_right (some (same r) rs) _ (rw (same_refl r))

module _ (d : Defaults) where
  undisturbed : (x : Terminal) (is : List Input) → Quiet x is (answers_to d x is) → Undisturbed d x is
  undisturbed x [] q = tt
  undisturbed x (i ∷ is) q = (q.0.0, sym (resets_seen d x i) ∙ q.0.1, undisturbed (next d x i) is q.1)

  all_taken : (x : Terminal) (is : List Input) → gathered record_taken is (answers_to d x is) ≡ map bytes_of (turns d x is)
  all_taken x is =
      gathered_is d record_taken (λ x i. map bytes_of (turns_at d x i)) (taken_seen d) x is
      ∙ collected_through (next d) (turns_at d) (map bytes_of) refl (map-append bytes_of) x is

  -- a record that waits
  pub waiting_served : (x : Terminal) (is : List Input) (r : List ℕ) → sound_terminal x ≡ true → some (same r) (records_in x) ≡ true
      → QuietFor r x is (answers_to d x is) → 25 ≤ takes is → some (same r) (gathered record_taken is (answers_to d x is)) ≡ true
  waiting_served x is r h w q l =
      let taken = gathered record_taken is (answers_to d x is) in
      bool_cases (some (same r) taken)
      (λ e. e)
      (λ e. rw (all_taken x is) (served d x is r h w (undisturbed x is (always_quiet r x is (answers_to d x is) e q)) l))

  -- a record that was answered with 0 at hand-in
  pub kept_served : (x : Terminal) (is : List Input) (r : List ℕ) → (handed_in x r).response.answer ≡ 0
      → QuietFor r (handed_in x r).terminal is (answers_to d (handed_in x r).terminal is) → 25 ≤ takes is
      → some (same r) (gathered record_taken is (answers_to d (handed_in x r).terminal is)) ≡ true
  kept_served x is r a =
      waiting_served (handed_in x r).terminal is r (sound_next d x (hand_in r) (kept_sound x r a))
      (rw (kept_waits x r a) (some_last r (records_in x)))

  -- of the records that pass any test, as many are given out or wait at the end as waited at the start or were kept
  pub none_lost_seen : (p : List ℕ → Bool) (x : Terminal) (is : List Input) → sound_terminal x ≡ true → Quiet x is (answers_to d x is)
      → count_of p (gathered record_taken is (answers_to d x is)) + count_of p (records_in (final (next d) x is))
      ≡ count_of p (records_in x) + count_of p (gathered record_kept is (answers_to d x is))
  none_lost_seen p x is h q =
      rw (all_taken x is, gathered_is d record_kept (kept_at d) (kept_seen d) x is) (none_lost p d x is h (undisturbed x is q))

  -- a record given out waited at the start or was kept
  pub came_seen : (x : Terminal) (is : List Input) (r : List ℕ) → some (same r) (gathered record_taken is (answers_to d x is)) ≡ true
      → some (same r) (records_in x ++ gathered record_kept is (answers_to d x is)) ≡ true
  came_seen x is r = rw (all_taken x is, gathered_is d record_kept (kept_at d) (kept_seen d) x is) (taken_came d x is r)
