-- What answers show is what the definitions say of each input: the event, the record kept, the record taken, RESET.
-- One law leads from one answer to all that are gathered.
use Rattle.rows.proofs.Prelude.{◌≡◌, refl, ap, ◌∙◌, Bool, false, List, [], ◌∷◌, map, ℕ, eqb, eqb-true, not-false, bool_cases}
use Rattle.rows.proofs.Prelude.{contradiction, or_left}
use Rattle.rules.specs.declared.Check.TheVariants.{Refuse}
use Rattle.rules.specs.Defaults.{Defaults}
use Rattle.rules.specs.Checks.{verdict}
use Rattle.rules.specs.Outcome.{response_to}
use Rattle.rules.specs.Run.{replies}
use Rattle.rules.proofs.Answers.{passed}
use Rattle.rules.proofs.CheckLaws.{check_cases}
use Rattle.rules_terminal.specs.Terminal.{Terminal, Transition, clears, hand_in_checks, handed_in, take_checks, taken, direct_checks, judged}
use Rattle.rules_terminal.specs.Inputs.{Input, hand_in, take_at, direct, transition, next, collected, turns_at, judged_at, bytes_of, turn_response, clearing, kept_at}
use Rattle.rules_terminal.proofs.Sound.{take_passed}
use Rattle.rules_terminal.proofs.Refused.{among, refused_among}
use Rattle.rules_terminal.proofs.Built.{refused_number, direct_number, judged_number}
use Rattle.rules_runs.specs.Events.{event_of, responses_of, gathered, event_at}
use Rattle.rules_runs.specs.Waits.{record_kept, record_taken, resets}

-- 0 is no refusal's number
pub not_zero : (es : List (ℕ × Bool)) (n : ℕ) → among 0 es ≡ false → verdict es ≡ Refuse n → eqb n 0 ≡ false
not_zero es n o e =
    bool_cases (eqb n 0) (λ g. contradiction (refused_among es n e) (ap (λ (k : ℕ). among k es) (eqb-true n 0 g) ∙ o)) (λ g. g)

module _ (d : Defaults) (x : Terminal) where
  pub event_seen : (i : Input) → event_of i (transition d x i) ≡ event_at x i
  unfolding handed_in taken judged
  event_seen (hand_in r) = check_cases (verdict (hand_in_checks x r)) (λ e. rw e) (λ n e. rw (e, not_zero (hand_in_checks x r) n refl e))
  event_seen (take_at clock capacity) =
      check_cases (verdict (take_checks x)) (λ e. rw (e, judged_number d x _ (take_passed x e).0)) (λ n e. rw (e, refused_number x n e))
  event_seen (direct q) =
      check_cases (verdict (direct_checks x))
      (λ e. rw (e, or_left (eqb (response_to d x.tables q).answer 1) _ (judged_number d x q (not-false _ (passed (direct_checks x) e 1)))))
      (λ n e. rw (e, direct_number x n e))

  pub answered_seen : (i : Input) → responses_of i (transition d x i) ≡ map turn_response (judged_at d x i)
  unfolding handed_in taken judged
  answered_seen (hand_in r) = refl
  answered_seen (take_at clock capacity) =
      check_cases (verdict (take_checks x)) (λ e. rw (e, judged_number d x _ (take_passed x e).0)) (λ n e. rw (e, refused_number x n e))
  answered_seen (direct q) =
      check_cases (verdict (direct_checks x))
      (λ e. rw (e, or_left (eqb (response_to d x.tables q).answer 1) _ (judged_number d x q (not-false _ (passed (direct_checks x) e 1)))))
      (λ n e. rw (e, direct_number x n e))

  pub kept_seen : (i : Input) → record_kept i (transition d x i) ≡ kept_at d x i
  unfolding handed_in
  kept_seen (hand_in r) = check_cases (verdict (hand_in_checks x r)) (λ e. rw e) (λ n e. rw (e, not_zero (hand_in_checks x r) n refl e))
  kept_seen (take_at clock capacity) = refl
  kept_seen (direct q) = refl

  pub taken_seen : (i : Input) → record_taken i (transition d x i) ≡ map bytes_of (turns_at d x i)
  unfolding taken
  taken_seen (hand_in r) = refl
  taken_seen (take_at clock capacity) =
      check_cases (verdict (take_checks x)) (λ e. rw (e, judged_number d x _ (take_passed x e).0)) (λ n e. rw (e, refused_number x n e))
  taken_seen (direct q) = refl

  pub resets_seen : (i : Input) → resets i (transition d x i) ≡ clearing d x i
  unfolding taken judged clears
  resets_seen (hand_in r) = refl
  resets_seen (take_at clock capacity) = check_cases (verdict (take_checks x)) (λ e. rw e) (λ n e. rw (e, not_zero (take_checks x) n refl e))
  resets_seen (direct q) = check_cases (verdict (direct_checks x)) (λ e. rw e) (λ n e. rw (e, not_zero (direct_checks x) n refl e))

-- ---- a run

module _ {A : Type 0} (d : Defaults) (f : Input → Transition → List A) (out : Terminal → Input → List A)
    (each : (x : Terminal) (i : Input) → f i (transition d x i) ≡ out x i) where
  pub gathered_is : (x : Terminal) (is : List Input) → gathered f is (replies (transition d) (next d) x is) ≡ collected (next d) out x is
  gathered_is x [] = refl
  gathered_is x (i ∷ is) = rw (each x i, gathered_is (next d x i) is)
