-- Theorems: what refusals leave. A refused hand-in, and a take with 1 or 27, change nothing;
-- any other refused take empties its seat and moves the round on, and no more.
use Rattle.rows.proofs.Prelude.{◌≡◌, refl, sym, ap, ap₂, ◌∙◌, Bool, true, false, ◌||◌, List, [], ◌∷◌, ℕ, suc, arith, length, drop, eqb, eq-eqb, eqb-true}
use Rattle.rows.proofs.Prelude.{not-false, bool_cases, contradiction, or_not_left, or_true_right}
use Rattle.rows.specs.Rows.{has_key, without}
use Rattle.rules.specs.declared.Tables.{Tables}
use Rattle.rules.specs.declared.Check.TheVariants.{Pass, Refuse}
use Rattle.rules.specs.Record.{Request, received}
use Rattle.rules.specs.Tables.{sound}
use Rattle.rules.specs.Defaults.{Defaults}
use Rattle.rules.specs.Permission.{permission}
use Rattle.rules.specs.Checks.{checks, verdict}
use Rattle.rules.specs.Outcome.{Outcome, outcome, outcome_at, response_to}
use Rattle.rules.specs.Run.{final}
use Rattle.rules.proofs.Answers.{passed}
use Rattle.rules.proofs.Refusals.{refusal_is}
use Rattle.rules_terminal.specs.Slots.{after_seat, waiting, queue_of}
use Rattle.rules_terminal.specs.Terminal.{Terminal, terminal, number_transition, sound_terminal, hand_in_checks, handed_in, take_checks, turn, due, take_of, taken}
use Rattle.rules_terminal.specs.Terminal.{direct_checks, judged}
use Rattle.rules_terminal.specs.Inputs.{Input, hand_in, take_at, direct, next, turns_at, turns, judged_at, all_judged, kept_at, all_kept, dropped_at, all_dropped}
use Rattle.rules.proofs.CheckLaws.{check_cases}
use Rattle.rules_terminal.proofs.Sound.{terminal_parts, take_passed}
use Rattle.rules_terminal.proofs.Stays.{never_clears, refused_after, unchanged_stays}

-- ---- hand-in

-- any answer but 0: nothing changes
pub refused_hand_in : (x : Terminal) (r : List ℕ) (n : ℕ) → (handed_in x r).response.answer ≡ suc n → handed_in x r ≡ number_transition (suc n) x
unfolding handed_in
refused_hand_in x r n a =
    check_cases (verdict (hand_in_checks x r)) (λ e. absurd (omega (arith, rw e at a))) (λ m e. rw e (ap (λ (k : ℕ). number_transition k x) (rw e at a)))

-- ---- take with 1 or 27

pub take_refused : (d : Defaults) (x : Terminal) (clock capacity n : ℕ) → verdict (take_checks x) ≡ Refuse n → taken d x clock capacity ≡ number_transition n x
unfolding taken
take_refused d x clock capacity n e = ap (take_of d x (received clock (due x) capacity)) e

-- a refusal's number is one of the list
abbrev pub among : ℕ → List (ℕ × Bool) → Bool
among n [] = false
among n (e ∷ es) = eqb e.0 n || among n es

pub refused_among : (es : List (ℕ × Bool)) (n : ℕ) → verdict es ≡ Refuse n → among n es ≡ true
unfolding verdict
refused_among [] n e = absurd (let z : ◌≡◌ {A = ℕ} 0 1 = cc in omega arith)
refused_among ((m, true) ∷ es) n e = let q : m ≡ n = cc in rw (eq-eqb m n q)
refused_among ((m, false) ∷ es) n e = or_true_right (eqb m n) _ (refused_among es n e)

-- a record judged on sound tables gets neither
pub no_such : (d : Defaults) (t : Tables) (q : Request) (n : ℕ) → sound t ≡ true → (eqb n 1 || eqb n 27) ≡ true → (response_to d t q).answer ≡ n → ⊥
unfolding outcome outcome_at verdict
no_such d t q n s m a =
    let p = permission q.clock t q.bytes in
    let es = drop 1 (checks t p q) in
    check_cases (verdict (checks t p q))
    (λ e. contradiction (ap (λ (k : ℕ). eqb k 1 || eqb k 27) (rw (e, response_to) at a) ∙ m) refl)
    (λ k e. let f = refused_among es k (rw (s, verdict) at e) in
    let is : k ≡ n = rw (e, response_to) at a in
    bool_cases (eqb n 1)
    (λ g. contradiction (ap (λ (j : ℕ). among j es) (sym (is ∙ eqb-true n 1 g)) ∙ f) refl)
    (λ g. contradiction (ap (λ (j : ℕ). among j es) (sym (is ∙ eqb-true n 27 (or_not_left (eqb n 1) _ m g))) ∙ f) refl))

-- a take that answers 1 or 27 gives out no record and changes nothing
pub take_nothing : (d : Defaults) (x : Terminal) (clock capacity n : ℕ) → (eqb n 1 || eqb n 27) ≡ true → (taken d x clock capacity).response.answer ≡ n
    → taken d x clock capacity ≡ number_transition n x
unfolding taken
take_nothing d x clock capacity n m a =
    let q = received clock (due x) capacity in
    check_cases (verdict (take_checks x))
    (λ e. absurd (no_such d x.tables q n (terminal_parts x (take_passed x e).0).tables m (rw e at a)))
    (λ k e. rw e (ap (λ (j : ℕ). number_transition j x) (rw e at a)))

pub take_unsound : (d : Defaults) (x : Terminal) (clock capacity : ℕ) → sound_terminal x ≡ false → taken d x clock capacity ≡ number_transition 1 x
unfolding verdict
take_unsound d x clock capacity e = take_refused d x clock capacity 1 (rw e)

pub take_empty : (d : Defaults) (x : Terminal) (clock capacity : ℕ) → sound_terminal x ≡ true → length (waiting x.queue) ≡ 0
    → taken d x clock capacity ≡ number_transition 27 x
unfolding verdict
take_empty d x clock capacity e z = take_refused d x clock capacity 27 (rw (e, z))

-- ---- any other refused take

-- a take on a sound terminal where a record waits
pub take_ready : (x : Terminal) → sound_terminal x ≡ true → eqb (length (waiting x.queue)) 0 ≡ false → verdict (take_checks x) ≡ Pass
unfolding verdict
take_ready x h n = rw (h, n)

-- it gives out the whole record with the refusal's number; the tables stay, the seat is emptied, and the round is after it
pub refused_take : (d : Defaults) (x : Terminal) (clock capacity n : ℕ) → sound_terminal x ≡ true → eqb (length (waiting x.queue)) 0 ≡ false
    → (taken d x clock capacity).response.answer ≡ suc n
    → taken d x clock capacity
    ≡ record {
      bytes = due x;
      response = (number_transition (suc n) x).response;
      terminal = terminal x.tables (queue_of (after_seat (turn x)) (without (has_key 0 (turn x)) (waiting x.queue)));
    }
unfolding taken
refused_take d x clock capacity n h w a =
    let q = received clock (due x) capacity in
    let b = rw (take_ready x h w) at a in
    rw (take_ready x h w)
    (ap₂ (λ (o : Outcome) (y : Terminal). record { bytes = due x; response = o.response; terminal = y })
    (refusal_is d x.tables q n b)
    (refused_after d x.tables q (after_seat (turn x)) (without (has_key 0 (turn x)) (waiting x.queue)) n b))

-- ---- a record that is judged directly

-- a refused one changes nothing
pub refused_direct : (d : Defaults) (x : Terminal) (q : Request) (n : ℕ) → (judged d x q).response.answer ≡ suc n → judged d x q ≡ number_transition (suc n) x
unfolding judged
refused_direct d x q n a =
    check_cases (verdict (direct_checks x))
    (λ e. let b = rw e at a in
    let o = refusal_is d x.tables q n b in
    let s = unchanged_stays d x q (not-false _ (passed (direct_checks x) e 1)) (ap (λ (y : Outcome). y.tables) o) (never_clears d x.tables q n b) in
    rw e (ap₂ (λ (y : Outcome) (z : Terminal). record { bytes = []; response = y.response; terminal = z }) o s))
    (λ k e. rw e (ap (λ (j : ℕ). number_transition j x) (rw e at a)))

-- ---- tables that are not sound

-- nothing is judged, taken, dropped or kept, and nothing changes
unsound_next : (d : Defaults) (x : Terminal) (i : Input) → sound_terminal x ≡ false
    → (judged_at d x i ≡ []) × (turns_at d x i ≡ []) × (dropped_at d x i ≡ []) × (kept_at d x i ≡ []) × (next d x i ≡ x)
unfolding handed_in taken judged verdict
unsound_next d x (hand_in r) e = rw (e, next) (refl, refl, refl, refl, refl)
unsound_next d x (take_at clock capacity) e = rw (e, next) (refl, refl, refl, refl, refl)
unsound_next d x (direct q) e = rw (e, next) (refl, refl, refl, refl, refl)

pub unsound_run : (d : Defaults) (x : Terminal) (is : List Input) → sound_terminal x ≡ false → (all_judged d x is ≡ []) × (final (next d) x is ≡ x)
unsound_run d x [] e = (refl, refl)
unsound_run d x (i ∷ is) e = let a = unsound_next d x i e in rw (a.0, a.4) (unsound_run d x is e)

pub unsound_moves : (d : Defaults) (x : Terminal) (is : List Input) → sound_terminal x ≡ false
    → (turns d x is ≡ []) × (all_dropped d x is ≡ []) × (all_kept d x is ≡ [])
unsound_moves d x [] e = (refl, refl, refl)
unsound_moves d x (i ∷ is) e = let a = unsound_next d x i e in rw (a.1, a.2, a.3, a.4) (unsound_moves d x is e)
