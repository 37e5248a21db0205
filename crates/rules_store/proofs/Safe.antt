-- Whatever an attempt leaves: the current image is the one from before, or the new one.
use Rattle.rows.proofs.Prelude.{◌≡◌, refl, ◌∙◌, List, [], ◌∷◌, ℕ, zero, suc, ◌+◌, ◌<◌, arith, length, set}
use mathlib.Core.Logic.{inl, inr, ⊎_elim}
use Rattle.rules_store.specs.declared.Step.{Step}
use Rattle.rules_store.specs.declared.Step.TheVariants.{Write, Done, Unfit}
use Rattle.rules_store.specs.Store.{current, spare_at, mark_at, raise, next}
use Rattle.rules_store.specs.Run.{Justified, copies, raises, rests, if_write, writes, written}
use Rattle.rules_store.specs.Cuts.{Torn, Attempt, stops, tries, OldOrNew}
use Rattle.rules_store.proofs.Parts.{torn_byte, mark_after, torn_spare, torn_mark}
use Rattle.rules_store.proofs.Steps.{justified, write_fit}

-- ---- one write

justified_safe : (new store after : List ℕ) (at byte : ℕ) (s : Step) → Justified store new s → s ≡ Write at byte → Torn (length new) at store after
    → OldOrNew new store after
unfolding raise
justified_safe new store after at byte s (copies p h d) e w =
    let q : spare_at (length new) store + p ≡ at = cc in
    inl (torn_spare (length new) store p h after (rw q w))
justified_safe new store after at byte s (raises g) e w =
    let q : mark_at (length new) store ≡ at = cc in
    ⊎_elim (λ k. inl k) (λ k. inr (k ∙ g)) (torn_mark (length new) store after (rw q w))
justified_safe new store after at byte s (rests g) e w = let z : ◌≡◌ {A = ℕ} 0 1 = cc in absurd (omega arith)

justified_held : (new store after : List ℕ) (at byte : ℕ) (s : Step) → Justified store new s → s ≡ Write at byte → at < length new + length new
    → Torn (length new) at store after → current (length new) after ≡ current (length new) store
unfolding raise
justified_held new store after at byte s (copies p h d) e l w =
    let q : spare_at (length new) store + p ≡ at = cc in
    torn_spare (length new) store p h after (rw q w)
justified_held new store after at byte s (raises g) e l w =
    let q : mark_at (length new) store ≡ at = cc in
    absurd (omega (arith, mark_after (length new) store))
justified_held new store after at byte s (rests g) e l w = let z : ◌≡◌ {A = ℕ} 0 1 = cc in absurd (omega arith)

-- a write before the marks, torn or not, leaves the image from before
pub held : (new store after : List ℕ) (from at byte : ℕ) → next store new from ≡ Write at byte → at < length new + length new
    → Torn (length new) at store after → current (length new) after ≡ current (length new) store
held new store after from at byte e =
    justified_held new store after at byte (next store new from) (justified store new from (write_fit store new from at byte e)) e

-- ---- an attempt

pub safe : (new store end : List ℕ) → Attempt new store end → OldOrNew new store end
safe new store end stops = inl refl
safe new store end (tries {after = after} from at byte e w rest) =
    let one : OldOrNew new store after =
    justified_safe new store after at byte (next store new from) (justified store new from (write_fit store new from at byte e)) e w in
    ⊎_elim (λ k. ⊎_elim (λ j. inl (k ∙ j)) (λ j. inr (k ∙ j)) one) (λ k. inr k) (safe new after end rest)

pub safe_size : (new store end : List ℕ) → Attempt new store end → length end ≡ length store
safe_size new store end stops = refl
safe_size new store end (tries {after = after} from at byte e w rest) = safe_size new after end rest ∙ w.size

-- ---- a run is an attempt, however many of its writes were made

run_step : (new store : List ℕ) (from k : ℕ) → ((t : List ℕ) (at : ℕ) → Attempt new t (written (writes k t new at) t))
    → (s : Step) → next store new from ≡ s
    → Attempt new store (written (if_write (λ at byte. Write at byte ∷ writes k (set store at byte) new (at + 1)) [] s) store)
unfolding written
run_step new store from k rest (Write at byte) e = tries from at byte e (torn_byte (length new) at store byte) (rest (set store at byte) (at + 1))
run_step new store from k rest Done e = stops
run_step new store from k rest Unfit e = stops

pub run_attempt : (k : ℕ) (new store : List ℕ) (from : ℕ) → Attempt new store (written (writes k store new from) store)
unfolding writes written
run_attempt zero new store from = stops
run_attempt (suc k) new store from = run_step new store from k (λ t at. run_attempt k new t at) (next store new from) refl

joined : (new store middle end : List ℕ) → Attempt new store middle → Attempt new middle end → Attempt new store end
joined new store middle end stops rest = rest
joined new store middle end (tries {after = after} from at byte e w more) rest = tries from at byte e w (joined new after middle end more rest)

-- and then the power is cut in a write
pub cut_attempt : (k : ℕ) (new store after : List ℕ) (from at byte : ℕ) → next (written (writes k store new 0) store) new from ≡ Write at byte
    → Torn (length new) at (written (writes k store new 0) store) after → Attempt new store after
cut_attempt k new store after from at byte e w =
    joined new store (written (writes k store new 0) store) after (run_attempt k new store 0) (tries from at byte e w stops)
