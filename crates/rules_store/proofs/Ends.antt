-- A run from the start: it writes its plan, byte after byte in rising order, and then the new image is the current one.
use Rattle.rows.proofs.Prelude.{◌≡◌, refl, ap, true, false, List, [], ◌∷◌, ◌++◌, ℕ, suc, ◌+◌, ◌%◌, ◌≤◌, ◌<◌, arith}
use Rattle.rows.proofs.Prelude.{length, get_or, length-append, eqb, le-leb, bool_cases, cond_cases}
use Rattle.rows.proofs.Kept.{same_true, same_refl}
use Rattle.rows.specs.Rows.{same}
use Rattle.rules_store.specs.declared.Step.{Step}
use Rattle.rules_store.specs.declared.Step.TheVariants.{Write, Done}
use Rattle.rules_store.specs.Store.{mark_count, size_for, counter, current, spare, spare_at, mark_at, raised, raise, settled, next}
use Rattle.rules_store.specs.Run.{writes, written, position, stored, differences, plan, differing, rising}
use Rattle.rules_store.proofs.Parts.{spare_at_most, length_spare, mark_after}
use Rattle.rules_store.proofs.Steps.{is_done}
use Rattle.rules_store.proofs.Run.{no_more, Ends, ending}

-- ---- the plan

position_last : (from : ℕ) (at byte : ℕ) (a : ℕ) (old new : List ℕ) → position from (differences a old new ++ (Write at byte ∷ [])) ≡ at + 1
unfolding position differences
position_last from at byte a [] new = refl
position_last from at byte a (x ∷ old) [] = refl
position_last from at byte a (x ∷ old) (y ∷ new) =
    bool_cases (eqb x y) (λ q. rw q (position_last from at byte (suc a) old new)) (λ q. rw q (position_last (a + 1) at byte (suc a) old new))

rising_last : (from at byte a : ℕ) (old new : List ℕ) → from ≤ a → a + length new ≤ at → rising from (differences a old new ++ (Write at byte ∷ [])) ≡ true
unfolding rising differences
rising_last from at byte a [] new h l = rw (le-leb from at (omega arith))
rising_last from at byte a (x ∷ old) [] h l = rw (le-leb from at (omega arith))
rising_last from at byte a (x ∷ old) (y ∷ new) h l =
    bool_cases (eqb x y)
    (λ q. rw q (rising_last from at byte (suc a) old new (omega arith) (omega arith)))
    (λ q. rw (q, le-leb from a h) (rising_last (suc a) at byte (suc a) old new (omega arith) (omega arith)))

length_differences : (a : ℕ) (old new : List ℕ) → length (differences a old new) ≡ differing old new
unfolding differences differing
length_differences a [] new = refl
length_differences a (x ∷ old) [] = refl
length_differences a (x ∷ old) (y ∷ new) =
    bool_cases (eqb x y) (λ q. rw q (length_differences (suc a) old new)) (λ q. rw q (ap suc (length_differences (suc a) old new)))

pub differing_most : (old new : List ℕ) → differing old new ≤ length new
unfolding differing
differing_most [] new = omega arith
differing_most (x ∷ old) [] = omega arith
differing_most (x ∷ old) (y ∷ new) =
    let h = differing_most old new in
    cond_cases (λ (d : ℕ). d ≤ suc (length new)) (eqb x y) (λ _. omega arith) (λ _. omega arith)

-- ---- the image is the current one already

module _ (store new : List ℕ) (f : length store ≡ size_for (length new)) where
  abbrev n : ℕ
  n = length new

  abbrev old : List ℕ
  old = current n store

  pub nothing : current (length new) store ≡ new → next store new 0 ≡ Done
  unfolding settled
  nothing e = is_done store new 0 f (rw e (same_refl new))

  -- ---- it is not

  abbrev differs : List Step
  differs = differences (spare_at n store) (spare n store) new ++ (raise n store ∷ [])

  ends_so : (k : ℕ) → n < k → same old new ≡ false → Ends new k store 0 differs
  unfolding settled
  ends_so k h q =
      let z : spare_at n store + 0 ≡ spare_at n store = omega arith in
      rw (← z) (ending new k store 0 [] (spare n store) new
      (record { size = f; busy = q; reached = omega arith; half = refl; whole = refl }) (length_spare n store f) h)

  -- ---- so

  -- the program writes its plan, however often it asks
  pub exact : (k : ℕ) → length new < k → writes k store new 0 ≡ plan store new
  unfolding plan
  exact k h = bool_cases (same old new)
      (λ q. rw q (no_more k store new 0 (nothing (same_true old new q))))
      (λ q. rw q (ends_so k h q).exact)

  stored_is : stored new store ≡ written (plan store new) store
  unfolding stored
  stored_is = rw (exact (suc n) (omega arith))

  -- then it is done, and the new image is the current one
  pub ends : next (stored new store) new (position 0 (plan store new)) ≡ Done
  unfolding plan written position raise
  ends = rw stored_is (bool_cases (same old new)
      (λ q. rw q (nothing (same_true old new q)))
      (λ q. rw (q, position_last 0 (mark_at n store) (raised (get_or store (mark_at n store) 0)) (spare_at n store) (spare n store) new)
      (ends_so (suc n) (omega arith) q).finished))

  pub stored_current : current (length new) (stored new store) ≡ new
  unfolding plan written
  stored_current = rw stored_is (bool_cases (same old new)
      (λ q. rw q (same_true old new q)) (λ q. rw q (ends_so (suc n) (omega arith) q).current_new))

  -- each write lies after the one before it
  pub rises : rising 0 (plan store new) ≡ true
  unfolding plan rising raise
  rises = bool_cases (same old new) (λ q. rw q)
      (λ q. rw q (rising_last 0 (mark_at n store) (raised (get_or store (mark_at n store) 0)) (spare_at n store) (spare n store) new (omega arith)
      (omega (arith, spare_at_most n store, mark_after n store))))

  module _ (d : current (length new) store ≡ new → ⊥) where
    unequal : same old new ≡ false
    unequal = bool_cases (same old new) (λ q. absurd (d (same_true old new q))) (λ q. q)

    -- a write for each byte in which the spare image differs, and one
    pub number : length (plan store new) ≡ suc (differing (spare (length new) store) new)
    unfolding plan
    number = rw (unequal, length-append, length_differences (spare_at n store) (spare n store) new) (omega arith)

    -- one mark is raised, and the next time the next one
    pub counted : counter (length new) (stored new store) ≡ (counter (length new) store + 1) % 256
    unfolding plan
    counted = rw (stored_is, unequal) (ends_so (suc n) (omega arith) unequal).counted

    pub turns : mark_at (length new) (stored new store) ≡ length new + length new + (counter (length new) store + 1) % mark_count
    unfolding mark_at
    turns = rw counted (omega arith)
