-- Each step is justified, whatever position is asked for; a write changes its byte.
use Rattle.rows.proofs.Prelude.{◌≡◌, ◌∙◌, true, false, cond, ◌||◌, List, ℕ, ◌+◌, ◌-◌, arith}
use Rattle.rows.proofs.Prelude.{length, get_or, eqb, ltb, eq-eqb, ne_eqb, eqb-true, eqb-false, ltb-true, ltb-false, bool_cases, and_right}
use Rattle.rows.proofs.Kept.{same_true}
use Rattle.rules_store.specs.declared.Step.{Step}
use Rattle.rules_store.specs.declared.Step.TheVariants.{Write, Done, Unfit}
use Rattle.rules_store.specs.Store.{size_for, current, spare, spare_at, mark_at, raised, raise, to_copy, write_at, write, fits, settled, next}
use Rattle.rules_store.specs.Run.{Justified, copies, raises, rests, Changes}
use Rattle.rules_store.proofs.Parts.{length_spare, spare_at_most, spare_byte, mark_before_end, mark_changes}
use Rattle.rules_store.proofs.Mismatch.{copy_differs, copy_none}

-- ---- the length of the store

pub unfit : (store new : List ℕ) (from : ℕ) → (length store ≡ size_for (length new) → ⊥) → next store new from ≡ Unfit
unfolding next fits
unfit store new from f = rw (ne_eqb (length store) (size_for (length new)) f)

pub fit_of : (store new : List ℕ) (from : ℕ) → (next store new from ≡ Unfit → ⊥) → length store ≡ size_for (length new)
fit_of store new from u =
    bool_cases (eqb (length store) (size_for (length new)))
    (λ q. eqb-true (length store) (size_for (length new)) q)
    (λ q. absurd (u (unfit store new from (eqb-false (length store) (size_for (length new)) q))))

pub write_fit : (store new : List ℕ) (from at byte : ℕ) → next store new from ≡ Write at byte → length store ≡ size_for (length new)
write_fit store new from at byte e = fit_of store new from (λ u. let z : ◌≡◌ {A = ℕ} 0 1 = cc in absurd (omega arith))

pub done_fit : (store new : List ℕ) (from : ℕ) → next store new from ≡ Done → length store ≡ size_for (length new)
done_fit store new from e = fit_of store new from (λ u. let z : ◌≡◌ {A = ℕ} 0 1 = cc in absurd (omega arith))

-- ---- the step

module _ (store new : List ℕ) (from : ℕ) (f : length store ≡ size_for (length new)) where
  next_is : next store new from ≡ cond (settled store new from) Done (write store new from)
  unfolding next fits
  next_is = rw (eq-eqb (length store) (size_for (length new)) f)

  pub is_done : settled store new from ≡ true → next store new from ≡ Done
  is_done e = next_is ∙ rw e

  pub is_write : settled store new from ≡ false → next store new from ≡ write store new from
  is_write e = next_is ∙ rw e

  justified_write : Justified store new (write store new from)
  unfolding write write_at
  justified_write =
      let n = length new in
      let l : length (spare n store) ≡ length new = length_spare n store f in
      let start = from - spare_at n store in
      let p = to_copy start (spare n store) new in
      bool_cases (ltb p n)
      (λ q. rw q (copies p (ltb-true p n q) (copy_differs (spare n store) new l start (ltb-true p n q))))
      (λ q. rw q (raises (copy_none (spare n store) new l start (ltb-false p n q))))

  pub justified : Justified store new (next store new from)
  unfolding settled
  justified =
      rw next_is
      (bool_cases (settled store new from)
      (λ q. rw q (rests (same_true (current (length new) store) new (and_right (eqb from 0 || ltb (length new + length new) from) _ q))))
      (λ q. rw q justified_write))

-- ---- done

resting : (store new : List ℕ) → Justified store new Done → current (length new) store ≡ new
unfolding raise
resting store new (rests e) = e

-- Done is answered for only the current image
pub done_current : (store new : List ℕ) (from : ℕ) → next store new from ≡ Done → current (length new) store ≡ new
done_current store new from e = resting store new (rw e at (justified store new from (done_fit store new from e)))

-- ---- a write changes its byte

justified_changes : (store new : List ℕ) → length store ≡ size_for (length new)
    → (at byte : ℕ) (s : Step) → Justified store new s → s ≡ Write at byte → Changes store at byte
unfolding raise
justified_changes store new f at byte s (copies p h d) e =
    let q : spare_at (length new) store + p ≡ at = cc in
    let b : get_or new p 0 ≡ byte = cc in
    record {
      inside = omega (arith, spare_at_most (length new) store);
      other = rw (← q, ← b) (λ k. d (spare_byte (length new) store p h ∙ k));
    }
justified_changes store new f at byte s (raises g) e =
    let q : mark_at (length new) store ≡ at = cc in
    let b : raised (get_or store (mark_at (length new) store) 0) ≡ byte = cc in
    record {
      inside = omega (arith, mark_before_end (length new) store);
      other = rw (← q, ← b) (mark_changes (length new) store);
    }
justified_changes store new f at byte s (rests g) e = let z : ◌≡◌ {A = ℕ} 0 1 = cc in absurd (omega arith)

pub changes : (store new : List ℕ) (from at byte : ℕ) → next store new from ≡ Write at byte → Changes store at byte
changes store new from at byte e =
    let f = write_fit store new from at byte e in justified_changes store new f at byte (next store new from) (justified store new from f) e
