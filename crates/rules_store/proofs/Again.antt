-- Whatever happened to a store: the current image is the one written last, or one whose attempt was cut since.
use Rattle.rows.proofs.Prelude.{◌≡◌, refl, ◌∙◌, true, List, [], ◌∷◌, ℕ, arith, length, or_true_right}
use mathlib.Core.Logic.{⊎_elim}
use Rattle.rows.specs.Rows.{same, some}
use Rattle.rows.proofs.Kept.{same_refl}
use Rattle.rules_store.specs.declared.Step.TheVariants.{Done}
use Rattle.rules_store.specs.Store.{size_for, current, next}
use Rattle.rules_store.specs.Run.{stored}
use Rattle.rules_store.specs.Cuts.{Attempt, stops, tries, History, begins, done, cut, Found}
use Rattle.rules_store.proofs.Safe.{safe, safe_size}
use Rattle.rules_store.proofs.Steps.{write_fit, done_fit, done_current}
use Rattle.rules_store.proofs.Ends.{stored_current}

first_of : (image new : List ℕ) (images : List (List ℕ)) → image ≡ new → some (same image) (new ∷ images) ≡ true
unfolding some
first_of image new images e = rw (e, same_refl new)

later_of : (image new : List ℕ) (images : List (List ℕ)) → some (same image) images ≡ true → some (same image) (new ∷ images) ≡ true
unfolding some
later_of image new images h = or_true_right (same image new) (some (same image) images) h

on_done : (n : ℕ) (store new : List ℕ) (from : ℕ) → length store ≡ size_for n → next store new from ≡ Done → Found n store (new ∷ [])
on_done n store new from f e =
    let l : length new ≡ n = omega (arith, done_fit store new from e) in
    record { size = f; among = first_of (current n store) new [] (rw (← l) (done_current store new from e)) }

on_cut : (n : ℕ) (store : List ℕ) (images : List (List ℕ)) → Found n store images → (new after : List ℕ) → Attempt new store after
    → Found n after (new ∷ images)
on_cut n store images a new after stops = record { size = a.size; among = later_of (current n store) new images a.among }
on_cut n store images a new after (tries from at byte e w rest) =
    let all : Attempt new store after = tries from at byte e w rest in
    let l : length new ≡ n = omega (arith, a.size, write_fit store new from at byte e) in
    record {
      size = safe_size new store after all ∙ a.size;
      among = ⊎_elim
          (λ k. later_of (current n after) new images (rw (rw l at k) a.among))
          (λ k. first_of (current n after) new images (rw l at k))
          (safe new store after all);
    }

pub again : (n : ℕ) (store : List ℕ) (images : List (List ℕ)) → History n store images → Found n store images
again n store images (begins s f) = record { size = f; among = first_of (current n s) (current n s) [] refl }
again n store images (done {store = s} {after = t} {images = is} h new w from e) =
    on_done n t new from (safe_size new s t w ∙ (again n s is h).size) e
again n store images (cut {store = s} {after = t} {images = is} h new w) = on_cut n s is (again n s is h) new t w

-- whatever happened before, an image that is stored to the end is then the current one
pub again_stored : (n : ℕ) (store : List ℕ) (images : List (List ℕ)) → History n store images → (new : List ℕ) → length new ≡ n
    → current n (stored new store) ≡ new
again_stored n store images h new l =
    let f : length store ≡ size_for (length new) = omega (arith, (again n store images h).size) in
    rw (← l) (stored_current store new f)
