-- A run that is not cut writes its plan and nothing else. Then the new image is the current one.
use Rattle.rows.proofs.Prelude.{◌≡◌, refl, sym, ap, ◌∙◌, true, false, List, [], ◌∷◌, ◌++◌, ℕ, zero, suc, ◌+◌, ◌-◌, ◌%◌, ◌≤◌, ◌<◌, arith}
use Rattle.rows.proofs.Prelude.{length, get_or, set, length-set, length-append, eqb, ne_eqb, lt-ltb, le-ltb, bool_cases, eqb-true, eqb-false, or_true_right}
use Rattle.rows.proofs.Kept.{same_refl}
use lib.Seq.{set-append_seam, get_or-append_seam, append_snoc, get_or-set_other}
use Rattle.rules_store.specs.declared.Step.{Step}
use Rattle.rules_store.specs.declared.Step.TheVariants.{Write, Done}
use Rattle.rules_store.specs.Store.{size_for, counter, current, spare, spare_at, mark_at, raised, raise, to_copy, write_at, write, settled, next}
use Rattle.rules_store.specs.Run.{writes, written, differences}
use Rattle.rules_store.proofs.Parts.{spare_at_most, mark_after, same_marks, copied_marks, copied_address, copied_spare, marked_counter, marked_current}
use Rattle.rules_store.proofs.Mismatch.{copy_here, copy_same}
use Rattle.rules_store.proofs.Steps.{is_write, is_done}

pub no_more : (k : ℕ) (store new : List ℕ) (from : ℕ) → next store new from ≡ Done → writes k store new from ≡ []
unfolding writes
no_more zero store new from e = refl
no_more (suc k) store new from e = rw e

module _ (new : List ℕ) where
  abbrev pub n : ℕ
  n = length new

  -- the first bytes of the spare image are those of the new one, and the search begins among them or right after them
  pub record Copying (store : List ℕ) (from : ℕ) (done old rest : List ℕ) : Type 0 where
    pub size : length store ≡ size_for n
    pub busy : settled store new from ≡ false
    pub reached : from - spare_at n store ≤ length done
    pub half : spare n store ≡ done ++ old
    pub whole : new ≡ done ++ rest

  -- how the run ends, if these are its writes
  pub record Ends (k : ℕ) (store : List ℕ) (from : ℕ) (steps : List Step) : Type 0 where
    pub exact : writes k store new from ≡ steps
    pub current_new : current n (written steps store) ≡ new
    pub counted : counter n (written steps store) ≡ (counter n store + 1) % 256
    pub finished : next (written steps store) new (mark_at n store + 1) ≡ Done

  -- ---- the last write

  module _ (k : ℕ) (store : List ℕ) (from : ℕ) (done : List ℕ) (c : Copying store from done [] []) where
    raises : next store new from ≡ raise n store
    unfolding write write_at
    raises =
        let start = from - spare_at n store in
        let e : spare n store ≡ new = c.half ∙ sym c.whole in
        is_write store new from c.size c.busy ∙ rw e (rw (le-ltb (to_copy start new new) n (copy_same new start)))

    abbrev marked : List ℕ
    marked = set store (mark_at n store) (raised (get_or store (mark_at n store) 0))

    marked_new : current n marked ≡ new
    marked_new = marked_current n store c.size ∙ c.half ∙ sym c.whole

    marked_done : next marked new (mark_at n store + 1) ≡ Done
    unfolding settled
    marked_done =
        let b = lt-ltb (n + n) (mark_at n store + 1) (omega (arith, mark_after n store)) in
        is_done marked new (mark_at n store + 1) (length-set store (mark_at n store) _ ∙ c.size)
        (rw (b, or_true_right (eqb (mark_at n store + 1) 0) true refl, marked_new) (same_refl new))

    last : Ends (suc k) store from (raise n store ∷ [])
    unfolding writes written raise
    last = record {
      exact = rw (raises) (ap (λ (l : List Step). raise n store ∷ l) (no_more k marked new (mark_at n store + 1) marked_done));
      current_new = marked_new;
      counted = marked_counter n store c.size;
      finished = marked_done;
    }

  -- ---- a byte that differs

  module _ (store : List ℕ) (from : ℕ) (done : List ℕ) (x : ℕ) (old : List ℕ) (y : ℕ) (rest : List ℕ) (c : Copying store from done (x ∷ old) (y ∷ rest)) where
    abbrev at : ℕ
    at = spare_at n store + length done

    inside : length done < n
    inside = omega (arith, ap length c.whole ∙ length-append done (y ∷ rest))

    copies : (x ≡ y → ⊥) → next store new from ≡ Write at y
    unfolding write write_at
    copies d =
        let start = from - spare_at n store in
        let e : to_copy start (spare n store) new ≡ length done =
        rw c.half (ap (to_copy start (done ++ x ∷ old)) c.whole ∙ copy_here done x y old rest start c.reached d) in
        let b : get_or new (length done) 0 ≡ y = ap (λ (l : List ℕ). get_or l (length done) 0) c.whole ∙ get_or-append_seam done y rest 0 in
        is_write store new from c.size c.busy ∙ rw (e, lt-ltb (length done) n inside, b)

    abbrev copied : List ℕ
    copied = set store at y

    -- one byte more agrees
    on : Copying copied (at + 1) (done ++ (y ∷ [])) old rest
    unfolding settled
    on = record {
      size = length-set store at y ∙ c.size;
      busy = rw (ne_eqb (at + 1) 0 (omega arith), le-ltb (n + n) (at + 1) (omega (arith, spare_at_most n store, inside)));
      reached = rw (copied_address n store (length done) inside y, length-append) (omega arith);
      half = copied_spare n store (length done) inside y ∙ rw c.half (set-append_seam done x old y ∙ sym (append_snoc done y old));
      whole = c.whole ∙ sym (append_snoc done y rest);
    }

    -- the same mark is raised at the end
    same_counter : counter n copied ≡ counter n store
    same_counter = same_marks n store copied (copied_marks n store (length done) inside y)

    same_mark : mark_at n copied ≡ mark_at n store
    unfolding mark_at
    same_mark = rw same_counter

    same_raise : raise n copied ≡ raise n store
    unfolding raise
    same_raise =
        let b : get_or copied (mark_at n store) 0 ≡ get_or store (mark_at n store) 0
        = get_or-set_other store at (mark_at n store) y 0 (λ e. absurd (omega (arith, e, mark_after n store, spare_at_most n store, inside))) in
        rw (same_mark, b)

    more : (k : ℕ) (steps : List Step) → (x ≡ y → ⊥) → Ends k copied (at + 1) steps → Ends (suc k) store from (Write at y ∷ steps)
    unfolding writes written
    more k steps d e = record {
      exact = rw (copies d) (ap (λ (l : List Step). Write at y ∷ l) e.exact);
      current_new = e.current_new;
      counted = rw (← same_counter) e.counted;
      finished = rw (← same_mark) e.finished;
    }

  -- ---- from any such state to the end

  -- a byte that agrees
  over : (store : List ℕ) (from : ℕ) (done : List ℕ) (x : ℕ) (old : List ℕ) (y : ℕ) (rest : List ℕ) → x ≡ y
      → Copying store from done (x ∷ old) (y ∷ rest) → Copying store from (done ++ (y ∷ [])) old rest
  over store from done x old y rest e c = record {
    size = c.size;
    busy = c.busy;
    reached = rw length-append (omega (arith, c.reached));
    half = c.half ∙ rw e (sym (append_snoc done y old));
    whole = c.whole ∙ sym (append_snoc done y rest);
  }

  pub ending : (k : ℕ) (store : List ℕ) (from : ℕ) (done old rest : List ℕ) → Copying store from done old rest → length old ≡ length rest → length rest < k
      → Ends k store from (differences (spare_at n store + length done) old rest ++ (raise n store ∷ []))
  unfolding differences
  ending zero store from done old rest c l h = absurd (omega arith)
  ending (suc k) store from done [] [] c l h = last k store from done c
  ending (suc k) store from done [] (y ∷ rest) c l h = absurd (omega arith)
  ending (suc k) store from done (x ∷ old) [] c l h = absurd (omega arith)
  ending (suc k) store from done (x ∷ old) (y ∷ rest) c l h =
      let at = spare_at n store + length done in
      let more-done = done ++ (y ∷ []) in
      let s : spare_at n store + length more-done ≡ suc at = rw length-append (omega arith) in
      bool_cases (eqb x y)
      (λ q.
      let c' = over store from done x old y rest (eqb-true x y q) c in
      rw (q, ← s) (ending (suc k) store from more-done old rest c' (omega arith) (omega arith)))
      (λ q.
      let p = copied_address n store (length done) (inside store from done x old y rest c) y in
      let m = same_raise store from done x old y rest c in
      let ih = ending k (set store at y) (at + 1) more-done old rest (on store from done x old y rest c) (omega arith) (omega arith) in
      rw q (more store from done x old y rest c k _ (eqb-false x y q) (rw (p, m, s) at ih)))
