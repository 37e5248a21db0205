-- What a write does to the parts of a store: an image that is torn, a byte copied to the spare image, a mark raised.
use Rattle.rows.proofs.Prelude.{◌≡◌, sym, ap, ◌∙◌, Bool, true, false, cond, not, List, [], ◌∷◌, ℕ, zero, suc, ◌+◌, ◌-◌, ◌%◌, ◌≤◌, ◌<◌, arith}
use Rattle.rows.proofs.Prelude.{length, take, drop, get_or, set, length-take, length-drop, length-set, get_or-drop, get_or-take, bool_cases, eqb, eq-eqb, ne_eqb}
use Rattle.rows.proofs.Prelude.{eqb-true, eqb-false}
use mathlib.Core.Logic.{◌⊎◌, inl, inr, ⊎_elim}
use lib.Seq.{drop-set-add, drop-set-lt, take-set-le, take-set-lt}
use Rattle.rules_store.specs.Cuts.{Torn}
use Rattle.rules_store.specs.Store.{size_for, image_at, marks, sum, counter, even_counter, current_at, spare_at, current, spare, mark_at, raised}

-- ---- an image after one byte was written

module _ (n at : ℕ) (s : List ℕ) (v : ℕ) where
  byte_before : (i : ℕ) → i < at → image_at n at (set s i v) ≡ image_at n at s
  unfolding image_at
  byte_before i h = ap (take n) (drop-set-lt at s i v h)

  byte_after : (i : ℕ) → at + n ≤ i → image_at n at (set s i v) ≡ image_at n at s
  unfolding image_at
  byte_after i h =
      let e : i ≡ at + (i - at) = omega arith in
      rw e (ap (take n) (drop-set-add at s (i - at) v) ∙ take-set-le n (drop at s) (i - at) v (omega arith))

  byte_in_lem : (p : ℕ) → p < n → image_at n at (set s (at + p) v) ≡ set (image_at n at s) p v
  unfolding image_at
  byte_in_lem p h = ap (take n) (drop-set-add at s p v) ∙ take-set-lt n (drop at s) p v h

-- a byte with any value is a torn write
pub torn_byte : (n at : ℕ) (s : List ℕ) (v : ℕ) → Torn n at s (set s at v)
unfolding marks
torn_byte n at s v = record {
  size = length-set s at v;
  first = λ h. byte_after n 0 s v at (omega arith);
  second = λ w. ⊎_elim (λ h. byte_before n n s v at h) (λ h. byte_after n n s v at h) w;
  last = λ h. drop-set-lt (n + n) s at v (omega arith);
}

-- ---- where the spare image and the mark are

module _ (n : ℕ) (s : List ℕ) where
  pub spare_at_most : spare_at n s ≤ n
  unfolding spare_at
  spare_at_most = bool_cases (even_counter n s) (λ e. rw e (omega arith)) (λ e. rw e (omega arith))

  pub length_spare : length s ≡ size_for n → length (spare n s) ≡ n
  unfolding spare image_at
  length_spare f = simp (length-take, length-drop) (omega (arith, spare_at_most))

  pub length_current : length s ≡ size_for n → length (current n s) ≡ n
  unfolding current current_at image_at
  length_current f = bool_cases (even_counter n s)
      (λ e. rw e (simp (length-take, length-drop) (omega arith))) (λ e. rw e (simp (length-take, length-drop) (omega arith)))

  pub spare_byte : (p : ℕ) → p < n → get_or (spare n s) p 0 ≡ get_or s (spare_at n s + p) 0
  unfolding spare image_at
  spare_byte p h = get_or-take n (drop (spare_at n s) s) p 0 h ∙ get_or-drop (spare_at n s) s p 0

  pub mark_after : n + n ≤ mark_at n s
  unfolding mark_at
  mark_after = omega arith

  pub mark_before_end : mark_at n s < size_for n
  unfolding mark_at
  mark_before_end = omega arith

-- ---- writes to the spare image

pub same_marks : (n : ℕ) (s t : List ℕ) → marks n t ≡ marks n s → counter n t ≡ counter n s
unfolding counter
same_marks n s t e = rw e

pub even_kept : (n : ℕ) (s t : List ℕ) → marks n t ≡ marks n s → even_counter n t ≡ even_counter n s
unfolding even_counter
even_kept n s t e = rw (same_marks n s t e)

module _ (n : ℕ) (s : List ℕ) (p : ℕ) (h : p < n) where
  in_images : spare_at n s + p < n + n
  in_images = omega (arith, spare_at_most n s)

  pub torn_spare : (t : List ℕ) → Torn n (spare_at n s + p) s t → current n t ≡ current n s
  unfolding current current_at spare_at
  torn_spare t w = rw (even_kept n s t (w.last in_images)) (go (even_counter n s) w)
    where
      go : (b : Bool) → Torn n (cond b n 0 + p) s t → image_at n (cond b 0 n) t ≡ image_at n (cond b 0 n) s
      go true w = w.first (omega arith)
      go false w = w.second (inl (omega arith))

  abbrev copied : ℕ → List ℕ
  copied v = set s (spare_at n s + p) v

  pub copied_marks : (v : ℕ) → marks n (copied v) ≡ marks n s
  copied_marks v = (torn_byte n (spare_at n s + p) s v).last in_images

  pub copied_address : (v : ℕ) → spare_at n (copied v) ≡ spare_at n s
  unfolding spare_at
  copied_address v = ap (λ (b : Bool). cond b n 0) (even_kept n s (copied v) (copied_marks v))

  pub copied_spare : (v : ℕ) → spare n (copied v) ≡ set (spare n s) p v
  unfolding spare
  copied_spare v = ap (λ (at : ℕ). image_at n at (copied v)) (copied_address v) ∙ byte_in_lem n (spare_at n s) s v p h

-- ---- a mark

sum_set : (l : List ℕ) (j v : ℕ) → j < length l → sum (set l j v) + get_or l j 0 ≡ sum l + v
unfolding sum
sum_set [] j v h = omega arith
sum_set (x ∷ l) zero v h = omega arith
sum_set (x ∷ l) (suc j) v h = let e = sum_set l j v (omega arith) in omega arith

parity : (c : ℕ) → eqb ((c + 1) % 256 % 2) 0 ≡ not (eqb (c % 2) 0)
parity c = bool_cases (eqb (c % 2) 0)
    (λ e. rw e (ne_eqb ((c + 1) % 256 % 2) 0 (omega (arith, eqb-true (c % 2) 0 e))))
    (λ e. rw e (eq-eqb ((c + 1) % 256 % 2) 0 (omega (arith, eqb-false (c % 2) 0 e))))

module _ (n : ℕ) (s : List ℕ) where
  -- either image may be current once a mark is torn
  pub torn_mark : (t : List ℕ) → Torn n (mark_at n s) s t → (current n t ≡ current n s) ⊎ (current n t ≡ spare n s)
  unfolding current spare current_at spare_at
  torn_mark t w = go (even_counter n s) (even_counter n t)
    where
      go : (b c : Bool) → (image_at n (cond c 0 n) t ≡ image_at n (cond b 0 n) s) ⊎ (image_at n (cond c 0 n) t ≡ image_at n (cond b n 0) s)
      go true true = inl (w.first (omega (arith, mark_after n s)))
      go true false = inr (w.second (inr (mark_after n s)))
      go false true = inr (w.first (omega (arith, mark_after n s)))
      go false false = inl (w.second (inr (mark_after n s)))

  abbrev marked : List ℕ
  marked = set s (mark_at n s) (raised (get_or s (mark_at n s) 0))

  module _ (f : length s ≡ size_for n) where
    pub marked_counter : counter n marked ≡ (counter n s + 1) % 256
    unfolding counter marks raised
    marked_counter =
        let j = mark_at n s - (n + n) in
        let v = raised (get_or s (mark_at n s) 0) in
        let at : mark_at n s ≡ n + n + j = omega (arith, mark_after n s) in
        let e : marks n marked ≡ set (marks n s) j v = ap (λ (i : ℕ). drop (n + n) (set s i v)) at ∙ drop-set-add (n + n) s j v in
        let g : get_or (marks n s) j 0 ≡ get_or s (mark_at n s) 0 = get_or-drop (n + n) s j 0 ∙ ap (λ (i : ℕ). get_or s i 0) (sym at) in
        let l : length (marks n s) ≡ length s - (n + n) = length-drop (n + n) s in
        let q = sum_set (marks n s) j v (omega (arith, mark_before_end n s)) in
        rw e (omega arith)

    pub marked_current : current n marked ≡ spare n s
    unfolding current spare current_at spare_at even_counter
    marked_current = rw (marked_counter, parity (counter n s)) (go (even_counter n s))
      where
        w : Torn n (mark_at n s) s marked
        w = torn_byte n (mark_at n s) s (raised (get_or s (mark_at n s) 0))

        go : (b : Bool) → image_at n (cond (not b) 0 n) marked ≡ image_at n (cond b n 0) s
        go true = w.second (inr (mark_after n s))
        go false = w.first (omega (arith, mark_after n s))

  pub mark_changes : get_or s (mark_at n s) 0 ≡ raised (get_or s (mark_at n s) 0) → ⊥
  unfolding raised
  mark_changes e = omega arith
