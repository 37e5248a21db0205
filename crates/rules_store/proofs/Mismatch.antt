-- The first place in which two images of one length differ.
use Rattle.rows.proofs.Prelude.{◌≡◌, refl, sym, ◌∙◌, Bool, List, [], ◌∷◌, ◌++◌, ℕ, ◌+◌, ◌-◌, ◌≤◌, ◌<◌, arith}
use Rattle.rows.proofs.Prelude.{length, drop, get_or, length-drop, length-append, get_or-drop, bool_cases, eqb, ltb, eq-eqb, ne_eqb, eqb-true, eqb-false}
use Rattle.rows.proofs.Prelude.{lt-ltb, ltb-true, ltb-false}
use lib.Seq.{drop-append-le}
use Rattle.rules_store.specs.Store.{mismatch, mismatch_from, to_copy}

-- ---- of any images

differs : (a b : List ℕ) → length a ≡ length b → mismatch a b < length b → get_or a (mismatch a b) 0 ≡ get_or b (mismatch a b) 0 → ⊥
unfolding mismatch
differs [] b l h e = omega arith
differs (x ∷ a) [] l h e = omega arith
differs (x ∷ a) (y ∷ b) l h e =
    bool_cases (eqb x y)
    (λ q. let k = rw q at h in differs a b (omega arith) (omega arith) (rw q at e))
    (λ q. eqb-false x y q (rw q at e))

same_all : (a b : List ℕ) → length a ≡ length b → length b ≤ mismatch a b → a ≡ b
unfolding mismatch
same_all [] [] l h = refl
same_all [] (y ∷ b) l h = absurd (omega arith)
same_all (x ∷ a) [] l h = absurd (omega arith)
same_all (x ∷ a) (y ∷ b) l h =
    bool_cases (eqb x y)
    (λ q. let k = rw q at h in cc (eqb-true x y q, same_all a b (omega arith) (omega arith)))
    (λ q. let k = rw q at h in absurd (omega arith))

module _ (a b : List ℕ) (l : length a ≡ length b) where
  differs_from : (from : ℕ) → mismatch_from from a b < length b → get_or a (mismatch_from from a b) 0 ≡ get_or b (mismatch_from from a b) 0 → ⊥
  unfolding mismatch_from
  differs_from from h e =
      let m = mismatch (drop from a) (drop from b) in
      differs (drop from a) (drop from b) (simp length-drop (omega arith)) (rw length-drop (omega arith))
      (get_or-drop from a m 0 ∙ e ∙ sym (get_or-drop from b m 0))

  module _ (from : ℕ) where
    abbrev found : Bool
    found = ltb (mismatch_from from a b) (length b)

    -- no byte is left out
    pub copy_none : length b ≤ to_copy from a b → a ≡ b
    unfolding to_copy mismatch_from
    copy_none = bool_cases found
        (λ q. rw q (λ h. absurd (omega (arith, ltb-true (mismatch_from from a b) (length b) q))))
        (λ q. rw q (λ h. same_all a b l (omega arith)))

    pub copy_differs : to_copy from a b < length b → get_or a (to_copy from a b) 0 ≡ get_or b (to_copy from a b) 0 → ⊥
    unfolding to_copy
    copy_differs = bool_cases found (λ q. rw q (differs_from from)) (λ q. rw q (differs_from 0))

pub copy_same : (a : List ℕ) (from : ℕ) → length a ≤ to_copy from a a
copy_same a from =
    bool_cases (ltb (to_copy from a a) (length a))
    (λ q. absurd (copy_differs a a refl from (ltb-true (to_copy from a a) (length a) q) refl))
    (λ q. ltb-false (to_copy from a a) (length a) q)

-- ---- of images that begin with the same bytes

common : (c a b : List ℕ) → mismatch (c ++ a) (c ++ b) ≡ length c + mismatch a b
unfolding mismatch
common [] a b = omega arith
common (x ∷ c) a b = rw (eq-eqb x x refl, common c a b) (omega arith)

module _ (c a b : List ℕ) (from : ℕ) (h : from ≤ length c) where
  from_common : mismatch_from from (c ++ a) (c ++ b) ≡ length c + mismatch a b
  unfolding mismatch_from
  from_common = rw (drop-append-le from c a h, drop-append-le from c b h, common (drop from c) a b, length-drop) (omega arith)

pub copy_here : (c : List ℕ) (x y : ℕ) (a b : List ℕ) (from : ℕ) → from ≤ length c → (x ≡ y → ⊥) → to_copy from (c ++ x ∷ a) (c ++ y ∷ b) ≡ length c
unfolding to_copy mismatch
copy_here c x y a b from h d =
    let e : mismatch_from from (c ++ x ∷ a) (c ++ y ∷ b) ≡ length c = from_common c (x ∷ a) (y ∷ b) from h ∙ rw (ne_eqb x y d) (omega arith) in
    rw (e, lt-ltb (length c) (length (c ++ y ∷ b)) (rw length-append (omega arith)))
