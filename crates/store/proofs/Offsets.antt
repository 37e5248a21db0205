-- The first offset at which two images of one length differ, by what is known of the offsets before it.
use Rattle.rows.proofs.Prelude.{◌≡◌, ◌∙◌, sym, List, [], ◌∷◌, ℕ, zero, suc, ◌+◌, ◌-◌, ◌≤◌, ◌<◌, arith, length, drop, get_or, length-drop, get_or-drop, eq-eqb, ne_eqb, bool_cases, leb, leb-true, leb-false}
use Rattle.std.specs.Prelude.{Option, Some, None, MatchOption}
use Rattle.std.specs.Option.{SomeIff}
use Rattle.rules_store.specs.Store.{mismatch, mismatch_from}

mismatch_is : (a b : List ℕ) (j : ℕ) → length a ≡ length b → j ≤ length b → ((k : ℕ) → k < j → get_or a k 0 ≡ get_or b k 0)
    → (j < length b → get_or a j 0 ≡ get_or b j 0 → ⊥) → mismatch a b ≡ j
unfolding mismatch
mismatch_is [] [] j l h s d = omega arith
mismatch_is [] (y ∷ b) j l h s d = absurd (omega arith)
mismatch_is (x ∷ a) [] j l h s d = absurd (omega arith)
mismatch_is (x ∷ a) (y ∷ b) zero l h s d = rw (ne_eqb x y (d (omega arith)))
mismatch_is (x ∷ a) (y ∷ b) (suc j) l h s d =
    rw (eq-eqb x y (s 0 (omega arith)), mismatch_is a b j (omega arith) (omega arith) (λ k q. s (suc k) (omega arith)) (λ q. d (omega arith)))

module _ (old new : List ℕ) (l : length old ≡ length new) (from : ℕ) where
  at : (i : ℕ) → from ≤ i → i ≤ length new → ((k : ℕ) → from ≤ k → k < i → get_or old k 0 ≡ get_or new k 0)
      → (i < length new → get_or old i 0 ≡ get_or new i 0 → ⊥) → mismatch_from from old new ≡ i
  unfolding mismatch_from
  at i f h s d =
      let back : from + (i - from) ≡ i = omega arith in
      let e : mismatch (drop from old) (drop from new) ≡ i - from = mismatch_is (drop from old) (drop from new) (i - from)
      (simp length-drop (omega arith)) (simp length-drop (omega arith))
      (λ k q. get_or-drop from old k 0 ∙ s (from + k) (omega arith) (omega arith) ∙ sym (get_or-drop from new k 0))
      (λ q g. d (omega (arith, length-drop from new)) (rw (get_or-drop from old (i - from) 0, get_or-drop from new (i - from) 0, back) at g)) in
      omega arith

  beyond : length new < from → mismatch_from from old new < length new → ⊥
  unfolding mismatch_from
  beyond h q = omega arith

  -- what a search from an offset on finds
  pub found : (r : Option ℕ)
      → MatchOption r ((k : ℕ) → from ≤ k → k < length new → get_or old k 0 ≡ get_or new k 0)
      (λ i. (from ≤ i) × (i < length new) × (get_or old i 0 ≡ get_or new i 0 → ⊥) × ((k : ℕ) → from ≤ k → k < i → get_or old k 0 ≡ get_or new k 0))
      → SomeIff r (mismatch_from from old new < length new) (mismatch_from from old new)
  found None h = λ q. bool_cases (leb from (length new))
      (λ e. let m = at (length new) (leb-true from (length new) e) (omega arith) h (λ w. absurd (omega arith)) in omega arith)
      (λ e. beyond (leb-false from (length new) e) q)
  found (Some i) h = let m = at i h.0 (omega arith) h.3 (λ w. h.2) in (omega arith, sym m)
