-- Texts that can be distinguished from what follows them, all of one shape: x before s and y before t are one text only if x is y and s is t.
use Rattle.rows.proofs.Prelude.{◌≡◌, refl, sym, ap, ap₂, ◌∙◌, Bool, true, false, not, ◌&&◌, ◌||◌, List, [], ◌∷◌, ◌++◌, map, append_assoc, append_cancel_left}
use Rattle.rows.proofs.Prelude.{tail-eq_of_cons-eq, ℕ, arith, length, get_or, not-true, and_left, and_right, and_both, or_left, or_right, or_neither}
use Rattle.rows.proofs.Prelude.{contradiction, cond_cases}
use mathlib.Core.List.{head-eq_of_cons-eq}
use Rattle.text.specs.Text.{ascii}
use Rattle.rows.specs.Rows.{same}
use Rattle.rows.proofs.Kept.{same_refl}
use Rattle.rules_office.specs.Office.{comma, separated, picked}
use Rattle.rules_office.specs.Written.{all}

abbrev pub any : {A : Type 0} → (A → Bool) → List A → Bool
any p [] = false
any p (x ∷ xs) = p x || any p xs

pub all_join : {A : Type 0} (p : A → Bool) (xs ys : List A) → all p xs ≡ true → all p ys ≡ true → all p (xs ++ ys) ≡ true
all_join p [] ys h k = k
all_join p (x ∷ xs) ys h k = and_both (p x) _ (and_left (p x) (all p xs) h) (all_join p xs ys (and_right (p x) (all p xs) h) k)

-- ---- texts whose bytes pass a test, before a byte that does not

module _ (p : ℕ → Bool) where
  pub span : (a b : List ℕ) {x y : ℕ} {s t : List ℕ} → all p a ≡ true → all p b ≡ true → p x ≡ false → p y ≡ false
      → a ++ x ∷ s ≡ b ++ y ∷ t → (a ≡ b) × (x ∷ s ≡ y ∷ t)
  span [] [] ha hb hx hy e = (refl, e)
  span [] (v ∷ b) ha hb hx hy e = contradiction (and_left (p v) (all p b) hb) (sym (ap p (head-eq_of_cons-eq e)) ∙ hx)
  span (u ∷ a) [] ha hb hx hy e = contradiction (and_left (p u) (all p a) ha) (ap p (head-eq_of_cons-eq e) ∙ hy)
  span (u ∷ a) (v ∷ b) ha hb hx hy e =
      let r = span a b (and_right (p u) (all p a) ha) (and_right (p v) (all p b) hb) hx hy (tail-eq_of_cons-eq e) in
      (ap₂ (λ x l. x ∷ l) (head-eq_of_cons-eq e) r.0, r.1)

-- ---- the elements of an array, before its "]": each begins with "{" and can be distinguished from what follows it

regroup : (a b c d : List ℕ) → ((a ++ b) ++ c) ++ d ≡ a ++ (b ++ (c ++ d))
regroup a b c d = append_assoc (a ++ b) c d ∙ append_assoc a b (c ++ d)

module _ {A : Type 0} (f : A → List ℕ) (p : A → Bool)
    (opens : (x : A) (s : List ℕ) → get_or (f x ++ s) 0 0 ≡ 123)
    (told : (x y : A) (s t : List ℕ) → p x ≡ true → p y ≡ true → f x ++ s ≡ f y ++ t → (x ≡ y) × (s ≡ t)) where
  not_end : (first : Bool) (x : A) (s t u : List ℕ) → 93 ∷ u ≡ comma first ++ (f x ++ (s ++ t)) → ⊥
  unfolding comma ascii
  not_end true x s t u e = let h : ◌≡◌ {A = ℕ} 93 123 = ap (λ (l : List ℕ). get_or l 0 0) e ∙ opens x (s ++ t) in omega arith
  not_end false x s t u e = let h : ◌≡◌ {A = ℕ} 93 44 = ap (λ (l : List ℕ). get_or l 0 0) e in omega arith

  pub elements_told : (first : Bool) (xs ys : List A) (s t : List ℕ) → all p xs ≡ true → all p ys ≡ true
      → separated first (map f xs) ++ 93 ∷ s ≡ separated first (map f ys) ++ 93 ∷ t → (xs ≡ ys) × (s ≡ t)
  elements_told first [] [] s t hx hy e = (refl, tail-eq_of_cons-eq e)
  elements_told first [] (y ∷ ys) s t hx hy e = absurd (not_end first y (separated false (map f ys)) (93 ∷ t) s (e ∙ regroup (comma first) (f y) _ _))
  elements_told first (x ∷ xs) [] s t hx hy e = absurd (not_end first x (separated false (map f xs)) (93 ∷ s) t (sym e ∙ regroup (comma first) (f x) _ _))
  elements_told first (x ∷ xs) (y ∷ ys) s t hx hy e =
      let r =
      told x y _ _ (and_left (p x) (all p xs) hx) (and_left (p y) (all p ys) hy)
      (append_cancel_left (comma first) _ _ (sym (regroup (comma first) (f x) _ _) ∙ e ∙ regroup (comma first) (f y) _ _))
      in
      let q = elements_told false xs ys s t (and_right (p x) (all p xs) hx) (and_right (p y) (all p ys) hy) r.1 in
      (ap₂ (λ z l. z ∷ l) r.0 q.0, q.1)

-- ---- flags, from the elements that they pick

module _ {A : Type 0} (p : A → Bool) where
  pub all_picked : (bs : List Bool) (xs : List A) → all p xs ≡ true → all p (picked bs xs) ≡ true
  all_picked [] xs h = refl
  all_picked (b ∷ bs) [] h = refl
  all_picked (b ∷ bs) (x ∷ xs) h =
      let r = all_picked bs xs (and_right (p x) (all p xs) h) in
      cond_cases (λ l. all p l ≡ true) b (λ _. and_both (p x) _ (and_left (p x) (all p xs) h) r) (λ _. r)

  none_picked : (bs : List Bool) (xs : List A) → any p xs ≡ false → any p (picked bs xs) ≡ false
  none_picked [] xs h = refl
  none_picked (b ∷ bs) [] h = refl
  none_picked (b ∷ bs) (x ∷ xs) h =
      let r = none_picked bs xs (or_right (p x) (any p xs) h) in
      cond_cases (λ l. any p l ≡ false) b (λ _. or_neither (p x) _ (or_left (p x) (any p xs) h) r) (λ _. r)

-- no text twice
abbrev pub different : List (List ℕ) → Bool
different [] = true
different (x ∷ xs) = not (any (same x) xs) && different xs

not_picked : (x : List ℕ) (xs ys : List (List ℕ)) (bs : List Bool) → any (same x) xs ≡ false → picked bs xs ≡ x ∷ ys → ⊥
not_picked x xs ys bs h e =
    contradiction (same_refl x) (or_left (same x x) _ (sym (ap (any (same x)) e) ∙ none_picked (same x) bs xs h))

pub picked_told : (bs cs : List Bool) (xs : List (List ℕ)) → length bs ≡ length xs → length cs ≡ length xs → different xs ≡ true
    → picked bs xs ≡ picked cs xs → bs ≡ cs
picked_told [] [] xs hb hc d e = refl
picked_told [] (c ∷ cs) xs hb hc d e = absurd (omega arith)
picked_told (b ∷ bs) [] xs hb hc d e = absurd (omega arith)
picked_told (b ∷ bs) (c ∷ cs) [] hb hc d e = absurd (omega arith)
picked_told (true ∷ bs) (true ∷ cs) (x ∷ xs) hb hc d e =
    ap (λ l. true ∷ l) (picked_told bs cs xs (omega arith) (omega arith) (and_right (not (any (same x) xs)) _ d) (tail-eq_of_cons-eq e))
picked_told (true ∷ bs) (false ∷ cs) (x ∷ xs) hb hc d e = absurd (not_picked x xs _ cs (not-true _ (and_left _ _ d)) (sym e))
picked_told (false ∷ bs) (true ∷ cs) (x ∷ xs) hb hc d e = absurd (not_picked x xs _ bs (not-true _ (and_left _ _ d)) e)
picked_told (false ∷ bs) (false ∷ cs) (x ∷ xs) hb hc d e =
    ap (λ l. false ∷ l) (picked_told bs cs xs (omega arith) (omega arith) (and_right (not (any (same x) xs)) _ d) e)
