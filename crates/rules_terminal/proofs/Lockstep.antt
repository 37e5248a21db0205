-- Two machines in step: each input of the first feeds some inputs, perhaps none, to the second, whose replies are what the first shows.
-- The first may hold more than the second (waiting records); R relates their states.
use Rattle.rows.proofs.Prelude.{◌≡◌, refl, sym, ap, ap₂, ◌∙◌, Bool, List, [], ◌∷◌, ◌++◌, map, bool_cases}
use Rattle.rules.specs.Run.{replies, final, Along, kept}
use Rattle.rules_terminal.specs.Inputs.{collected}

module _ {B J O : Type 0} (reply : B → J → O) (step : B → J → B) where
  replies_append : (b : B) (xs ys : List J) → replies reply step b (xs ++ ys) ≡ replies reply step b xs ++ replies reply step (final step b xs) ys
  replies_append b [] ys = refl
  replies_append b (x ∷ xs) ys = ap (λ (l : List O). reply b x ∷ l) (replies_append (step b x) xs ys)

module _ {B J : Type 0} (step : B → J → B) where
  final_append : (b : B) (xs ys : List J) → final step b (xs ++ ys) ≡ final step (final step b xs) ys
  final_append b [] ys = refl
  final_append b (x ∷ xs) ys = final_append (step b x) xs ys

  pub along_first : (P : B → Type 0) (b : B) (xs : List J) → Along step P b xs → P b
  along_first P b [] a = a
  along_first P b (x ∷ xs) a = a.0

  along_append : (P : B → Type 0) (b : B) (xs ys : List J) → Along step P b (xs ++ ys) → Along step P b xs × Along step P (final step b xs) ys
  along_append P b [] ys a = (along_first P b ys a, a)
  along_append P b (x ∷ xs) ys a = let rest = along_append P (step b x) xs ys a.1 in ((a.0, rest.0), rest.1)

module _ {S I A C : Type 0} (next : S → I → S) (out : S → I → List A) (h : List A → List C)
    (none : h [] ≡ []) (both : (xs ys : List A) → h (xs ++ ys) ≡ h xs ++ h ys) where
  -- a function that goes through joined lists goes through what is collected
  pub collected_through : (s : S) (is : List I) → collected next (λ s i. h (out s i)) s is ≡ h (collected next out s is)
  collected_through s [] = sym none
  collected_through s (i ∷ is) = rw (collected_through (next s i) is) (sym (both (out s i) (collected next out (next s i) is)))

module _ {A : Type 0} (keep : A → Bool) where
  -- kept, then each through a function
  pub mapped_append : {B : Type 0} (f : A → B) (xs ys : List A) → map f (kept keep (xs ++ ys)) ≡ map f (kept keep xs) ++ map f (kept keep ys)
  mapped_append f [] ys = refl
  mapped_append f (x ∷ xs) ys = bool_cases (keep x) (λ e. rw (e, mapped_append f xs ys)) (λ e. rw (e, mapped_append f xs ys))

module _ {S I B J O : Type 0} (next : S → I → S) (shown : S → I → List O) (fed : S → I → List J)
    (reply : B → J → O) (step : B → J → B) (P : B → Type 0) (R : S → B → Type 0) where
  -- one input
  abbrev pub InStep : Type 0
  InStep = (s : S) (b : B) (i : I) → Along step P b (fed s i) → R s b → (shown s i ≡ replies reply step b (fed s i)) × R (next s i) (final step b (fed s i))

  pub lockstep : InStep → (s : S) (b : B) (is : List I) → Along step P b (collected next fed s is) → R s b
      → (collected next shown s is ≡ replies reply step b (collected next fed s is)) × R (final next s is) (final step b (collected next fed s is))
  lockstep one s b [] a e = (refl, e)
  lockstep one s b (i ∷ is) a e =
      let here = along_append step P b (fed s i) (collected next fed (next s i) is) a in
      let now = one s b i here.0 e in
      let later = lockstep one (next s i) (final step b (fed s i)) is here.1 now.1 in (
        ap₂ (λ (x y : List O). x ++ y) now.0 later.0 ∙ sym (replies_append reply step b (fed s i) (collected next fed (next s i) is)),
        rw (final_append step b (fed s i) (collected next fed (next s i) is)) later.1,
      )
