-- A resource's name by its number, which choices a row names, and the texts that are left from a choice on.
use Rattle.rows.proofs.Prelude.{◌≡◌, refl, ap, ap₂, sym, ◌∙◌, Bool, true, false, not, ◌&&◌, cond, List, [], ◌∷◌, ◌++◌, map, ℕ, zero, suc, ◌+◌, ◌≤◌, ◌<◌, arith}
use Rattle.rows.proofs.Prelude.{length, drop, get_or, append_assoc, append-nil, drop-cons, bool_cases}
use Prim.Native.String.{String}
use Rattle.text.specs.Text.{ascii}
use Rattle.text.specs.Buffer.{Puts}
use Rattle.text.proofs.Buffers.{Writing, writing_step}
use Rattle.rows.specs.Rows.{Row, joined}
use Rattle.rules.specs.Lookup.{lookup}
use Rattle.rules.specs.Bodies.{in_set, ace_plus, ace_minus, ace_star}
use Rattle.rules_office.specs.Office.{comma, separated, names, href, choices, chosen, picked, braced}

-- ---- the choices with a number

abbrev pub numbers : List ℕ
numbers = map (λ (e : ℕ × String). e.0) names

-- how many they are
abbrev pub count : ℕ
count = length numbers

get_d_map : {A : Type 0} (d : A) (f : ℕ → A) (ns : List ℕ) (xs : List A) (k : ℕ) → k < length ns → f (get_or ns k 0) ≡ get_or (map f ns ++ xs) k d
get_d_map d f [] xs k h = absurd (omega arith)
get_d_map d f (n ∷ ns) xs zero h = refl
get_d_map d f (n ∷ ns) xs (suc k) h = get_d_map d f ns xs k (omega arith)

pub in_number : (w : Row) (k : ℕ) → k < count → in_set w (get_or numbers k 0) ≡ get_or (chosen w) k false
unfolding chosen
in_number w k h = get_d_map false (in_set w) numbers (ace_plus w ∷ ace_minus w ∷ ace_star w ∷ []) k h

around : (x : List ℕ) → braced (joined (ascii "\"href\":\"" ∷ x ∷ ascii "\"" ∷ [])) ≡ ascii "{\"href\":\"" ++ (x ++ ascii "\"}")
unfolding braced joined ascii
around x = ap (λ (l : List ℕ). ascii "{\"href\":\"" ++ l) (append_assoc x (ascii "\"") (ascii "}"))

-- the name of choice k between its key and its end
pub around_name : (k : ℕ) → k < count → (x : List ℕ) → x ≡ ascii (lookup (get_or numbers k 0) names "")
    → ascii "{\"href\":\"" ++ (x ++ ascii "\"}") ≡ braced (get_or choices k [])
unfolding choices href
around_name k h x e =
    rw e (sym (around (ascii (lookup (get_or numbers k 0) names "")))
    ∙ ap braced (get_d_map [] (λ (n : ℕ). href (lookup n names "")) numbers (drop count choices) k h))

-- ---- what is left from choice k on

abbrev pub items : Row → Bool → ℕ → List ℕ
items w first k = separated first (map braced (picked (drop k (chosen w)) (drop k choices)))

module _ (w : Row) (first : Bool) (k : ℕ) where
  -- choice k, if it is named, and then the others
  items_next : {b : Bool} → k < count + 3 → b ≡ get_or (chosen w) k false
      → items w first k ≡ cond b (comma first ++ braced (get_or choices k [])) [] ++ items w (not b && first) (suc k)
  unfolding chosen choices
  items_next {b} h e =
      ap₂ (λ (bs : List Bool) (xs : List (List ℕ)). separated first (map braced (picked bs xs))) (drop-cons (chosen w) k false h) (drop-cons choices k [] h)
      ∙ rw (← e) (bool_cases b (λ t. rw t) (λ t. rw t))

  -- choice k is named, and put: x is its text
  pub items_put : {o whole out x out' : List ℕ} {at p p' : ℕ}
      → k < count + 3 → true ≡ get_or (chosen w) k false → Writing o at whole (items w first k) out p
      → Puts out p (comma first ++ x) out' p' → x ≡ braced (get_or choices k []) → Writing o at whole (items w false (suc k)) out' p'
  items_put h e v q d = writing_step _ _ v (rw d (items_next h e)) q

  -- choice k is not named
  pub items_skip : {o whole out : List ℕ} {at p : ℕ} → k < count + 3 → false ≡ get_or (chosen w) k false
      → Writing o at whole (items w first k) out p → Writing o at whole (items w first (suc k)) out p
  items_skip h e v = rw (← items_next h e) v

  -- only the wildcards
  pub items_last : count ≤ k → k ≤ count → items w first k ≡ items w first count ++ []
  items_last h l = let e : k ≡ count = omega arith in ap (items w first) e ∙ sym (append-nil (items w first count))
