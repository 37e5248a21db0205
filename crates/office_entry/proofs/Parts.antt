-- Texts put one after the other are their join.
use Rattle.rows.proofs.Prelude.{◌≡◌, sym, ap, ◌∙◌, List, [], ◌∷◌, ◌++◌, append_assoc, append-nil, ℕ, ◌≤◌, length}
use Rattle.text.specs.Text.{ascii, decimal}
use Rattle.text.specs.Buffer.{largest, Puts}
use Rattle.text.proofs.Buffers.{puts_none, puts_then}
use Rattle.std.proofs.lemmas.Bool.Decides.{nat_tests}
use Rattle.rows.specs.Rows.{Row, joined}
use Rattle.rules.specs.Bodies.{row_number, ace_permission, ace_authority, ace_role}
use Rattle.rules_office.specs.Office.{role_subject, subject_text, resources_text, row_text}

-- for functions that test a number: what the tests tell, and that no text was put
pub ruleset tested = (puts_none, nat_tests)

three : (a b c : List ℕ) → (a ++ b) ++ c ≡ joined (a ∷ b ∷ c ∷ [])
unfolding joined
three a b c = append_assoc a b c ∙ ap (λ (l : List ℕ). a ++ (b ++ l)) (sym (append-nil c))

pub puts_three : {o a b c o₁ o₂ o₃ : List ℕ} {at r₁ r₂ r₃ : ℕ} → length o ≤ largest → Puts o at a o₁ r₁ → Puts o₁ r₁ b o₂ r₂ → Puts o₂ r₂ c o₃ r₃
    → Puts o at (joined (a ∷ b ∷ c ∷ [])) o₃ r₃
puts_three {o} {a} {b} {c} h p q r = rw (← three a b c) (puts_then h (puts_then h p q) r)

pairs : (k a l b e : List ℕ) → ((k ++ a) ++ (l ++ b)) ++ e ≡ joined (k ∷ a ∷ l ∷ b ∷ e ∷ [])
unfolding joined
pairs k a l b e = simp (append_assoc, append-nil)

-- a role and its authority, each after its key, and the end
pub role_puts : {o o' : List ℕ} {at r : ℕ} (w : Row) (a n : ℕ) → a ≡ ace_authority w → n ≡ ace_role w
    → Puts o at (((ascii "{\"authority\":\"" ++ decimal a) ++ (ascii "\",\"role\":\"" ++ decimal n)) ++ ascii "\"}") o' r
    → Puts o at (role_subject w) o' r
unfolding role_subject
role_puts w a n e f h =
    rw (← e, ← f, ← pairs (ascii "{\"authority\":\"") (decimal a) (ascii "\",\"role\":\"") (decimal n) (ascii "\"}")) h

-- a key before each of four values, and the end
pub keyed : (k a l b m c n d e : List ℕ) → ((((((k ++ a) ++ l) ++ b) ++ m) ++ c) ++ (n ++ d)) ++ e ≡ joined (k ∷ a ∷ l ∷ b ∷ m ∷ c ∷ n ∷ d ∷ e ∷ [])
unfolding joined
keyed k a l b m c n d e = simp (append_assoc, append-nil)

-- the text of a row, by its number and its permission
pub row_puts : {o o' : List ℕ} {at r : ℕ} (w : Row) (n p : ℕ) → n ≡ row_number w → p ≡ ace_permission w
    → Puts o at (((((((ascii "{\"aceid\":" ++ decimal n) ++ ascii ",\"subject\":") ++ subject_text w) ++ ascii ",\"resources\":[") ++ resources_text w)
    ++ (ascii "],\"permission\":" ++ decimal p))
    ++ ascii "}")
    o' r
    → Puts o at (row_text w) o' r
unfolding row_text
row_puts w n p e f h =
    rw (
      ← e,
      ← f,
      ← keyed (ascii "{\"aceid\":") (decimal n) (ascii ",\"subject\":") (subject_text w)
          (ascii ",\"resources\":[") (resources_text w) (ascii "],\"permission\":") (decimal p) (ascii "}"),
    ) h
