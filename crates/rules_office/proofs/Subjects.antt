-- The subject of a storable access row can be read from its text.
use Rattle.rows.proofs.Prelude.{◌≡◌, refl, sym, ap, ◌∙◌, Bool, true, false, cond, List, [], ◌∷◌, ◌++◌, append_assoc, append_cancel_left, tail-eq_of_cons-eq, ℕ}
use Rattle.rows.proofs.Prelude.{zero, suc, ◌/◌, ◌%◌, ◌≤◌, ◌<◌, arith, length, take, drop, get_or, length-drop, length-take, take-take, eqb, ltb, eqb-false}
use Rattle.rows.proofs.Prelude.{eqb-true, ltb-false, ltb-true, and_left, and_right, and_both, cond_cases, bool_cases, contradiction}
use mathlib.Core.List.{head-eq_of_cons-eq}
use Rattle.text.specs.Text.{ascii}
use Rattle.rows.specs.Rows.{Row, all_zero, joined}
use Rattle.rules.specs.Bits.{bits}
use Rattle.rules.specs.Bodies.{ace_kind, ace_subject, ace_authority, ace_role, ace_connection, subject_storable}
use Rattle.rules.proofs.BitLaws.{bits_small}
use Rattle.rules_office.specs.Office.{hex_digit, dash, hex_byte, uuid_from, uuid_text, uuid_subject, role_subject, connection_subject, subject_text}
use Rattle.rules_office.specs.Written.{all, is_byte}
use Rattle.rules_office.proofs.Decimals.{decimal_told}
use Rattle.rules_office.proofs.Agree.{zeros_same, Agree, agree_field, agree_part}

-- ---- a UUID

hex_same : (a b : ℕ) → a < 16 → b < 16 → hex_digit a ≡ hex_digit b → a ≡ b
unfolding hex_digit
hex_same a b ha hb e =
    bool_cases (ltb a 10)
    (λ p. bool_cases (ltb b 10) (λ q. omega (arith, rw (p, q) at e)) (λ q. omega (arith, rw (p, q) at e, ltb-true a 10 p, ltb-false b 10 q)))
    (λ p. bool_cases (ltb b 10) (λ q. omega (arith, rw (p, q) at e, ltb-false a 10 p, ltb-true b 10 q)) (λ q. omega (arith, rw (p, q) at e)))

pub uuid_told : (i : ℕ) (u v : List ℕ) {s t : List ℕ} → length u ≡ length v → all is_byte u ≡ true → all is_byte v ≡ true
    → uuid_from i u ++ s ≡ uuid_from i v ++ t → (u ≡ v) × (s ≡ t)
unfolding hex_byte
uuid_told i [] [] l hu hv e = (refl, e)
uuid_told i [] (b ∷ v) l hu hv e = absurd (omega arith)
uuid_told i (a ∷ u) [] l hu hv e = absurd (omega arith)
uuid_told i (a ∷ u) (b ∷ v) {s} {t} l hu hv e =
    let e₁ = append_cancel_left (dash i) _ _ (simp append_assoc at e) in
    let e₂ = tail-eq_of_cons-eq e₁ in
    let ha : a < 256 = ltb-true a 256 (and_left _ _ hu) in
    let hb : b < 256 = ltb-true b 256 (and_left _ _ hv) in
    let q = hex_same (a / 16) (b / 16) (omega arith) (omega arith) (head-eq_of_cons-eq e₁) in
    let m = hex_same (a % 16) (b % 16) (omega arith) (omega arith) (head-eq_of_cons-eq e₂) in
    let r = uuid_told (suc i) u v (omega arith) (and_right (is_byte a) _ hu) (and_right (is_byte b) _ hv) (tail-eq_of_cons-eq e₂) in
    let first : a ≡ b = omega arith in
    (rw (first, r.0), r.1)

-- ---- the three kinds

-- the first letter of the key tells the kind
abbrev kind_of : ℕ → ℕ
kind_of letter = cond (eqb letter 117) 0 (cond (eqb letter 97) 1 2)

kind_told : (w : Row) (s : List ℕ) → subject_storable w ≡ true → kind_of (get_or (subject_text w ++ s) 2 0) ≡ ace_kind w
unfolding subject_storable subject_text uuid_subject role_subject connection_subject joined ascii
kind_told w s h =
    bool_cases (eqb (ace_kind w) 0) (λ p. rw p (sym (eqb-true (ace_kind w) 0 p)))
    (λ p. bool_cases (eqb (ace_kind w) 1) (λ q. rw (p, q) (sym (eqb-true (ace_kind w) 1 q)))
    (λ q. bool_cases (eqb (ace_kind w) 2)
    (λ o. rw (p, q, o)
    (cond_cases (λ (x : List ℕ). kind_of (get_or (x ++ s) 2 0) ≡ ace_kind w) (eqb (ace_connection w) 1)
    (λ _. sym (eqb-true (ace_kind w) 2 o)) (λ _. sym (eqb-true (ace_kind w) 2 o))))
    (λ o. contradiction (rw (p, q, o) at h) refl)))

-- two bits with the same test
pub bit_same : (x y : ℕ) → x < 2 → y < 2 → eqb x 1 ≡ eqb y 1 → x ≡ y
bit_same x y hx hy e =
    bool_cases (eqb y 1)
    (λ p. omega (arith, eqb-true y 1 p, eqb-true x 1 (e ∙ p)))
    (λ p. omega (arith, eqb-false y 1 p, eqb-false x 1 (e ∙ p)))

connection_text : Bool → List ℕ
connection_text b = cond b (ascii "{\"conntype\":\"auth-crypt\"}") (ascii "{\"conntype\":\"anon-clear\"}")

connection_told : (a b : Bool) (s t : List ℕ) → connection_text a ++ s ≡ connection_text b ++ t → (a ≡ b) × (s ≡ t)
unfolding connection_text ascii
connection_told true true s t e = (refl, append_cancel_left (connection_text true) s t e)
connection_told true false s t e = let h : ◌≡◌ {A = ℕ} 117 110 = ap (λ (l : List ℕ). get_or l 14 0) e in absurd (omega arith)
connection_told false true s t e = let h : ◌≡◌ {A = ℕ} 110 117 = ap (λ (l : List ℕ). get_or l 14 0) e in absurd (omega arith)
connection_told false false s t e = (refl, append_cancel_left (connection_text false) s t e)

-- what the text of a subject tells
pub record SubjectSame (w v : Row) : Type 0 where
  pub kind : ace_kind w ≡ ace_kind v
  pub bytes : Agree w v 96 → Agree w v 224

pub all_take : (p : ℕ → Bool) (n : ℕ) (b : List ℕ) → all p b ≡ true → all p (take n b) ≡ true
all_take p zero b h = refl
all_take p (suc n) [] h = refl
all_take p (suc n) (x ∷ b) h = and_both (p x) _ (and_left _ _ h) (all_take p n b (and_right (p x) _ h))

pub all_drop : (p : ℕ → Bool) (n : ℕ) (l : List ℕ) → all p l ≡ true → all p (drop n l) ≡ true
all_drop p zero l h = h
all_drop p (suc n) [] h = refl
all_drop p (suc n) (x ∷ l) h = all_drop p n l (and_right (p x) (all p l) h)

module _ (w v : Row) (l : length w ≡ length v) where
  length_part : (n : ℕ) → length (take n (ace_subject w)) ≡ length (take n (ace_subject v))
  length_part n = simp (length-take, length-drop, l)

  -- the first n bytes of the subject
  part : (n : ℕ) → n ≤ 16 → take n (ace_subject w) ≡ take n (ace_subject v) → take n (drop 12 w) ≡ take n (drop 12 v)
  part n h e = sym (take-take n 16 (drop 12 w) h) ∙ e ∙ take-take n 16 (drop 12 v) h

  uuids : {s t : List ℕ} → all is_byte w ≡ true → all is_byte v ≡ true → uuid_subject w ++ s ≡ uuid_subject v ++ t → (ace_subject w ≡ ace_subject v) × (s ≡ t)
  unfolding uuid_subject uuid_text joined ascii
  uuids {s} {t} bw bv h =
      let r =
      uuid_told 0 (ace_subject w) (ace_subject v) (simp (length-take, length-drop, l))
      (all_take is_byte 16 (drop 12 w) (all_drop is_byte 12 w bw)) (all_take is_byte 16 (drop 12 v) (all_drop is_byte 12 v bv))
      (append_cancel_left (ascii "{\"uuid\":\"") _ _ (simp append_assoc at h))
      in
      (r.0, append_cancel_left (ascii "\"}") s t r.1)

  roles : {s t : List ℕ} → role_subject w ++ s ≡ role_subject v ++ t → (ace_authority w ≡ ace_authority v) × (ace_role w ≡ ace_role v) × (s ≡ t)
  unfolding role_subject joined ascii
  roles {s} {t} h =
      let a = decimal_told (ace_authority w) (ace_authority v) refl refl (append_cancel_left (ascii "{\"authority\":\"") _ _ (simp append_assoc at h)) in
      let r = decimal_told (ace_role w) (ace_role v) refl refl (append_cancel_left (ascii "\",\"role\":\"") _ _ a.1) in
      (a.0, r.0, append_cancel_left (ascii "\"}") s t r.1)

  connections : {s t : List ℕ} → connection_subject w ++ s ≡ connection_subject v ++ t → (ace_connection w ≡ ace_connection v) × (s ≡ t)
  unfolding connection_subject connection_text
  connections {s} {t} h =
      let r = connection_told (eqb (ace_connection w) 1) (eqb (ace_connection v) 1) s t h in
      (bit_same (ace_connection w) (ace_connection v) (bits_small w 223 1) (bits_small v 223 1) r.0, r.1)

  pub subject_told : {s t : List ℕ} → all is_byte w ≡ true → all is_byte v ≡ true → subject_storable w ≡ true → subject_storable v ≡ true
      → subject_text w ++ s ≡ subject_text v ++ t → SubjectSame w v × (s ≡ t)
  unfolding subject_storable subject_text
  subject_told {s} {t} bw bv hw hv e =
      let k : ace_kind w ≡ ace_kind v = sym (kind_told w s hw) ∙ ap (λ (x : List ℕ). kind_of (get_or x 2 0)) e ∙ kind_told v t hv in
      bool_cases (eqb (ace_kind w) 0)
      (λ p. let r = uuids bw bv (rw (p, rw k at p) at e) in (record { kind = k; bytes = λ f. agree_part w v 12 16 f r.0 }, r.1))
      (λ p. let p' = rw k at p in
      bool_cases (eqb (ace_kind w) 1)
      (λ q. let q' = rw k at q in
      let r = roles (rw (p, q, p', q') at e) in
      let z = and_left (all_zero (take 12 (ace_subject w))) _ (rw (p, q) at hw) in
      let z' = and_left (all_zero (take 12 (ace_subject v))) _ (rw (p', q') at hv) in
      let zeros = part 12 (omega arith) (zeros_same _ _ (length_part 12) z z') in
      (record { kind = k; bytes = λ f. agree_field w v 208 16 (agree_field w v 192 16 (agree_part w v 12 12 f zeros) r.0) r.1 }, r.2))
      (λ q. let q' = rw k at q in
      bool_cases (eqb (ace_kind w) 2)
      (λ o. let o' = rw k at o in
      let r = connections (rw (p, q, o, p', q', o') at e) in
      let z = rw (p, q, o) at hw in
      let z' = rw (p', q', o') at hv in
      let all-zero = all_zero (take 15 (ace_subject w)) in
      let all-zero' = all_zero (take 15 (ace_subject v)) in
      let zeros = part 15 (omega arith) (zeros_same _ _ (length_part 15) (and_left all-zero _ z) (and_left all-zero' _ z')) in
      let bits-same = eqb-true (bits w 216 7) 0 (and_right all-zero _ z) ∙ sym (eqb-true (bits v 216 7) 0 (and_right all-zero' _ z')) in
      (record { kind = k; bytes = λ f. agree_field w v 223 1 (agree_field w v 216 7 (agree_part w v 12 15 f zeros) bits-same) r.0 }, r.1))
      (λ o. contradiction (rw (p, q, o) at hw) refl)))
