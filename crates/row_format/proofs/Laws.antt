-- A nil UUID, a subject by its parts, a row alone, and the role slots of a credential row whose first slot holds no role.
use Rattle.rows.proofs.Prelude.{◌≡◌, refl, sym, ap, ◌∙◌, Bool, false, true, not, ◌&&◌, and-true, List, [], ◌∷◌, ◌++◌, ℕ, zero, suc, ◌+◌, ◌*◌, ◌<◌, length, take, drop, replicate}
use Rattle.rows.proofs.Prelude.{get_or, get_or-drop, get_or-take, take_all, length-drop, length-take-le, arith, and_left, and_right, bool_cases, eqb, eq-eqb, eqb-false, eqb-true, ne_eqb}
use mathlib.Core.Bool.{and_assoc, and_comm}
use lib.Seq.{take-add}
use Rattle.rows.specs.Rows.{Row, rows_of, all_zero, same, every}
use Rattle.rows.proofs.Kept.{same_true}
use Rattle.rows.proofs.AllZero.{zeros_from}
use Rattle.rules.specs.Bits.{bits}
use Rattle.rules.specs.Bodies.{nil, is_nil, ace_kind, ace_role, ace_subject, subject_storable}
use Rattle.rules.specs.Lookup.{lookup}
use Rattle.rules.specs.Roles.{no_role, asserted_authority, roles_sound}
use Rattle.rules.specs.Sizes.{ace_row_size, cred_row_size, cred_body_size, role_slot_size}
use Rattle.rules.specs.Asserted.{role_slot}
use Rattle.rules.proofs.BitLaws.{bits_word}
use Rattle.rules.proofs.RoleSlots.{slots_sound}

-- ---- the nil UUID: sixteen bytes, each of them 0

zeros_same : (u : List ℕ) → all_zero u ≡ same u (replicate (length u) 0)
unfolding all_zero same
zeros_same [] = refl
zeros_same (x ∷ u) = ap (λ (t : Bool). eqb x 0 && t) (zeros_same u)

pub nil_is : (u : List ℕ) → is_nil u ≡ (eqb (length u) 16 && all_zero u)
unfolding is_nil nil
nil_is u =
    bool_cases (eqb (length u) 16)
    (λ e. rw (e, zeros_same u, eqb-true (length u) 16 e))
    (λ e. rw e (bool_cases (same u nil) (λ t. absurd (eqb-false (length u) 16 e (ap length (same_true u nil t)))) (λ f. f)))

-- ---- a subject by its parts: eight bytes, and eight, four or seven more

zeros_append : (a b : List ℕ) → all_zero (a ++ b) ≡ (all_zero a && all_zero b)
unfolding all_zero
zeros_append [] b = refl
zeros_append (x ∷ a) b = ap (λ (t : Bool). eqb x 0 && t) (zeros_append a b) ∙ sym (and_assoc (eqb x 0) (all_zero a) (all_zero b))

parts : (n m : ℕ) (s : List ℕ) → all_zero (take (n + m) s) ≡ (all_zero (take n s) && all_zero (take m (drop n s)))
parts n m s = ap all_zero (take-add n m s) ∙ zeros_append (take n s) (take m (drop n s))

pub by_parts : (row : Row) → length row ≡ ace_row_size → let s = ace_subject row in
    let first = all_zero (take 8 s) in
    subject_storable row ≡ lookup (ace_kind row)
    ((0, not (first && all_zero (take 8 (drop 8 s))))
    ∷ (1, (first && all_zero (take 4 (drop 8 s))) && not (eqb (ace_role row) 0))
    ∷ (2, (first && all_zero (take 7 (drop 8 s))) && eqb (bits row 216 7) 0)
    ∷ [])
    false
unfolding subject_storable
by_parts row l =
    let s = ace_subject row in
    let m : length s ≡ 16 = length-take-le 16 (drop 12 row) (omega (arith, length-drop 12 row)) in
    let whole : is_nil s ≡ (all_zero (take 8 s) && all_zero (take 8 (drop 8 s))) =
    rw (nil_is s, eq-eqb (length s) 16 m) (ap all_zero (sym (take_all 16 s (omega arith))) ∙ parts 8 8 s) in
    rw (whole, parts 8 4 s, parts 8 7 s)

-- ---- a row alone is a table of one row

pub lone : (passes : Row → Bool) (n : ℕ) (row : Row) → length row ≡ n → every passes (rows_of n 1 row) ≡ passes row
unfolding every rows_of
lone passes n row l = rw (take_all n row (omega arith), and-true)

-- ---- where the first slot holds no role, its authority and all after its role are zero

word_zero : (a b : ℕ) → eqb (a * 256 + b) 0 ≡ (eqb a 0 && eqb b 0)
word_zero zero b = let e : 0 * 256 + b ≡ b = omega arith in ap (λ (n : ℕ). eqb n 0) e
word_zero (suc a) b = ne_eqb (suc a * 256 + b) 0 (λ e. omega arith) ∙ sym (rw (ne_eqb (suc a) 0 (λ e. omega arith)))

pub no_first : (w : Row) → length w ≡ cred_row_size → ((k : ℕ) → get_or w k 0 < 256) → no_role (role_slot w 0) ≡ true
    → roles_sound w ≡ (all_zero (drop (cred_body_size + 4) w) && eqb (asserted_authority (role_slot w 0)) 0)
unfolding rows_of no_role
no_first w l small none =
    let x = drop cred_body_size w in
    let p = take role_slot_size x in
    let at : (i : ℕ) → i < 8 → get_or p i 0 ≡ get_or w (cred_body_size + i) 0 = λ i h. get_or-take 8 x i 0 h ∙ get_or-drop cred_body_size w i 0 in
    let first : bits p 0 16 ≡ get_or w 23 0 * 256 + get_or w 24 0 =
    bits_word p 0 (rw (at 0 (omega arith)) (small 23)) (rw (at 1 (omega arith)) (small 24)) ∙ rw (at 0 (omega arith), at 1 (omega arith)) in
    let second : bits p 16 16 ≡ get_or w 25 0 * 256 + get_or w 26 0 =
    bits_word p 2 (rw (at 2 (omega arith)) (small 25)) (rw (at 3 (omega arith)) (small 26)) ∙ rw (at 2 (omega arith), at 3 (omega arith)) in
    let zero25 : eqb (get_or w 25 0) 0 ≡ true = and_left (eqb (get_or w 25 0) 0) (eqb (get_or w 26 0) 0) (sym (word_zero (get_or w 25 0) (get_or w 26 0)) ∙ rw (← second) none) in
    let zero26 : eqb (get_or w 26 0) 0 ≡ true = and_right (eqb (get_or w 25 0) 0) (eqb (get_or w 26 0) 0) (sym (word_zero (get_or w 25 0) (get_or w 26 0)) ∙ rw (← second) none) in
    rw (
      slots_sound w l,
      none,
      zeros_from w 23 (omega arith),
      zeros_from w 24 (omega arith),
      zeros_from w 25 (omega arith),
      zeros_from w 26 (omega arith),
      zero25,
      zero26,
      first,
      word_zero (get_or w 23 0) (get_or w 24 0),
    ) (sym (and_assoc (eqb (get_or w 23 0) 0) (eqb (get_or w 24 0) 0) (all_zero (drop 27 w)))
    ∙ and_comm (eqb (get_or w 23 0) 0 && eqb (get_or w 24 0) 0) (all_zero (drop 27 w)))
