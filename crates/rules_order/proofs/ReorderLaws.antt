-- Rows in another order: tests and unions over all rows say the same, and storing or removing a row keeps that.
-- Storing asks for distinct numbers: among rows with the same number, the first in order is replaced.
use Rattle.rows.proofs.Prelude.{◌≡◌, refl, sym, ap, ◌∙◌, Bool, true, false, not, ◌&&◌, ◌||◌, cond, List, [], ◌∷◌, ℕ, suc, ◌+◌, arith, length, take}
use Rattle.rows.proofs.Prelude.{length-append, bit_or, not-true, cond_cases, bool_cases, and-false, contradiction, and_left, and_right, and_both, or_left}
use mathlib.Core.Bool.{or-true}
use lib.Bits.{or_comm}
use Rattle.rows.specs.Rows.{Row, joined, same, numbered_as, some, every, without, distinct_numbers, stored, union_of}
use Rattle.rules_order.specs.Reorder.{Reordered, none, keep, swap, then, inserted, sorted, leads, ascending}
use Rattle.rows.proofs.Kept.{same_true, same_refl, same_sym}
use Rattle.rows.proofs.Union.{or_assoc}

-- picks by one test, on two sides
pub cond_both : {A B : Type 0} (R : A → B → Type 0) (b : Bool) {x y : A} {v w : B} → (b ≡ true → R x v) → (b ≡ false → R y w) → R (cond b x y) (cond b v w)
cond_both R true f g = f refl
cond_both R false f g = g refl

pub order_refl : (ws : List Row) → Reordered ws ws
order_refl [] = none
order_refl (w ∷ ws) = keep (order_refl ws)

-- ---- whatever takes the rows in one by one, and does not mind which of two comes first

module _ {A : Type 0} (of : List Row → A) (with : Row → A → A) (more : (w : Row) (ws : List Row) → of (w ∷ ws) ≡ with w (of ws))
    (either : (v w : Row) (a : A) → with v (with w a) ≡ with w (with v a)) where
  order_of : {vs ws : List Row} → Reordered vs ws → of vs ≡ of ws
  order_of none = refl
  order_of (keep {w = w} {vs = vs} {ws = ws} o) = more w vs ∙ ap (with w) (order_of o) ∙ sym (more w ws)
  order_of (swap {v = v} {w = w} {ws = ws}) =
      more v (w ∷ ws) ∙ ap (with v) (more w ws) ∙ either v w (of ws) ∙ sym (more w (v ∷ ws) ∙ ap (with w) (more v ws))
  order_of (then o p) = order_of o ∙ order_of p

-- how many there are, and how many bytes they have
pub order_length : {vs ws : List Row} → Reordered vs ws → length vs ≡ length ws
order_length = order_of length (λ w n. suc n) (λ w ws. refl) (λ v w n. refl)

pub order_joined : {vs ws : List Row} → Reordered vs ws → length (joined vs) ≡ length (joined ws)
unfolding joined
order_joined = order_of (λ ws. length (joined ws)) (λ w n. length w + n) (λ w ws. length-append w (joined ws)) (λ v w n. omega arith)

-- the union of what each gives
pub order_union : (gives : Row → ℕ) {vs ws : List Row} → Reordered vs ws → union_of gives vs ≡ union_of gives ws
unfolding union_of
order_union gives =
    order_of (union_of gives) (λ w k. bit_or (gives w) k) (λ w ws. refl)
    (λ v w k. sym (or_assoc (gives v) (gives w) k) ∙ ap (λ (m : ℕ). bit_or m k) (or_comm (gives v) (gives w)) ∙ or_assoc (gives w) (gives v) k)

-- a test of each
or_either : (t u b : Bool) → (t || (u || b)) ≡ (u || (t || b))
or_either true u b = sym (or-true u)
or_either false u b = refl

and_either : (t u b : Bool) → (t && (u && b)) ≡ (u && (t && b))
and_either true u b = refl
and_either false u b = sym (and-false u)

pub order_some : (p : Row → Bool) {vs ws : List Row} → Reordered vs ws → some p vs ≡ some p ws
unfolding some
order_some p = order_of (some p) (λ w b. p w || b) (λ w ws. refl) (λ v w b. or_either (p v) (p w) b)

pub order_every : (p : Row → Bool) {vs ws : List Row} → Reordered vs ws → every p vs ≡ every p ws
unfolding every
order_every p = order_of (every p) (λ w b. p w && b) (λ w ws. refl) (λ v w b. and_either (p v) (p w) b)

-- ---- distinct numbers

numbered_sym : (v w : Row) → numbered_as v w ≡ numbered_as w v
unfolding numbered_as
numbered_sym v w = same_sym (take 2 w) (take 2 v)

not_either : (t u v d : Bool) → (not (t || u) && (not v && d)) ≡ (not (t || v) && (not u && d))
not_either true u v d = refl
not_either false u v d = and_either (not u) (not v) d

pub order_distinct : {vs ws : List Row} → Reordered vs ws → distinct_numbers vs ≡ distinct_numbers ws
unfolding distinct_numbers some
order_distinct none = refl
order_distinct (keep {w = w} o) = rw (order_some (numbered_as w) o, order_distinct o)
order_distinct (swap {v = v} {w = w} {ws = ws}) =
    rw (numbered_sym v w) (not_either (numbered_as w v) (some (numbered_as v) ws) (some (numbered_as w) ws) (distinct_numbers ws))
order_distinct (then o p) = order_distinct o ∙ order_distinct p

-- ---- a row stored, rows removed

-- of distinct rows, no two have the number of a third
one_numbered : (new v w : Row) (ws : List Row) → distinct_numbers (v ∷ w ∷ ws) ≡ true → numbered_as new v ≡ true → numbered_as new w ≡ true → ⊥
unfolding distinct_numbers some numbered_as
one_numbered new v w ws d e f =
    let same_number : numbered_as v w ≡ true =
    ap (λ (x : List ℕ). same x (take 2 v)) (same_true (take 2 w) (take 2 new) f ∙ sym (same_true (take 2 v) (take 2 new) e)) ∙ same_refl (take 2 v) in
    contradiction same_number (or_left (numbered_as v w) (some (numbered_as v) ws) (not-true _ (and_left _ _ d)))

pub order_stored : (new : Row) {vs ws : List Row} → Reordered vs ws → distinct_numbers vs ≡ true → Reordered (stored new vs) (stored new ws)
unfolding stored distinct_numbers
order_stored new none d = keep none
order_stored new (keep {w = w} {vs = vs} o) d =
    cond_both Reordered (numbered_as new w) (λ _. keep o) (λ _. keep (order_stored new o (and_right (not (some (numbered_as w) vs)) _ d)))
order_stored new (swap {v = v} {w = w} {ws = ws}) d =
    bool_cases (numbered_as new v)
    (λ e. bool_cases (numbered_as new w) (λ f. absurd (one_numbered new v w ws d e f)) (λ f. rw (e, f) swap))
    (λ e. bool_cases (numbered_as new w) (λ f. rw (e, f) swap) (λ f. rw (e, f) swap))
order_stored new (then o p) d = then (order_stored new o d) (order_stored new p (sym (order_distinct o) ∙ d))

pub order_without : (goes : Row → Bool) {vs ws : List Row} → Reordered vs ws → Reordered (without goes vs) (without goes ws)
unfolding without
order_without goes none = none
order_without goes (keep {w = w} o) = cond_both Reordered (goes w) (λ _. order_without goes o) (λ _. keep (order_without goes o))
order_without goes (swap {v = v} {w = w} {ws = ws}) =
    bool_cases (goes v)
    (λ e. bool_cases (goes w) (λ f. rw (e, f) (order_refl _)) (λ f. rw (e, f) (order_refl _)))
    (λ e. bool_cases (goes w) (λ f. rw (e, f) (order_refl _)) (λ f. rw (e, f) swap))
order_without goes (then o p) = then (order_without goes o) (order_without goes p)

-- ---- sorting

module _ (before : Row → Row → Bool) where
  order_inserted : (new : Row) (rows : List Row) → Reordered (new ∷ rows) (inserted before new rows)
  unfolding inserted
  order_inserted new [] = keep none
  order_inserted new (row ∷ rows) =
      cond_cases (Reordered (new ∷ row ∷ rows)) (before new row) (λ _. order_refl (new ∷ row ∷ rows)) (λ _. then swap (keep (order_inserted new rows)))

  -- whatever the test, nothing is lost and nothing is added
  pub order_sorted : (rows : List Row) → Reordered rows (sorted before rows)
  unfolding sorted
  order_sorted [] = none
  order_sorted (row ∷ rows) = then (keep (order_sorted rows)) (order_inserted row (sorted before rows))

  -- where of two rows one may be before the other, sorted rows ascend
  module _ (total : (v w : Row) → before v w ≡ false → before w v ≡ true) where
    leads_inserted : (row new : Row) (rows : List Row) → before row new ≡ true → leads before row rows ≡ true
        → leads before row (inserted before new rows) ≡ true
    unfolding leads inserted
    leads_inserted row new [] e h = e
    leads_inserted row new (next ∷ rows) e h = cond_cases (λ (l : List Row). leads before row l ≡ true) (before new next) (λ _. e) (λ _. h)

    ascending_inserted : (new : Row) (rows : List Row) → ascending before rows ≡ true → ascending before (inserted before new rows) ≡ true
    unfolding ascending leads inserted
    ascending_inserted new [] h = refl
    ascending_inserted new (row ∷ rows) h =
        cond_cases (λ (l : List Row). ascending before l ≡ true) (before new row)
        (λ e. and_both _ _ e h)
        (λ e. and_both _ _ (leads_inserted row new rows (total new row e) (and_left _ _ h))
        (ascending_inserted new rows (and_right (leads before row rows) _ h)))

    pub sorted_ascends : (rows : List Row) → ascending before (sorted before rows) ≡ true
    unfolding ascending sorted
    sorted_ascends [] = refl
    sorted_ascends (row ∷ rows) = ascending_inserted row (sorted before rows) (sorted_ascends rows)
