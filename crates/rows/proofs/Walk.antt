-- Walks over the rows of a table: what `next` gives, and what `all`, `any` and `position` of a walk say in the words of the definitions.
-- Assumes nothing.
use Rattle.rows.proofs.Prelude.{◌≡◌, refl, sym, ap, ◌∙◌, Bool, cond, List, [], ◌∷◌, ℕ, suc, ◌+◌, ◌-◌, ◌<◌, arith, length, take, drop, eqb, ltb, bool_cases}
use native.Mathlib.Nat.{zero-add}
use Rattle.std.proofs.lemmas.Bool.Decides.{nat_tests}
use Rattle.std.specs.Prelude.{Option, Some, None}
use Rattle.std.specs.Cmp.Lexicographic.{pointwise}
use Rattle.std.specs.List.{list_all, list_any, position_or_len}
use Rattle.rows.specs.Rows.{Row, rows_of, same, some, every}
use Rattle.rows.specs.Promises.{index_from, index_of}
use Rattle.rows.proofs.Laws.{rows_of_suc, take_rest}

-- ---- a step

pub rows_next : (s n : ℕ) (b : List ℕ) → 0 < n → rows_of s n b ≡ take s b ∷ rows_of s (n - 1) (take (length b - s) (drop s b))
rows_next s n b h = rw (rows_of_suc s n b h, take_rest)

pub rows_none : (s n : ℕ) (b : List ℕ) → n ≡ 0 → rows_of s n b ≡ []
unfolding rows_of
rows_none s n b h = rw h

-- ---- the library's words for lists

pub same_is : (a b : List ℕ) → pointwise eqb a b ≡ same a b
unfolding same
same_is [] [] = refl
same_is [] (y ∷ ys) = refl
same_is (x ∷ xs) [] = refl
same_is (x ∷ xs) (y ∷ ys) = rw (same_is xs ys)

pub every_is : (passes : Row → Bool) (rows : List Row) → list_all passes rows ≡ every passes rows
unfolding every
every_is passes [] = refl
every_is passes (row ∷ rows) = rw (every_is passes rows)

pub some_is : (passes : Row → Bool) (rows : List Row) → list_any passes rows ≡ some passes rows
unfolding some
some_is passes [] = refl
some_is passes (row ∷ rows) = rw (some_is passes rows)

from : ℕ → ℕ → ℕ → Option ℕ
from i p n = cond (ltb p n) (Some (i + p)) None

from_none : (i : ℕ) → from i 0 0 ≡ None
unfolding from
from_none i = refl

from_zero : (i n : ℕ) → from i 0 (suc n) ≡ Some i
unfolding from
from_zero i n = grind (arith, nat_tests)

from_suc : (i p n : ℕ) → from i (1 + p) (suc n) ≡ from (i + 1) p n
unfolding from
from_suc i p n = let e : i + (1 + p) ≡ i + 1 + p = omega arith in grind (arith, nat_tests, e)

from_is : (i : ℕ) (passes : Row → Bool) (rows : List Row) → from i (position_or_len passes rows) (length rows) ≡ index_from i passes rows
unfolding index_from
from_is i passes [] = from_none i
from_is i passes (row ∷ rows) =
    bool_cases (passes row) (λ e. rw e (from_zero i (length rows)))
    (λ e. rw e (from_suc i (position_or_len passes rows) (length rows) ∙ from_is (i + 1) passes rows))

pub index_is : (passes : Row → Bool) (rows : List Row)
    → cond (ltb (position_or_len passes rows) (length rows)) (Some (position_or_len passes rows)) None ≡ index_of passes rows
unfolding from
index_is passes rows =
    ap (λ (k : ℕ). cond (ltb (position_or_len passes rows) (length rows)) (Some k) None) (sym (zero-add (position_or_len passes rows))) ∙ from_is 0 passes rows
