-- The loop over a list's rows: its invariant, a bad row, a turn, the end.
-- The first i rows have no fault; what is reported of the list is reported of the rest after them, and so is where a number first repeats.
use Rattle.rows.proofs.Prelude.{◌≡◌, refl, sym, ◌∙◌, Bool, true, false, not, ◌||◌, cond, List, [], ◌∷◌, ℕ, suc, ◌+◌, ◌*◌, ◌≤◌, ◌<◌, add-one, arith, length, take, drop}
use Rattle.rows.proofs.Prelude.{drop_of_length-le, eqb, eq-eqb, ne_eqb, bool_cases, or_right}
use Rattle.rows.specs.Rows.{Row, rows_of, some, numbered_as, before_repeat}
use Rattle.rows.proofs.Laws.{length_rows_of, rows_of_end, from_row}
use Rattle.std.specs.declared.result.Result.TheVariants.{Err}
use Rattle.rules.specs.declared.Check.TheVariants.{Pass, Refuse}
use Rattle.rules.specs.declared.Table.TheVariants.{Aces}
use Rattle.rules.specs.Tables.{storable}
use Rattle.rules.specs.Checks.{verdict}
use Rattle.rules.proofs.CheckLaws.{pass_not_refuse}
use Rattle.rules.proofs.Answers.{passed}
use Rattle.rules_lists.specs.declared.ListError.TheVariants.{BadRow}
use Rattle.rules_lists.specs.Lists.{unfit, excessive, tested, accepted, named_or, rows_tested}
use Rattle.rules.specs.Sizes.{ace_row_size}
use Rattle.list_validation.specs.Answers.{result_for}

-- the checks of a row as code makes them
abbrev pub code_checks : Row → Bool → List (ℕ × Bool)
code_checks w again = (20, (not (storable Aces w) || again)) ∷ (21, excessive w) ∷ []

fault_is : (a g : Bool) (n i : ℕ) → verdict ((20, a) ∷ (21, g) ∷ []) ≡ Refuse n → Err (BadRow n i) ≡ result_for (tested n i)
unfolding verdict result_for
fault_is true g n i e = let q : 20 ≡ n = cc in rw (← q) refl
fault_is false true n i e = let q : 21 ≡ n = cc in rw (← q) refl
fault_is false false n i e = absurd (pass_not_refuse refl e)

-- a row's fault is 20 or 21, and so neither 0 nor 19
pub row_fault : (w : Row) (again : Bool) (n i : ℕ) → verdict (code_checks w again) ≡ Refuse n → Err (BadRow n i) ≡ result_for (tested n i)
row_fault w again n i e = fault_is (not (storable Aces w) || again) (excessive w) n i e

module _ (b : List ℕ) (count repeat : ℕ) where
  abbrev rows : List Row
  rows = rows_of ace_row_size count b

  pub record RowInv (i : ℕ) : Type 0 where
    pub inside : i ≤ count
    pub tested : rows_tested [] rows ≡ rows_tested (rows_of ace_row_size i b) (drop i rows)
    pub distinct : repeat ≡ i + before_repeat (rows_of ace_row_size i b) (drop i rows)

  pub row_start : repeat ≡ before_repeat [] rows → RowInv 0
  unfolding rows_of
  row_start e = record { inside = omega arith; tested = refl; distinct = omega (arith, e) }

  pub row_end : (i : ℕ) → RowInv i → count ≤ i → accepted ≡ rows_tested [] rows
  unfolding rows_tested
  row_end i inv h = let few : length rows ≤ i = rw length_rows_of h in sym (inv.tested ∙ rw (drop_of_length-le rows few))

  module _ (i : ℕ) (inv : RowInv i) (more : i < count) where
    abbrev row : Row
    row = take ace_row_size (drop (i * ace_row_size) b)

    -- row i repeats a number where the first repeat is at i
    distinct_here : repeat ≡ i + cond (some (numbered_as row) (rows_of ace_row_size i b)) 0 (suc (before_repeat (rows_of ace_row_size (suc i) b) (drop (suc i) rows)))
    unfolding before_repeat
    distinct_here = inv.distinct ∙ rw (from_row ace_row_size count i b more, rows_of_end ace_row_size i b)

    repeats_here : some (numbered_as row) (rows_of ace_row_size i b) ≡ eqb i repeat
    repeats_here =
        bool_cases (some (numbered_as row) (rows_of ace_row_size i b))
        (λ e. e ∙ sym (eq-eqb i repeat (omega (arith, rw e at distinct_here))))
        (λ e. e ∙ sym (ne_eqb i repeat (λ q. omega (arith, rw e at distinct_here))))

    -- what row i decides
    decides : rows_tested [] rows ≡ named_or (verdict (code_checks row (eqb i repeat))) (suc i) (rows_tested (rows_of ace_row_size (suc i) b) (drop (suc i) rows))
    unfolding rows_tested unfit
    decides = inv.tested ∙ rw (from_row ace_row_size count i b more, repeats_here, length_rows_of, rows_of_end ace_row_size i b)

    pub row_bad : (n : ℕ) → verdict (code_checks row (eqb i repeat)) ≡ Refuse n → tested n (i + 1) ≡ rows_tested [] rows
    row_bad n e = sym (decides ∙ rw (e, add-one))

    pub row_turn : verdict (code_checks row (eqb i repeat)) ≡ Pass → RowInv (i + 1)
    row_turn e =
        let alone = or_right (not (storable Aces row)) (eqb i repeat) (passed (code_checks row (eqb i repeat)) e 20) in
        rw (add-one i) (record { inside = more; tested = decides ∙ rw e; distinct = distinct_here ∙ rw (repeats_here, alone) (omega arith) })
