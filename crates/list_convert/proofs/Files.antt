-- Walks over the rows of a file: the rows as they come, what they become, and the bytes of that.
use Rattle.rows.proofs.Prelude.{◌≡◌, refl, sym, ap, ◌∙◌, Bool, List, [], ◌∷◌, ◌++◌, ℕ, suc, ◌+◌, ◌/◌, ◌≤◌, ◌<◌, arith, length, take, drop}
use Rattle.rows.proofs.Prelude.{length-append, cond_cases}
use Rattle.std.specs.Prelude.{sum_by}
use Rattle.std.specs.List.{list_any}
use Rattle.std.specs.Slice.Iter.{chunks_exact_rest, chunks_exact_size, chunks_exact_steps}
use Rattle.std.specs.Iterator.{AlwaysYields}
use Rattle.std.specs.declared.slice.ChunksExact.{ChunksExact}
use Rattle.std.proofs.lemmas.Iterator.{YieldsList}
use Rattle.std.proofs.Math.Seq.{take-append_seam, drop-append_seam}
use Rattle.std.proofs.lemmas.List.Sums.{sum_by-cons}
use Rattle.text.proofs.Buffers.{Writing, writing_length}
use Rattle.rows.specs.Rows.{Row, rows_of, some, joined}
use Rattle.rows.proofs.Laws.{joined_append, length_rows_of}
use Rattle.rules_legacy.specs.OldList.{is_anybody, old_rows}
use Rattle.rules_legacy.specs.Conversion.{entries_of, all_entries, numbered_from}
use Rattle.rules_legacy.proofs.Numbered.{numbered_append}

-- ---- the rows, as `chunks_exact` gives them

first_row : (n k : ℕ) (row b : List ℕ) → length row ≡ n → rows_of n (suc k) (row ++ b) ≡ row ∷ rows_of n k b
unfolding rows_of
first_row n k row b l =
    let t = ap (λ (m : ℕ). take m (row ++ b)) (sym l) ∙ take-append_seam row b in
    let d = ap (λ (m : ℕ). drop m (row ++ b)) (sym l) ∙ drop-append_seam row b in
    rw (t, d)

pub row_comes : (b row rest : List ℕ) → b ≡ row ++ rest → length row ≡ 25 → old_rows b ≡ row ∷ old_rows rest
unfolding old_rows
row_comes b row rest e l =
    let n : length (row ++ rest) / 25 ≡ suc (length rest / 25) = omega (arith, length-append row rest) in
    rw (e, n) (first_row 25 (length rest / 25) row rest l)

pub none_comes : (b : List ℕ) → length b < 25 → old_rows b ≡ []
unfolding old_rows rows_of
none_comes b h = let n : length b / 25 ≡ 0 = omega arith in rw n

yields : (ys : List Row) (s : ChunksExact ℕ) → chunks_exact_size s ≡ 25 → old_rows (chunks_exact_rest s) ≡ ys → AlwaysYields chunks_exact_steps (λ x. x.now) s ys
yields [] s l e = λ x t h. let m = row_comes (chunks_exact_rest s) x.now (chunks_exact_rest t) h.1.0 (h.1.1 ∙ l) in cc
yields (y ∷ ys) s l e = (
  λ t h. let m = none_comes (chunks_exact_rest s) (omega arith) in cc,
  λ x t h. let m = row_comes (chunks_exact_rest s) x.now (chunks_exact_rest t) h.1.0 (h.1.1 ∙ l) in (cc, yields ys t (h.0 ∙ l) (cc)),
)

pub all_rows : {s : ChunksExact ℕ} (file : List ℕ) → chunks_exact_rest s ≡ file → chunks_exact_size s ≡ 25 → YieldsList chunks_exact_steps (λ x. x.now) s (old_rows file)
all_rows {s} file e l = record { runs = yields _ s l (ap old_rows e) }

-- what `any` asks of the rows is what `some` says
pub some_any : (passes : Row → Bool) (rows : List Row) → list_any passes rows ≡ some passes rows
unfolding some
some_any passes [] = refl
some_any passes (row ∷ rows) = rw (some_any passes rows)

-- ---- what the rows become

pub two_at_most : (o : Row) → length (entries_of o) ≤ 2
unfolding entries_of
two_at_most o = cond_cases (λ (es : List (List ℕ)). length es ≤ 2) (is_anybody o) (λ _. omega arith) (λ _. omega arith)

pub entries_more : (row : Row) (rows : List Row) → length (all_entries (row ∷ rows)) ≡ length (entries_of row) + length (all_entries rows)
unfolding all_entries
entries_more row rows = length-append (entries_of row) (all_entries rows)

pub summed : (rows : List Row) → sum_by (λ row. length (entries_of row)) rows ≡ length (all_entries rows)
unfolding all_entries
summed [] = refl
summed (row ∷ rows) = sum_by-cons _ row rows ∙ ap (λ (n : ℕ). length (entries_of row) + n) (summed rows) ∙ sym (entries_more row rows)

twice_at_most : (rows : List Row) → length (all_entries rows) ≤ length rows + length rows
unfolding all_entries
twice_at_most [] = omega arith
twice_at_most (row ∷ rows) = omega (arith, entries_more row rows, two_at_most row, twice_at_most rows)

pub few_made : (file : List ℕ) → sum_by (λ row. length (entries_of row)) (old_rows file) ≤ length file
unfolding old_rows
few_made file =
    omega (arith, summed (old_rows file), twice_at_most (old_rows file), length_rows_of 25 (length file / 25) file)

-- ---- their bytes

abbrev pub bytes_from : ℕ → List Row → List ℕ
bytes_from i rows = joined (numbered_from i (all_entries rows))

pub bytes_more : (i : ℕ) (row : Row) (rows : List Row)
    → bytes_from i (row ∷ rows) ≡ joined (numbered_from i (entries_of row)) ++ bytes_from (i + length (entries_of row)) rows
unfolding all_entries
bytes_more i row rows =
    ap joined (numbered_append i (entries_of row) (all_entries rows)) ∙ joined_append (numbered_from i (entries_of row)) _

pub bytes_end : (i : ℕ) → bytes_from i [] ≡ []
unfolding all_entries numbered_from joined
bytes_end i = refl

-- where all rows fit, those of the next old row do
pub made_fits : {o whole out : List ℕ} {p : ℕ} (i : ℕ) (row : Row) (rows : List Row) → Writing o 0 whole (bytes_from i (row ∷ rows)) out p → length whole ≤ length o
    → p + length (joined (numbered_from i (entries_of row))) ≤ length out
made_fits {o} {whole} i row rows w fits =
    let all : length w.done + length (bytes_from i (row ∷ rows)) ≡ length whole = sym (length-append w.done (bytes_from i (row ∷ rows))) ∙ ap length w.parts in
    let next = ap length (bytes_more i row rows) ∙ length-append (joined (numbered_from i (entries_of row))) _ in
    omega (arith, w.puts.next, w.bound, writing_length w)
