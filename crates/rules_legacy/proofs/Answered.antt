-- Theorems: each refusal exactly where it applies, what a refusal leaves, and what is given out with 0.
use Rattle.rows.proofs.Prelude.{◌≡◌, refl, false, cond, List, [], append-nil, ℕ, suc, ◌/◌, ◌≤◌, arith, length, le-ltb, bool_cases}
use Rattle.rows.specs.Rows.{joined}
use Rattle.rows.proofs.Kept.{rows_of_joined}
use Rattle.rules.specs.declared.Check.{Check}
use Rattle.rules.specs.declared.Check.TheVariants.{Pass, Refuse}
use Rattle.rules_lists.specs.Lists.{listed}
use Rattle.rules.specs.Reading.{filled}
use Rattle.rules.specs.Checks.{verdict, number_of}
use Rattle.rules_legacy.specs.OldList.{bad_file}
use Rattle.rules_legacy.specs.Conversion.{rows_made, too_many_rows, buffer_too_short, conversion_verdict, handed_out, conversion_reply, Converted}
use Rattle.rules_legacy.proofs.Stored.{made_rows_long, rows_size, few_rows}
use Rattle.rules.specs.declared.Table.TheVariants.{Aces}
use Rattle.rules.specs.Sizes.{ace_row_size}
use Rattle.rules.specs.Tables.{table_size}

module _ (f : List ℕ) (capacity : ℕ) where
  -- 23, then 24, then 25: the first that applies is given, and only then
  pub answer_is : number_of (conversion_verdict f capacity) ≡ cond (bad_file f) 23 (cond (too_many_rows f) 24 (cond (buffer_too_short f capacity) 25 0))
  unfolding conversion_verdict verdict
  answer_is =
      bool_cases (bad_file f) (λ a. rw a)
      (λ a. bool_cases (too_many_rows f) (λ b. rw (a, b)) (λ b. bool_cases (buffer_too_short f capacity) (λ c. rw (a, b, c)) (λ c. rw (a, b, c))))

  -- with 0 no check applies, and the rows are given out
  pub converted : number_of (conversion_verdict f capacity) ≡ 0 → Converted f capacity
  unfolding conversion_reply conversion_verdict verdict
  converted e =
      bool_cases (bad_file f) (λ a. absurd (omega (arith, rw a at e)))
      (λ a. bool_cases (too_many_rows f) (λ b. absurd (omega (arith, rw (a, b) at e)))
      (λ b. bool_cases (buffer_too_short f capacity) (λ c. absurd (omega (arith, rw (a, b, c) at e)))
      (λ c. record { good = a; few = b; fits = c; response = rw (a, b, c) })))

  -- any other answer hands nothing out
  pub refused_nothing : (n : ℕ) → number_of (conversion_verdict f capacity) ≡ suc n → conversion_reply f capacity ≡ []
  unfolding conversion_reply
  refused_nothing n = go (conversion_verdict f capacity)
    where
      go : (c : Check) → number_of c ≡ suc n → handed_out f c ≡ []
      go Pass e = absurd (omega arith)
      go (Refuse m) e = refl

-- and so leaves the caller's buffer as it was
pub refused_kept : (f buffer : List ℕ) (n : ℕ) → number_of (conversion_verdict f (length buffer)) ≡ suc n
    → filled buffer (conversion_reply f (length buffer)) ≡ buffer
unfolding filled
refused_kept f buffer n e = rw (refused_nothing f (length buffer) n e)

-- ---- the longest result

-- a buffer of 1,152 bytes never gets 25
pub never_25 : (f : List ℕ) (few : too_many_rows f ≡ false) (capacity : ℕ) → (table_size Aces) ≤ capacity → buffer_too_short f capacity ≡ false
unfolding buffer_too_short
never_25 f few capacity h = le-ltb capacity (length (joined (rows_made f))) (omega (arith, rows_size f, few_rows f few))

-- ---- the rows are read back

-- what is given out is a list of access rows, and those rows are the rows made
pub rows_listed : (f : List ℕ) → listed (joined (rows_made f)) ≡ rows_made f
rows_listed f =
    let n : length (joined (rows_made f)) / ace_row_size ≡ length (rows_made f) = omega (arith, rows_size f) in
    rw (n, ← append-nil (joined (rows_made f))) (rows_of_joined ace_row_size (rows_made f) [] (made_rows_long f))
