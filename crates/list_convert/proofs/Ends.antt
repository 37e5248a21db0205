-- What the entry point ends with: a refusal for each check, or the rows.
use Rattle.rows.proofs.Prelude.{◌≡◌, ◌∙◌, true, false, List, ℕ, ◌*◌, ◌≤◌, ◌<◌, arith, length, le-ltb, lt-ltb}
use Rattle.text.specs.Buffer.{Puts}
use Rattle.text.proofs.Buffers.{written_start}
use Rattle.rows.specs.Rows.{joined}
use Rattle.rules.specs.Reading.{filled}
use Rattle.rules.specs.Checks.{verdict, number_of}
use Rattle.rules_legacy.specs.OldList.{bad_file}
use Rattle.rules_legacy.specs.Conversion.{rows_made, too_many_rows, buffer_too_short, conversion_verdict, conversion_reply}
use Rattle.rules_legacy.proofs.Stored.{rows_size}
use Rattle.rules.specs.Sizes.{ace_row_size}

abbrev reply : List ℕ → List ℕ → List ℕ
reply f o = conversion_reply f (length o)

-- the file f, the buffer o before and o' after, and the result
abbrev pub Ends : List ℕ → List ℕ → List ℕ → ℕ → ℕ → Type 0
Ends f o o' answer n = record {
  answer : answer ≡ number_of (conversion_verdict f (length o));
  length : n ≡ length (reply f o);
  buffer : o' ≡ filled o (reply f o);
}

module _ (f o : List ℕ) where
  pub bad_file_lem : bad_file f ≡ true → Ends f o o 23 0
  unfolding conversion_reply conversion_verdict verdict filled
  bad_file_lem e = record { answer = rw e; length = rw e; buffer = rw e }

  module _ (good : bad_file f ≡ false) (made : ℕ) (counted : made ≡ length (rows_made f)) where
    pub too_many : 32 < made → Ends f o o 24 0
    unfolding conversion_reply conversion_verdict verdict filled too_many_rows
    too_many h = let l = lt-ltb 32 (length (rows_made f)) (omega arith) in record { answer = rw (good, l); length = rw (good, l); buffer = rw (good, l) }

    module _ (few : made ≤ 32) where
      pub too_short : length o < made * ace_row_size → Ends f o o 25 0
      unfolding conversion_reply conversion_verdict verdict filled too_many_rows buffer_too_short
      too_short h =
          let l = le-ltb 32 (length (rows_made f)) (omega arith) in
          let s = lt-ltb (length o) (length (joined (rows_made f))) (omega (arith, rows_size f)) in
          record { answer = rw (good, l, s); length = rw (good, l, s); buffer = rw (good, l, s) }

      pub all_put : {o' : List ℕ} (r : ℕ) → made * ace_row_size ≤ length o → Puts o 0 (joined (rows_made f)) o' r → Ends f o o' 0 r
      unfolding conversion_reply conversion_verdict verdict filled too_many_rows buffer_too_short
      all_put r h p =
          let l = le-ltb 32 (length (rows_made f)) (omega arith) in
          let fits : length (joined (rows_made f)) ≤ length o = omega (arith, rows_size f) in
          let s = le-ltb (length o) (length (joined (rows_made f))) fits in
          let n : r ≡ length (joined (rows_made f)) = omega (arith, p.next, rows_size f) in
          record { answer = rw (good, l, s); length = rw (good, l, s) n; buffer = rw (good, l, s) (p.buffer ∙ written_start o (joined (rows_made f)) fits) }
