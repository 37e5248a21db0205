-- What a verdict says of each check, and what soundness says of each part.
-- A permitted record passed every check: cited by number, so an added check moves nothing.
use Rattle.rows.proofs.Prelude.{◌≡◌, refl, ap, Bool, true, false, cond, List, [], ◌∷◌, ℕ, ◌*◌, ◌≤◌, min-eq_left, arith, length, drop, eqb, ltb, le-ltb}
use Rattle.rows.proofs.Prelude.{leb-true, ltb-false, cond_cases, and_left, and_right, or_left}
use Rattle.rows.proofs.Laws.{length_rows_of}
use Rattle.rows.specs.Rows.{rows_of, every, all_zero, distinct_numbers}
use Rattle.rules.specs.declared.Tables.{Tables}
use Rattle.rules.specs.declared.Table.{Table}
use Rattle.rules.specs.declared.Table.TheVariants.{Creds, Aces}
use Rattle.rules.specs.declared.Check.TheVariants.{Pass}
use Rattle.rules.specs.Record.{header_of, Request}
use Rattle.rules.specs.Reading.{reply_of, reads, reply_to, too_short}
use Rattle.rules.specs.Tables.{head_of, stride, capacity, storable, count, bytes, rows, rows_in, rows_sound, head_sound, sound}
use Rattle.rules.specs.Checks.{verdict, bad_length}
use Rattle.rules.proofs.CheckLaws.{pass_not_refuse}

-- the check with this number applies
abbrev pub applies_in : ℕ → List (ℕ × Bool) → Bool
applies_in n [] = false
applies_in n (e ∷ es) = cond (eqb e.0 n) e.1 (applies_in n es)

-- where the record passes, the check with a given number does not apply
pub passed : (es : List (ℕ × Bool)) → verdict es ≡ Pass → (n : ℕ) → applies_in n es ≡ false
unfolding verdict
passed [] p n = refl
passed ((m, true) ∷ es) p n = absurd (pass_not_refuse p refl)
passed ((m, false) ∷ es) p n = cond_cases (λ (b : Bool). b ≡ false) (eqb m n) (λ _. refl) (λ _. passed es p n)

pub long_enough : (r : List ℕ) → bad_length (length r) ≡ false → 4 ≤ length r
unfolding bad_length
long_enough r e = ltb-false (length r) 4 (or_left (ltb (length r) 4) (ltb 256 (length r)) e)

-- a reply of no bytes fits any buffer
pub no_reply_fits : (t : Tables) (q : Request) → reads (header_of q.bytes) ≡ false → too_short q.capacity (length (reply_of q.clock t q.bytes)) ≡ false
unfolding too_short reply_to
no_reply_fits t q e = rw e (le-ltb q.capacity 0 (omega arith))

-- the parts of soundness
pub record RowsSound (k : Table) (n : ℕ) (b : List ℕ) : Type 0 where
  pub few : n ≤ capacity k
  pub unused : all_zero (drop (n * stride k) b) ≡ true
  pub stores : every (storable k) (rows_in k n b) ≡ true
  pub distinct : distinct_numbers (rows_in k n b) ≡ true

pub rows_parts : (k : Table) (n : ℕ) (b : List ℕ) → rows_sound k n b ≡ true → RowsSound k n b
unfolding rows_sound
rows_parts k n b h = search (and_left, and_right, leb-true)

pub record Sound (t : Tables) : Type 0 where
  pub head : head_sound (head_of t) ≡ true
  pub creds : rows_sound Creds t.ncreds t.creds ≡ true
  pub aces : rows_sound Aces t.naces t.aces ≡ true

pub sound_parts : (t : Tables) → sound t ≡ true → Sound t
unfolding sound
sound_parts t h = search (and_left, and_right)

pub table_parts : (k : Table) (t : Tables) → sound t ≡ true → RowsSound k (count k (head_of t)) (bytes k t)
table_parts Creds t h = rows_parts Creds t.ncreds t.creds (sound_parts t h).creds
table_parts Aces t h = rows_parts Aces t.naces t.aces (sound_parts t h).aces

-- rows that there is room for are all the rows counted
pub rows_counted : (k : Table) (n : ℕ) (b : List ℕ) → n ≤ capacity k → rows_in k n b ≡ rows_of (stride k) n b
unfolding rows_in
rows_counted k n b h = ap (λ (m : ℕ). rows_of (stride k) m b) (min-eq_left h)

pub rows_are : (k : Table) (t : Tables) → sound t ≡ true → rows k t ≡ rows_of (stride k) (count k (head_of t)) (bytes k t)
rows_are k t h = rows_counted k (count k (head_of t)) (bytes k t) (table_parts k t h).few

pub rows_count : (k : Table) (t : Tables) → sound t ≡ true → length (rows k t) ≡ count k (head_of t)
rows_count k t h = rw (rows_are k t h, length_rows_of)
