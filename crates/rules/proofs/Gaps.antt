-- Theorems, U4: after a DELETE each reported place holds another row number than before, 0 when unused, and no other place does.
-- No byte before the first place is another, nor one after the last, so that the old bytes with the places overwritten are the new ones.
-- Over the rows that go; of a record in Wear.antt. The bytes' lengths are those that the struct's types give.
use Rattle.rows.proofs.Prelude.{◌≡◌, refl, sym, ap, ◌∙◌, Bool, true, false, not, List, [], ◌∷◌, ℕ, ◌+◌, ◌-◌, ◌*◌, ◌≤◌, ◌<◌, mul-le-mul_right, suc-mul, arith}
use Rattle.rows.proofs.Prelude.{length, take, drop, take-append-drop, drop-drop, take-take, eqb, eq-eqb, not-true, bool_cases, contradiction, and_left}
use Rattle.rows.proofs.Prelude.{and_right}
use native.Mathlib.Nat.{add-mul}
use Rattle.rows.specs.Rows.{Row, packed, every, some, without, number_at, rows_before}
use Rattle.rows.proofs.Laws.{kept}
use Rattle.rows.proofs.Kept.{AllLong, every_long, every_without, length_without}
use Rattle.rows.proofs.Gap as gap
use Rattle.rules.specs.declared.Tables.{Tables}
use Rattle.rules.specs.declared.StoreRange.{StoreRange}
use Rattle.rules.specs.declared.Table.{Table}
use Rattle.rules.specs.declared.Table.TheVariants.{Creds, Aces}
use Rattle.rules.specs.Bits.{be16}
use Rattle.rules.specs.Bodies.{row_number, cred_storable, ace_storable}
use Rattle.rules.specs.Roles.{body_of}
use Rattle.rules.specs.Tables.{head_of, stride, capacity, storable, count, bytes, rows, with_rows, sound, table_size}
use Rattle.rules.specs.StoreRange.{gap_of}
use Rattle.rules.specs.Promises.Theorems.{overwritten}
use Rattle.rules.proofs.Answers.{table_parts, rows_are}
use Rattle.rules.proofs.BodyLaws.{sized, two_long}
use Rattle.rules.proofs.TableLaws.{table_is, few_rows}
use Rattle.rules.proofs.RoleLaws.{held_parts}
use Rattle.rules.proofs.OwnRow.{number_is}
use Rattle.rules.specs.Sizes.{cred_body_size}

-- ---- a row that a body could store has a number

pub has_number_lem : (k : Table) (w : Row) → storable k w ≡ true → take 2 w ≡ 0 ∷ 0 ∷ [] → ⊥
unfolding cred_storable ace_storable be16
has_number_lem Creds w h e =
    let s = (held_parts w h).body in
    let n : not (eqb (row_number (body_of w)) 0) ≡ true = search (and_left, and_right) in
    contradiction (eq-eqb (row_number (body_of w)) 0 (number_is (body_of w) 0 (omega arith) (take-take 2 cred_body_size w (omega arith) ∙ e))) (not-true _ n)
has_number_lem Aces w h e =
    let n : not (eqb (row_number w) 0) ≡ true = search (and_left, and_right) in
    contradiction (eq-eqb (row_number w) 0 (number_is w 0 (omega arith) e)) (not-true _ n)

numbered : (k : Table) (ws : List Row) → every (storable k) ws ≡ true → gap.Numbered ws
unfolding every
numbered k [] h = tt
numbered k (w ∷ ws) h =
    (has_number_lem k w (and_left (storable k w) (every (storable k) ws) h), numbered k ws (and_right (storable k w) (every (storable k) ws) h))

-- ---- in the tables

with_bytes_lem : (k : Table) (t : Tables) (ws : List Row) → bytes k (with_rows k t ws) ≡ packed (table_size k) ws
with_bytes_lem Creds t ws = refl
with_bytes_lem Aces t ws = refl

pub with_count : (k : Table) (t : Tables) (ws : List Row) → count k (head_of (with_rows k t ws)) ≡ length ws
with_count Creds t ws = refl
with_count Aces t ws = refl

slot_fits : (k : Table) (i : ℕ) → i < capacity k → i * stride k + stride k ≤ table_size k
slot_fits k i h = omega (arith, suc-mul i (stride k), mul-le-mul_right (stride k) h)

-- where no other byte changes, the old bytes with the places overwritten are the new ones
overwritten_is : (s : ℕ) (p : StoreRange) (old new : List ℕ)
    → take (p.first * s) new ≡ take (p.first * s) old
    → drop ((p.first + p.count) * s) new ≡ drop ((p.first + p.count) * s) old
    → overwritten s p old new ≡ new
unfolding overwritten
overwritten_is s p old new front rest =
    rw (← front, ← rest, add-mul, ← drop-drop (p.count * s) (p.first * s) new, take-append-drop, take-append-drop)

module _ (k : Table) (t : Tables) (goes : Row → Bool) (h : sound t ≡ true) (l : length (bytes k t) ≡ table_size k) where
  -- the tables without these rows
  abbrev after : Tables
  after = with_rows k t (without goes (rows k t))

  long : AllLong (stride k) (rows k t)
  long = every_long (stride k) (storable k) (sized k) (rows k t) (table_parts k t h).stores

  long' : AllLong (stride k) (without goes (rows k t))
  long' = every_long (stride k) (storable k) (sized k) (without goes (rows k t)) (every_without (storable k) goes (rows k t) (table_parts k t h).stores)

  stands : bytes k t ≡ packed (table_size k) (rows k t)
  stands = rw (l, ← rows_are k t h) at (kept (stride k) (count k (head_of t)) (bytes k t) (table_is k t h l))

  -- and after it
  stand : bytes k after ≡ packed (table_size k) (without goes (rows k t))
  stand = with_bytes_lem k t (without goes (rows k t))

  -- what is read of both
  as_packed : (f : List ℕ → List ℕ) → f (packed (table_size k) (without goes (rows k t))) ≡ f (packed (table_size k) (rows k t))
      → f (bytes k after) ≡ f (bytes k t)
  as_packed f e = ap f stand ∙ e ∙ ap f (sym stands)

  -- each reported place holds another row number than before
  pub rows_changed : (i : ℕ) → (gap_of goes (rows k t)).first ≤ i → i < (gap_of goes (rows k t)).first + (gap_of goes (rows k t)).count
      → number_at (stride k) i (bytes k after) ≡ number_at (stride k) i (bytes k t) → ⊥
  unfolding gap_of
  rows_changed i f m e =
      bool_cases (some goes (rows k t))
      (λ s.
      let first = rw s at f in
      let n : i < length (rows k t) = omega (arith, rw s at m, gap.before_all goes (rows k t)) in
      gap.gap_changed goes (stride k) (table_size k) (rows k t) (two_long k) long
      long' i (table_parts k t h).distinct (numbered k (rows k t) (table_parts k t h).stores)
      (slot_fits k i (omega (arith, few_rows k t h))) first n (ap (number_at (stride k) i) (sym stand) ∙ e ∙ ap (number_at (stride k) i) stands))
      (λ s. omega (arith, rw s at m))

  -- where no row goes, the bytes are the same
  none_same : some goes (rows k t) ≡ false → bytes k after ≡ bytes k t
  none_same e = stand ∙ ap (packed (table_size k)) (gap.none_goes goes (rows k t) e) ∙ sym stands

  -- no other place does: before the first
  pub numbers_before : (i : ℕ) → i < (gap_of goes (rows k t)).first → number_at (stride k) i (bytes k after) ≡ number_at (stride k) i (bytes k t)
  unfolding gap_of
  numbers_before i m =
      bool_cases (some goes (rows k t))
      (λ s. as_packed (number_at (stride k) i)
      (gap.gap_before goes (stride k) (table_size k) (rows k t) (two_long k) long long' i (gap.before_all goes (rows k t)) (rw s at m)))
      (λ s. absurd (omega (arith, rw s at m)))

  -- nor after the last
  pub numbers_after : (i : ℕ) → (gap_of goes (rows k t)).first + (gap_of goes (rows k t)).count ≤ i → i < capacity k
      → number_at (stride k) i (bytes k after) ≡ number_at (stride k) i (bytes k t)
  unfolding gap_of
  numbers_after i m c =
      bool_cases (some goes (rows k t))
      (λ s. as_packed (number_at (stride k) i)
      (gap.gap_after goes (stride k) (table_size k) (rows k t) (two_long k) long long' i
      (length_without goes (rows k t)) (omega (arith, rw s at m, gap.before_all goes (rows k t))) (slot_fits k i c)))
      (λ s. ap (number_at (stride k) i) (none_same s))

  -- an unused place has number 0
  pub numbers_unused : (i : ℕ) → count k (head_of after) ≤ i → i < capacity k → number_at (stride k) i (bytes k after) ≡ 0 ∷ 0 ∷ []
  numbers_unused i m c =
      rw stand
      (gap.number_unused (stride k) (table_size k) i (without goes (rows k t)) long' (two_long k)
      (omega (arith, with_count k t (without goes (rows k t)))) (slot_fits k i c))

  -- and no byte of a row before the first is written
  pub bytes_kept : take ((gap_of goes (rows k t)).first * stride k) (bytes k after) ≡ take ((gap_of goes (rows k t)).first * stride k) (bytes k t)
  unfolding gap_of
  bytes_kept =
      bool_cases (some goes (rows k t))
      (λ s. rw s (as_packed (take (rows_before goes (rows k t) * stride k))
      (gap.bytes_before goes (stride k) (table_size k) (rows k t) long long' (gap.before_all goes (rows k t)))))
      (λ s. rw (none_same s))

  -- nor a byte after the last
  pub bytes_rest :
      drop (((gap_of goes (rows k t)).first + (gap_of goes (rows k t)).count) * stride k) (bytes k after)
      ≡ drop (((gap_of goes (rows k t)).first + (gap_of goes (rows k t)).count) * stride k) (bytes k t)
  unfolding gap_of
  bytes_rest =
      bool_cases (some goes (rows k t))
      (λ s.
      let n = rows_before goes (rows k t) + (length (rows k t) - rows_before goes (rows k t)) in
      rw s (as_packed (drop (n * stride k))
      (gap.bytes_behind (stride k) (table_size k) n (without goes (rows k t)) long' (omega (arith, length_without goes (rows k t)))
      ∙ sym (gap.bytes_behind (stride k) (table_size k) n (rows k t) long (omega arith)))))
      (λ s. rw (none_same s))

  -- so storing the places leaves the new bytes
  pub bytes_stored : overwritten (stride k) (gap_of goes (rows k t)) (bytes k t) (bytes k after) ≡ bytes k after
  bytes_stored = overwritten_is (stride k) (gap_of goes (rows k t)) (bytes k t) (bytes k after) bytes_kept bytes_rest
