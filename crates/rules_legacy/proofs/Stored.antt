-- Theorems: the rows made of a good file are rows that a body could store, of 36 bytes each, numbered 1, 2, .., so that an access list holds them.
use Rattle.rows.proofs.Prelude.{◌≡◌, refl, sym, ap, ◌∙◌, true, false, not, ◌&&◌, List, [], ◌∷◌, ◌++◌, map, ℕ, zero, suc, ◌+◌, ◌*◌, ◌%◌, ◌≤◌, ◌<◌, arith, length}
use Rattle.rows.proofs.Prelude.{length-append, eqb, eq-eqb, ltb-false, ne_eqb, cond_cases, bool_cases, and_both, or_left, or_right}
use Rattle.rows.specs.Rows.{Row, all_zero, some, every, distinct_numbers, joined, stored_all}
use Rattle.rows.proofs.Laws.{every_append}
use Rattle.rows.proofs.Kept.{AllLong, length_joined}
use Rattle.rows.proofs.Restore.{restored}
use Rattle.rules.specs.declared.Table.TheVariants.{Aces}
use Rattle.rules.specs.Bits.{bit, bits, be16}
use Rattle.rules.specs.Directory.{known, some_below}
use Rattle.rules.specs.Bodies.{row_number, in_set, set_known, every_second, subject_storable, ace_storable}
use Rattle.rules.specs.Tables.{capacity, SoundRows, each_long}
use Rattle.rules_legacy.specs.OldList.{old_zeros, in_old_set, is_anybody, old_rows, bad_row, bad_file}
use Rattle.rules_legacy.specs.Conversion.{uuid_entry, connection_subject, connection_entry, entries_of, all_entries, numbered_from, rows_made, too_many_rows}
use Rattle.rules_legacy.specs.Conversion.{numbers_from}
use Rattle.rules_legacy.proofs.Made.{Made}
use Rattle.rules_legacy.proofs.Numbered.{numbered_length, numbered_append, number_is, numbers_are, numbers_distinct}
use Rattle.rules_legacy.proofs.SameUnion.{old_long, made_uuid, made_connection, in_connection}
use Rattle.rules.specs.Sizes.{ace_row_size}

-- ---- 36 bytes

long_append : (s : ℕ) (ws vs : List Row) → AllLong s ws → AllLong s vs → AllLong s (ws ++ vs)
long_append s [] vs a b = b
long_append s (w ∷ ws) vs a b = (a.0, long_append s ws vs a.1 b)

made_long : (i : ℕ) (o : Row) → length o ≡ 25 → AllLong ace_row_size (numbered_from i (entries_of o))
unfolding entries_of numbered_from
made_long i o long =
    cond_cases (λ (es : List (List ℕ)). AllLong ace_row_size (numbered_from i es)) (is_anybody o)
    (λ _. ((made_connection i o long _).long, ((made_connection (i + 1) o long _).long, tt)))
    (λ _. ((made_uuid i o long).long, tt))

all_long : (i : ℕ) (os : List Row) → AllLong 25 os → AllLong ace_row_size (numbered_from i (all_entries os))
unfolding all_entries numbered_from
all_long i [] a = tt
all_long i (o ∷ os) a =
    rw (numbered_append i (entries_of o) (all_entries os))
    (long_append ace_row_size (numbered_from i (entries_of o)) _ (made_long i o a.0) (all_long (i + length (entries_of o)) os a.1))

-- ---- storable

-- a row whose set is the old one
pub set_known_lem : (o a : Row) → ((n : ℕ) → n < 64 → in_set a n ≡ in_old_set o n)
    → (n : ℕ) → n ≤ 64 → set_known a n ≡ not (some_below n (λ m. in_old_set o m && not (known m)))
unfolding set_known
set_known_lem o a s zero h = refl
set_known_lem o a s (suc n) h =
    rw (s n (omega arith), set_known_lem o a s n (omega arith))
    (bool_cases (in_old_set o n) (λ x. rw x (bool_cases (known n) (λ k. rw k) (λ k. rw k))) (λ x. rw x))

module _ {kind : ℕ} {subject : List ℕ} {o a : Row} (m : Made kind subject o a) where
  made_storable : (i : ℕ) → row_number a ≡ i → 0 < i → bad_row o ≡ false → subject_storable a ≡ true → ace_storable a ≡ true
  unfolding ace_storable bad_row
  made_storable i e h good s =
      rw (
        m.long,
        e,
        ne_eqb i 0 (λ q. absurd (omega arith)),
        m.zeros,
        set_known_lem o a m.set 64 (omega arith),
        or_right (not (eqb (old_zeros o) 0)) _ good,
        s,
        m.first,
        m.last,
      )

module _ (i : ℕ) (o : Row) (long : length o ≡ 25) (h : 0 < i) (k : i < 65536) (good : bad_row o ≡ false) where
  uuid_storable : is_anybody o ≡ false → ace_storable (be16 i ++ uuid_entry o) ≡ true
  unfolding subject_storable is_anybody
  uuid_storable e =
      let m = made_uuid i o long in
      made_storable m i (number_is i (uuid_entry o) k) h good (rw (m.kind_is, m.subject_is, e))

  connection_storable : (c : ℕ) → bits (connection_subject c ++ every_second) 120 7 ≡ 0 → ace_storable (be16 i ++ connection_entry c o) ≡ true
  unfolding subject_storable all_zero
  connection_storable c e =
      let m = made_connection i o long c in
      made_storable m i (number_is i (connection_entry c o) k) h good (rw (m.kind_is, m.subject_is, in_connection i o long c 120 7 0 e))

entries_storable : (i : ℕ) (o : Row) → length o ≡ 25 → 0 < i → i + length (entries_of o) ≤ 65536 → bad_row o ≡ false
    → every ace_storable (numbered_from i (entries_of o)) ≡ true
unfolding entries_of numbered_from every bits bit every_second
entries_storable i o long h k good =
    cond_cases (λ (es : List (List ℕ)). i + length es ≤ 65536 → every ace_storable (numbered_from i es) ≡ true) (is_anybody o)
    (λ e l.
    simp (
      connection_storable i o long h (omega arith) good 1 refl,
      connection_storable (i + 1) o long (omega arith) (omega arith) good 0 refl,
    ))
    (λ e l. simp (uuid_storable i o long h (omega arith) good e)) k

all_storable : (i : ℕ) (os : List Row) → AllLong 25 os → 0 < i → i + length (all_entries os) ≤ 65536 → some bad_row os ≡ false
    → every ace_storable (numbered_from i (all_entries os)) ≡ true
unfolding all_entries numbered_from every some
all_storable i [] a h k good = refl
all_storable i (o ∷ os) a h k good =
    let l = length-append (entries_of o) (all_entries os) in
    rw (numbered_append i (entries_of o) (all_entries os), every_append)
    (and_both _ _
    (entries_storable i o a.0 h (omega arith) (or_left (bad_row o) (some bad_row os) good))
    (all_storable (i + length (entries_of o)) os a.1 (omega arith) (omega arith) (or_right (bad_row o) (some bad_row os) good)))

-- ---- of a file

-- by a test of each
long_each : (s : ℕ) (ws : List Row) → AllLong s ws → each_long s ws ≡ true
unfolding each_long every
long_each s [] a = refl
long_each s (w ∷ ws) a = and_both _ _ (eq-eqb (length w) s a.0) (long_each s ws a.1)

module _ (f : List ℕ) where
  pub made_rows_long : AllLong ace_row_size (rows_made f)
  unfolding rows_made
  made_rows_long = all_long _ (old_rows f) (old_long f)

  pub rows_long : each_long ace_row_size (rows_made f) ≡ true
  rows_long = long_each ace_row_size (rows_made f) made_rows_long

  pub rows_count : length (rows_made f) ≡ length (all_entries (old_rows f))
  unfolding rows_made
  rows_count = numbered_length _ (all_entries (old_rows f))

  pub rows_size : length (joined (rows_made f)) ≡ length (rows_made f) * ace_row_size
  rows_size = length_joined ace_row_size (rows_made f) made_rows_long

  -- no number occurs twice
  pub rows_distinct : distinct_numbers (rows_made f) ≡ true
  unfolding rows_made
  rows_distinct = numbers_distinct _ (all_entries (old_rows f))

  -- so, stored one after the other in an empty list, they are its rows
  pub rows_restored : stored_all (rows_made f) [] ≡ rows_made f
  rows_restored = restored (rows_made f) rows_distinct

  module _ (few : too_many_rows f ≡ false) where
    pub few_rows : length (rows_made f) ≤ capacity Aces
    unfolding too_many_rows
    few_rows = ltb-false (capacity Aces) (length (rows_made f)) few

    few_entries : 1 + length (all_entries (old_rows f)) ≤ 65536
    few_entries = omega (arith, few_rows, rows_count)

    -- they are the numbers from 1 on
    pub rows_numbered : map row_number (rows_made f) ≡ numbers_from 1 (length (rows_made f))
    unfolding rows_made
    rows_numbered = numbers_are _ (all_entries (old_rows f)) few_entries ∙ ap (numbers_from 1) (sym rows_count)

    -- each is a row that a body could store, and an access list has room for them
    pub rows_sound_lem : bad_file f ≡ false → SoundRows Aces (rows_made f)
    unfolding rows_made bad_file
    rows_sound_lem good = record {
      few = few_rows;
      stores = all_storable _ (old_rows f) (old_long f) (omega arith) few_entries (or_right (not (eqb (length f % 25) 0)) _ good);
      distinct = rows_distinct;
    }
