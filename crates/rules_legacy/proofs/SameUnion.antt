-- Theorem: for every sender, every resource and every clock, the rows made give the union that the old rows gave.
-- Row by row: a row made reaches the old set at every second, so only the subject is left; "*" has a row for each connection.
use Rattle.rows.proofs.Prelude.{◌≡◌, refl, sym, ap, ap₂, ◌∙◌, true, ◌&&◌, cond, and-true, or-false, List, [], ◌∷◌, ◌++◌, ℕ, ◌+◌, ◌/◌, ◌≤◌, ◌<◌, arith, length}
use Rattle.rows.proofs.Prelude.{length-take, eqb, bit_or, or_zero_r, le-leb, bool_cases}
use Rattle.rows.specs.Rows.{Row, same, union_of}
use Rattle.rows.proofs.Kept.{AllLong, long_rows_of}
use Rattle.rows.proofs.Union.{union_append}
use Rattle.rules.specs.Bits.{bit, bits, be16}
use Rattle.rules.specs.declared.Sender.{Sender}
use Rattle.rules.specs.declared.Sender.TheVariants.{Unauthenticated, Partner}
use Rattle.rules.specs.Bodies.{cred_subject, ace_connection, every_second}
use Rattle.rules.specs.Permission.{is_row, sender_row_in, connection_of, subject_is, subject_fits, resource_fits, in_force, row_fits, grants}
use Rattle.rules_legacy.specs.OldList.{old_subject, old_permission, in_old_set, is_anybody, old_fits, old_gives, old_rows, old_union}
use Rattle.rules_legacy.specs.OldList.{Standing, authenticated, anonymous}
use Rattle.rules_legacy.specs.Conversion.{uuid_entry, connection_subject, connection_entry, entries_of, all_entries, numbered_from, rows_made}
use Rattle.rules_legacy.proofs.BitParts.{bits_drop}
use Rattle.rules_legacy.proofs.Made.{Made, made}
use Rattle.rules_legacy.proofs.Numbered.{numbered_append}
use Rattle.rules.specs.Directory.{resource_of}

-- ---- the rows made of an old row

pub old_long : (f : List ℕ) → AllLong 25 (old_rows f)
unfolding old_rows
old_long f = long_rows_of 25 (length f / 25) f (omega arith)

module _ (i : ℕ) (o : Row) (long : length o ≡ 25) where
  pub made_uuid : Made 0 (old_subject o) o (be16 i ++ uuid_entry o)
  unfolding uuid_entry
  made_uuid = made i 0 (old_subject o) o (omega arith) long (length-take 16 o ∙ omega arith)

  pub made_connection : (c : ℕ) → Made 2 (connection_subject c) o (be16 i ++ connection_entry c o)
  unfolding connection_entry
  made_connection c = made i 2 (connection_subject c) o (omega arith) long refl

  -- its subject
  pub in_connection : (c s w v : ℕ) → bits (connection_subject c ++ every_second) s w ≡ v → bits (be16 i ++ connection_entry c o) (96 + s) w ≡ v
  in_connection c s w v e = sym (bits_drop 12 (be16 i ++ connection_entry c o) s w) ∙ ap (λ (r : List ℕ). bits r s w) (made_connection c).behind ∙ e

-- ---- what they give to a sender

pub standing : (ws : List Row) (s : Sender) → Standing (sender_row_in ws s) (connection_of s)
standing ws Unauthenticated = anonymous
standing ws (Partner m) = authenticated (sender_row_in ws (Partner m))

module _ {kind : ℕ} {subject : List ℕ} {o a : Row} (m : Made kind subject o a) where
  -- no wildcard
  pub resource_is : (n : ℕ) → n < 64 → resource_fits (resource_of n) a ≡ in_old_set o n
  unfolding resource_fits
  resource_is n inside = simp (m.set n inside, m.star, m.plus, m.minus, or-false)

  -- every second
  always : (clock : ℕ) → clock ≤ 4294967295 → in_force clock a ≡ true
  unfolding in_force
  always clock second = rw (m.first, m.last, le-leb 0 clock (omega arith), le-leb clock 4294967295 second)

module _ (clock n : ℕ) (second : clock ≤ 4294967295) (inside : n < 64) where
  module _ (w : Row) (c i : ℕ) (o : Row) (long : length o ≡ 25) where
    uuid_gives : grants clock w c (resource_of n) (be16 i ++ uuid_entry o) ≡ cond (is_row w && same (old_subject o) (cred_subject w) && in_old_set o n) (old_permission o) 0
    unfolding grants row_fits subject_fits subject_is
    uuid_gives =
        let m = made_uuid i o long in
        rw (m.kind_is, m.subject_is, resource_is m n inside, always m clock second, m.permission, and-true)

    connection_gives : (k : ℕ) → k < 2 → grants clock w c (resource_of n) (be16 i ++ connection_entry k o) ≡ cond (eqb k c && in_old_set o n) (old_permission o) 0
    unfolding grants row_fits subject_fits subject_is bits bit every_second
    connection_gives k h =
        let m = made_connection i o long k in
        let is : ace_connection (be16 i ++ connection_entry k o) ≡ k = in_connection i o long k 127 1 k (omega arith) in
        rw (m.kind_is, is, resource_is m n inside, always m clock second, m.permission, and-true)

  row_same : {w : Row} {c : ℕ} → Standing w c → (i : ℕ) (o : Row) → length o ≡ 25
      → union_of (grants clock w c (resource_of n)) (numbered_from i (entries_of o)) ≡ old_gives w c n o
  unfolding entries_of old_gives old_fits union_of numbered_from
  row_same (authenticated w) i o long =
      bool_cases (is_anybody o)
      (λ e. simp (e, connection_gives w 1 i o long 1 (omega arith), connection_gives w 1 (i + 1) o long 0 (omega arith), or_zero_r))
      (λ e. simp (e, uuid_gives w 1 i o long, or_zero_r))
  row_same anonymous i o long =
      bool_cases (is_anybody o)
      (λ e. simp (e, connection_gives [] 0 i o long 1 (omega arith), connection_gives [] 0 (i + 1) o long 0 (omega arith), or_zero_r))
      (λ e. simp (e, uuid_gives [] 0 i o long, or_zero_r))

  rows_same : {w : Row} {c : ℕ} → Standing w c → (i : ℕ) (os : List Row) → AllLong 25 os
      → union_of (grants clock w c (resource_of n)) (numbered_from i (all_entries os)) ≡ union_of (old_gives w c n) os
  unfolding all_entries numbered_from union_of
  rows_same st i [] long = refl
  rows_same st i (o ∷ os) long =
      rw (numbered_append i (entries_of o) (all_entries os), union_append)
      (ap₂ bit_or (row_same st i o long.0) (rows_same st (i + length (entries_of o)) os long.1))

  -- any credential row or none, over either connection; whatever the file
  pub same_union_of : {w : Row} {c : ℕ} → Standing w c → (f : List ℕ) → union_of (grants clock w c (resource_of n)) (rows_made f) ≡ old_union w c n f
  unfolding rows_made old_union
  same_union_of st f = rows_same st _ (old_rows f) (old_long f)

  -- every sender, whatever the credential rows
  pub same_union : (ws : List Row) (s : Sender) (f : List ℕ)
      → union_of (grants clock (sender_row_in ws s) (connection_of s) (resource_of n)) (rows_made f) ≡ old_union (sender_row_in ws s) (connection_of s) n f
  same_union ws s f = same_union_of (standing ws s) f
