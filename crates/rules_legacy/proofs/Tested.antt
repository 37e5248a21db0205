-- Theorem: the test of a list (U10) never answers 19 or 20 on the rows made,
-- and 21 exactly where a "*" row gave create, update or delete on a security resource.
use Rattle.rows.proofs.Prelude.{◌≡◌, refl, sym, ap, ◌∙◌, true, false, not, ◌&&◌, cond, or-false, List, [], ◌∷◌, ◌++◌, ℕ, ◌+◌, ◌/◌, ◌%◌, arith, length, eqb}
use Rattle.rows.proofs.Prelude.{eq-eqb, eqb-false, eqb-true, le-ltb, cond_cases, bool_cases, contradiction, and_left, and_right, or_neither}
use mathlib.Core.Bool.{or-true, or_self}
use Rattle.rows.specs.Rows.{Row, some, every, joined}
use Rattle.rows.proofs.Laws.{every_append, some_append}
use Rattle.rows.proofs.Kept.{AllLong}
use Rattle.rows.proofs.Repeat.{none_before}
use Rattle.rules.specs.declared.Table.TheVariants.{Aces}
use Rattle.rules.specs.Bits.{be16}
use Rattle.rules.specs.Directory.{resource_of, some_security}
use Rattle.rules.specs.Tables.{storable, SoundRows}
use Rattle.rules.specs.Permission.{resource_fits}
use Rattle.rules.specs.Isolation.{alters, row_alters}
use Rattle.rules.proofs.BodyLaws.{security_number_lem}
use Rattle.rules.proofs.PermissionLaws.{security_same}
use Rattle.rules_lists.specs.Lists.{listed, bad_size, unfit, excessive, list_tested}
use Rattle.rules_lists.specs.Faults.{Behind, Fault, size, row, unstored, excess}
use Rattle.rules_lists.proofs.Exact.{accepted_faultless, any_fault}
use Rattle.rules_legacy.specs.OldList.{old_permission, in_old_set, is_anybody, old_rows, opens_security, bad_file}
use Rattle.rules_legacy.specs.Conversion.{uuid_entry, connection_entry, entries_of, all_entries, numbered_from, rows_made, too_many_rows}
use Rattle.rules_legacy.proofs.Numbered.{numbered_append}
use Rattle.rules_legacy.proofs.SameUnion.{old_long, made_uuid, made_connection, resource_is}
use Rattle.rules_legacy.proofs.Stored.{rows_size, few_rows, rows_sound_lem}
use Rattle.rules_legacy.proofs.Answered.{rows_listed}
use Rattle.rules.specs.Sizes.{ace_row_size}

-- ---- what the test says of a list whose rows an access list holds

module _ (b : List ℕ) (whole : bad_size b ≡ false) (sound : SoundRows Aces (listed b)) where
  -- no row is unfit
  none_unfit : (before : List Row) (w : Row) → Behind before w (listed b) → unfit before w ≡ false
  unfolding unfit every
  none_unfit before w s =
      let stores = sym (every_append (storable Aces) before (w ∷ s.after)) ∙ ap (every (storable Aces)) (sym s.stands) ∙ sound.stores in
      or_neither _ _
      (ap not (and_left (storable Aces w) _ (and_right (every (storable Aces) before) _ stores)))
      (none_before before w s.after (rw s.stands at sound.distinct))

  -- a row that gives too much is among them
  some_excessive : (before : List Row) (w : Row) → Behind before w (listed b) → excessive w ≡ true → some excessive (listed b) ≡ true
  unfolding some
  some_excessive before w s g = rw (s.stands, some_append excessive before (w ∷ s.after), g) (or-true (some excessive before))

  fault_is : (n m : ℕ) → Fault b n m → n ≡ cond (some excessive (listed b)) 21 0
  fault_is n m (size e) = contradiction e whole
  fault_is n m (row {before} {w} e s (unstored u)) = contradiction u (none_unfit before w s)
  fault_is n m (row {before} {w} e s (excess u g)) = rw (some_excessive before w s g)

  sound_tested : (list_tested b).answer ≡ cond (some excessive (listed b)) 21 0
  sound_tested =
      bool_cases (eqb (list_tested b).answer 0)
      (λ e. let z = eqb-true (list_tested b).answer 0 e in z ∙ rw (accepted_faultless b z).clean.modest)
      (λ e. fault_is (list_tested b).answer (list_tested b).row (any_fault b (eqb-false (list_tested b).answer 0 e)))

-- ---- which of the rows made give too much

module _ (i : ℕ) (o : Row) (long : length o ≡ 25) where
  uuid_modest : excessive (be16 i ++ uuid_entry o) ≡ false
  unfolding excessive
  uuid_modest = rw (made_uuid i o long).kind_is

  connection_excessive : (c : ℕ) → excessive (be16 i ++ connection_entry c o) ≡ (some_security (in_old_set o) && alters (old_permission o))
  unfolding excessive row_alters
  connection_excessive c =
      let m = made_connection i o long c in
      rw (
        m.kind_is,
        m.permission,
        security_same (λ n. resource_fits (resource_of n) (be16 i ++ connection_entry c o)) (in_old_set o) (λ n h. resource_is m n (omega (arith, security_number_lem n h))),
      )

entries_excessive : (i : ℕ) (o : Row) → length o ≡ 25 → some excessive (numbered_from i (entries_of o)) ≡ opens_security o
unfolding entries_of numbered_from some opens_security
entries_excessive i o long =
    cond_cases (λ (es : List (List ℕ)). some excessive (numbered_from i es) ≡ opens_security o) (is_anybody o)
    (λ e. simp (connection_excessive i o long 1, connection_excessive (i + 1) o long 0, e, or-false, or_self))
    (λ e. simp (uuid_modest i o long, e))

all_excessive : (i : ℕ) (os : List Row) → AllLong 25 os → some excessive (numbered_from i (all_entries os)) ≡ some opens_security os
unfolding all_entries numbered_from some
all_excessive i [] a = refl
all_excessive i (o ∷ os) a =
    rw (numbered_append i (entries_of o) (all_entries os), some_append, entries_excessive i o a.0, all_excessive (i + length (entries_of o)) os a.1)

-- ---- of a file

module _ (f : List ℕ) (good : bad_file f ≡ false) (few : too_many_rows f ≡ false) where
  rows_whole : bad_size (joined (rows_made f)) ≡ false
  unfolding bad_size
  rows_whole =
      let n = length (joined (rows_made f)) in
      or_neither _ _
      (ap not (eq-eqb (n % ace_row_size) 0 (omega (arith, rows_size f))))
      (le-ltb 32 (n / ace_row_size) (omega (arith, rows_size f, few_rows f few)))

  -- so never 19 or 20, and 21 exactly where a "*" row opened a security resource
  pub rows_tested_lem : (list_tested (joined (rows_made f))).answer ≡ cond (some opens_security (old_rows f)) 21 0
  unfolding rows_made
  rows_tested_lem =
      sound_tested (joined (rows_made f)) rows_whole (rw (rows_listed f) (rows_sound_lem f few good))
      ∙ rw (rows_listed f, all_excessive _ (old_rows f) (old_long f))
