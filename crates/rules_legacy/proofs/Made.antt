-- The fields of a row made of an old one, read as an access row has them.
use Rattle.rows.proofs.Prelude.{◌≡◌, refl, sym, ap, ◌∙◌, false, List, ◌++◌, ℕ, ◌+◌, ◌-◌, ◌*◌, ◌/◌, ◌%◌, ◌^◌, ◌≤◌, ◌<◌, arith, length, take, drop, length-append}
use Rattle.rows.proofs.Prelude.{length-drop, length-take, drop_at, drop-drop, take_at, eqb}
use Rattle.rows.specs.Rows.{Row}
use Rattle.rules.specs.Bits.{bit, bits, be16}
use Rattle.rules.specs.Bodies.{ace_kind, ace_permission, ace_plus, ace_minus, ace_star, in_set, ace_subject, ace_first, ace_last, every_second}
use Rattle.rules.proofs.BitLaws.{bits_in_byte, bits_small}
use Rattle.rules_legacy.specs.OldList.{old_permission, old_set, in_old_set}
use Rattle.rules_legacy.specs.Conversion.{entry}
use Rattle.rules_legacy.proofs.BitParts.{bit_drop, bits_drop, bit_take, bit_append}
use Rattle.rules.specs.Sizes.{ace_row_size}

-- the access row a was made of the old row o for a subject of this kind
pub record Made (kind : ℕ) (subject : List ℕ) (o a : Row) : Type 0 where
  pub long : length a ≡ ace_row_size
  pub kind_is : ace_kind a ≡ kind
  pub permission : ace_permission a ≡ old_permission o
  pub plus : ace_plus a ≡ false
  pub minus : ace_minus a ≡ false
  pub star : ace_star a ≡ false
  pub zeros : bits a 26 6 ≡ 0
  pub set : (n : ℕ) → n < 64 → in_set a n ≡ in_old_set o n
  pub subject_is : ace_subject a ≡ subject
  pub behind : drop 12 a ≡ subject ++ every_second
  pub first : ace_first a ≡ 0
  pub last : ace_last a ≡ 4294967295

module _ (i kind : ℕ) (subject : List ℕ) (o : Row) (small : kind < 4) (long : length o ≡ 25) (sized : length subject ≡ 16) where
  abbrev row : Row
  row = be16 i ++ entry kind subject o

  permission_small : old_permission o < 32
  permission_small = bits_small o 128 5

  set_long : length (old_set o) ≡ 8
  set_long = rw (length-take, length-drop, long)

  -- the third byte
  in_byte : (a w v : ℕ) → a + w ≤ 8 → (kind * 64 + old_permission o * 2) / 2 ^ (8 - (a + w)) % 2 ^ w ≡ v → bits row (16 + a) w ≡ v
  unfolding entry be16
  in_byte a w v h e = bits_in_byte row 2 a w h ∙ e

  kind_is_lem : ace_kind row ≡ kind
  kind_is_lem = in_byte 0 2 kind (omega arith) (omega (arith, permission_small))

  permission_is : ace_permission row ≡ old_permission o
  permission_is = in_byte 2 5 (old_permission o) (omega arith) (omega (arith, permission_small))

  no_plus : ace_plus row ≡ false
  no_plus = ap (λ (x : ℕ). eqb x 1) (in_byte 7 1 0 (omega arith) (omega (arith, permission_small)))

  from_set : drop 4 row ≡ old_set o ++ (subject ++ every_second)
  unfolding entry be16
  from_set = refl

  from_subject : drop 12 row ≡ subject ++ every_second
  from_subject = sym (drop-drop 8 4 row) ∙ ap (drop 8) from_set ∙ drop_at (old_set o) (subject ++ every_second) 8 set_long

  from_first : drop 28 row ≡ every_second
  from_first = sym (drop-drop 16 12 row) ∙ ap (drop 16) from_subject ∙ drop_at subject every_second 16 sized

  in_period_lem : (s w v : ℕ) → bits every_second s w ≡ v → bits row (224 + s) w ≡ v
  in_period_lem s w v e = sym (bits_drop 28 row s w) ∙ ap (λ (r : List ℕ). bits r s w) from_first ∙ e

  in_set_lem : (n : ℕ) → n < 64 → in_set row n ≡ in_old_set o n
  in_set_lem n h =
      ap (λ (x : ℕ). eqb x 1)
      (sym (bit_drop 4 row n)
      ∙ ap (λ (r : List ℕ). bit r n) from_set
      ∙ bit_append (old_set o) (subject ++ every_second) n (omega (arith, set_long))
      ∙ bit_take 8 (drop 17 o) n (omega arith)
      ∙ bit_drop 17 o n)

  pub made : Made kind subject o row
  unfolding entry be16 bits bit every_second
  made = record {
    long = simp length-append (omega (arith, set_long));
    kind_is = kind_is_lem;
    permission = permission_is;
    plus = no_plus;
    minus = refl;
    star = refl;
    zeros = refl;
    set = in_set_lem;
    subject_is = ap (take 16) from_subject ∙ take_at subject every_second 16 sized;
    behind = from_subject;
    first = in_period_lem 0 32 0 refl;
    last = in_period_lem 32 32 4294967295 refl;
  }
