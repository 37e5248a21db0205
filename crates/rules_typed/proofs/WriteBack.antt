-- What is read of a row, written, is the row: nothing is lost.
use Rattle.rows.proofs.Prelude.{◌≡◌, refl, sym, ap, ap₂, ◌∙◌, true, not, ◌||◌, List, [], ◌∷◌, ◌++◌, ℕ, zero, suc, ◌+◌, ◌*◌, ◌/◌, ◌%◌, ◌≤◌, ◌<◌, arith, length}
use Rattle.rows.proofs.Prelude.{take, drop, eqb, bool_cases, contradiction, and_left, and_right, or_not_left, drop-cons, drop-drop, take_all, take-take}
use Rattle.rows.proofs.Prelude.{replicate, add_assoc, eqb-true, eqb-false, length-take-le, length-drop, not-true, or-false, Bool, false}
use lib.Seq.{take-add}
use Rattle.rows.specs.Rows.{Row, all_zero}
use Rattle.rows.proofs.Laws.{zeros_replicate}
use Rattle.rules.specs.Bits.{bit, bits, be16}
use Rattle.rules.specs.Bodies.{row_number, cred_subject, cred_role, cred_authority, cred_type, cred_storable, ace_kind, ace_permission, ace_subject, ace_authority}
use Rattle.rules.specs.Bodies.{ace_role, ace_connection, ace_storable, subject_storable, set_known, in_set as inSetBytes}
use Rattle.rules.specs.Roles.{body_of, cred_sound}
use Rattle.rules.proofs.BitLaws.{bits_split, bits_byte, bits_small, bit_small}
use Rattle.rules.proofs.RecordLaws.{key_is}
use Rattle.rules_typed.specs.Reading.{connection_as, role_of, asserted_of, credential_as, subject_of, access_of}
use Rattle.rules_typed.specs.Tables.{is_bytes}
use Rattle.rules_typed.specs.Writing.{flag, be32, connection_number, role_bytes, credential_bytes, asserted_bytes, kind_number, subject_bytes, set_bytes}
use Rattle.rules_typed.specs.Writing.{access_bytes, in_set, bits_from}
use Rattle.rules.specs.Sizes.{cred_body_size}
use Rattle.rules.proofs.RoleLaws.{held_parts}
use Rattle.rules_typed.proofs.ByteLaws.{Good, byte_at, bytes_take, bits_take, part_within}
use Rattle.rules.specs.Directory.{known as knownNumber}
use Rattle.rules_typed.proofs.DirectoryRead.{Found, known, unknown, found, resource_read}
use Rattle.rules_typed.specs.Directory.{number_of}
use Rattle.rules_typed.specs.Types.{Resource}

-- ---- bytes by their fields

-- n bytes from i on
unfoldable pub bytes_at : List ℕ → ℕ → ℕ → List ℕ
bytes_at w i zero = []
bytes_at w i (suc n) = bits w (8 * i) 8 ∷ bytes_at w (suc i) n

module _ (w : List ℕ) (h : is_bytes w ≡ true) where
  pub piece : (n i : ℕ) → i + n ≤ length w → take n (drop i w) ≡ bytes_at w i n
  unfolding bytes_at
  piece zero i l = refl
  piece (suc n) i l =
      ap (take (suc n)) (drop-cons w i 0 (omega arith))
      ∙ ap₂ (λ (x : ℕ) (xs : List ℕ). x ∷ xs) (sym (bits_byte w i (byte_at w h i))) (piece n (suc i) (omega arith))

  pub two_at : (i : ℕ) → i + 2 ≤ length w → be16 (bits w (8 * i) 16) ≡ take 2 (drop i w)
  two_at i l = key_is w i l (byte_at w h i) (byte_at w h (i + 1))

  pub four_at : (i : ℕ) → i + 4 ≤ length w → be32 (bits w (8 * i) 32) ≡ take 2 (drop i w) ++ take 2 (drop (i + 2) w)
  unfolding be32
  four_at i l =
      let e = bits_split w (8 * i) 16 16 in
      let next : 8 * i + 16 ≡ 8 * (i + 2) = omega arith in
      let high : bits w (8 * i) 32 / 65536 ≡ bits w (8 * i) 16 = omega (arith, e, bits_small w (8 * i + 16) 16) in
      let low : bits w (8 * i) 32 % 65536 ≡ bits w (8 * i + 16) 16 = omega (arith, e, bits_small w (8 * i + 16) 16) in
      ap₂ (λ (x y : ℕ). be16 x ++ be16 y) high (low ∙ ap (λ (k : ℕ). bits w k 16) next)
      ∙ ap₂ (λ (x y : List ℕ). x ++ y) (two_at i (omega arith)) (two_at (i + 2) (omega arith))

-- ---- an asserted role, 8 bytes

pub asserted_back : (p : Row) → is_bytes p ≡ true → length p ≡ 8 → asserted_bytes (asserted_of p) ≡ p
unfolding asserted_bytes bytes_at
asserted_back p h l =
    rw (
      two_at p h 0 (omega arith),
      two_at p h 2 (omega arith),
      four_at p h 4 (omega arith),
      piece p h 2 0 (omega arith),
      piece p h 2 2 (omega arith),
      piece p h 2 4 (omega arith),
      piece p h 2 6 (omega arith),
    )
    (sym (sym (take_all 8 p (omega arith)) ∙ piece p h 8 0 (omega arith)))

-- ---- a credential, 23 bytes

role_back : (role authority : ℕ) → (not (eqb role 0) || eqb authority 0) ≡ true → role_bytes (role_of role authority) ≡ be16 role ++ be16 authority
unfolding role_of be16
role_back role authority e =
    bool_cases (eqb role 0)
    (λ z. let r : role ≡ 0 = eqb-true role 0 z in let a : authority ≡ 0 = eqb-true authority 0 (or_not_left (not (eqb role 0)) _ e (ap not z)) in rw (z, r, a))
    (λ z. rw z)

pub body_back : (v : Row) → is_bytes v ≡ true → cred_storable v ≡ true
    → be16 (row_number v) ++ (cred_subject v ++ (role_bytes (role_of (cred_role v) (cred_authority v)) ++ (cred_type v * 4 ∷ []))) ≡ v
unfolding cred_storable bytes_at
body_back v h e =
    let l : length v ≡ 23 = eqb-true (length v) 23 (search (and_left, and_right)) in
    let owned : (not (eqb (cred_role v) 0) || eqb (cred_authority v) 0) ≡ true = search (and_left, and_right) in
    let zeros : bits v 182 2 ≡ 0 = eqb-true (bits v 182 2) 0 (search (and_left, and_right)) in
    let type : cred_type v * 4 ≡ bits v 176 8 = omega (arith, bits_split v 176 6 2, zeros) in
    rw (
      role_back (cred_role v) (cred_authority v) owned,
      type,
      two_at v h 0 (omega arith),
      two_at v h 18 (omega arith),
      two_at v h 20 (omega arith),
      piece v h 2 0 (omega arith),
      piece v h 16 2 (omega arith),
      piece v h 2 18 (omega arith),
      piece v h 2 20 (omega arith),
    )
    (sym (sym (take_all 23 v (omega arith)) ∙ piece v h 23 0 (omega arith)))

-- the row's body, without what is asserted
pub credential_back : (w : Row) → Good cred_sound w → credential_bytes (credential_as w) ≡ body_of w
unfolding credential_bytes
credential_back w g =
    let b = (held_parts w g.0).body in
    rw (
      ← bits_take cred_body_size w 0 16 (omega arith),
      ← part_within 2 16 cred_body_size w (omega arith),
      ← bits_take cred_body_size w 144 16 (omega arith),
      ← bits_take cred_body_size w 160 16 (omega arith),
      ← bits_take cred_body_size w 176 6 (omega arith),
    )
    (body_back (body_of w) (bytes_take cred_body_size w g.1) b)

-- ---- an access row, 36 bytes

pub flag_back : (x : ℕ) → x < 2 → flag (eqb x 1) ≡ x
flag_back x h = bool_cases (eqb x 1) (λ e. rw e (sym (eqb-true x 1 e))) (λ e. rw e (omega (arith, eqb-false x 1 e)))

-- the set of resources: of a known number its bit, of an unknown one 0
set_known_lem : (w : Row) (m n : ℕ) → n < m → set_known w m ≡ true → (not (inSetBytes w n) || knownNumber n) ≡ true
unfolding set_known
set_known_lem w zero n l h = absurd (omega arith)
set_known_lem w (suc m) n l h =
    bool_cases (eqb n m)
    (λ e. let z : n ≡ m = eqb-true n m e in rw z (and_left _ _ h))
    (λ e. set_known_lem w m n (omega (arith, eqb-false n m e)) (and_right (not (inSetBytes w m) || knownNumber m) _ h))

abbrev set_of : Row → Resource → Bool
set_of w = (access_of w).resources

module _ (w : Row) (k : set_known w 64 ≡ true) where
  number_back : (n : ℕ) → Found n → (not (inSetBytes w n) || knownNumber n) ≡ true → flag (in_set (set_of w) n) ≡ bit w (32 + n)
  unfolding in_set
  number_back n (known e) h = rw (resource_read e) (flag_back (bit w (32 + number_of e)) (bit_small w (32 + number_of e)))
  number_back n (unknown u v) h =
      let zero_bit : eqb (bit w (32 + n)) 1 ≡ false = not-true _ (rw (u, or-false) at h) in
      rw v (omega (arith, eqb-false (bit w (32 + n)) 1 zero_bit, bit_small w (32 + n)))

  set_back : (s n : ℕ) → s + n ≤ 64 → bits_from (set_of w) s n ≡ bits w (32 + s) n
  unfolding bits_from bits
  set_back s zero l = refl
  set_back s (suc n) l =
      ap₂ (λ (x y : ℕ). x * 2 + y) (set_back s n (omega arith))
      (number_back (s + n) (found (s + n)) (set_known_lem w 64 (s + n) (omega arith) k) ∙ ap (bit w) (sym (add_assoc 32 s n)))

-- a subject, by its kind
record SubjectBack (w : Row) : Type 0 where
  kind : kind_number (subject_of w) ≡ ace_kind w
  bytes : subject_bytes (subject_of w) ≡ ace_subject w

pub connection_back : (c : ℕ) → c < 2 → connection_number (connection_as c) ≡ c
unfolding connection_as
connection_back c h = bool_cases (eqb c 1) (λ e. rw e (sym (eqb-true c 1 e))) (λ e. rw e (omega (arith, eqb-false c 1 e)))

zeros_at : (n : ℕ) (x : List ℕ) → n ≤ length x → all_zero (take n x) ≡ true → take n x ≡ replicate n 0
zeros_at n x h z = zeros_replicate (take n x) z ∙ ap (λ (k : ℕ). replicate k 0) (length-take-le n x h)

module _ (w : Row) (h : is_bytes w ≡ true) (l : length w ≡ 36) where
  abbrev x : List ℕ
  x = drop 12 w

  x_long : length x ≡ 24
  x_long = rw length-drop (omega arith)

  role_subject_lem : all_zero (take 12 (ace_subject w)) ≡ true → replicate 12 0 ++ (be16 (ace_authority w) ++ be16 (ace_role w)) ≡ ace_subject w
  role_subject_lem z =
      let twelve = zeros_at 12 x (omega (arith, x_long)) (rw (take-take 12 16 x (omega arith)) at z) in
      ap₂ (λ (a b : List ℕ). a ++ b) (sym twelve) (ap₂ (λ (a b : List ℕ). a ++ b) (two_at w h 24 (omega arith)) (two_at w h 26 (omega arith)))
      ∙ sym (take-add 12 4 x ∙ ap (λ (y : List ℕ). take 12 x ++ y) (ap (take 4) (drop-drop 12 12 w) ∙ take-add 2 2 (drop 24 w)
      ∙ ap (λ (y : List ℕ). take 2 (drop 24 w) ++ take 2 y) (drop-drop 2 24 w)))

  connection_subject_lem : all_zero (take 15 (ace_subject w)) ≡ true → bits w 216 7 ≡ 0
      → replicate 15 0 ++ (connection_number (connection_as (ace_connection w)) ∷ []) ≡ ace_subject w
  unfolding bytes_at
  connection_subject_lem z y =
      let fifteen = zeros_at 15 x (omega (arith, x_long)) (rw (take-take 15 16 x (omega arith)) at z) in
      let last : ace_connection w ≡ bits w 216 8 = omega (arith, bits_split w 216 7 1, y) in
      ap₂ (λ (a : List ℕ) (b : ℕ). a ++ (b ∷ [])) (sym fifteen) (connection_back (ace_connection w) (bits_small w 223 1) ∙ last)
      ∙ sym (take-add 15 1 x ∙ ap (λ (y : List ℕ). take 15 x ++ y) (ap (take 1) (drop-drop 15 12 w) ∙ piece w h 1 27 (omega arith)))

  subject_back : subject_storable w ≡ true → SubjectBack w
  unfolding subject_of subject_storable
  subject_back k =
      bool_cases (eqb (ace_kind w) 0) (λ e. record { kind = rw e (sym (eqb-true (ace_kind w) 0 e)); bytes = rw e })
      (λ e. bool_cases (eqb (ace_kind w) 1)
      (λ f. record {
        kind = rw (e, f) (sym (eqb-true (ace_kind w) 1 f));
        bytes = rw (e, f)
            (role_subject_lem (and_left _ (not (eqb (ace_role w) 0)) (rw (e, f) at k)));
      })
      (λ f. bool_cases (eqb (ace_kind w) 2)
      (λ g. record {
        kind = rw (e, f) (sym (eqb-true (ace_kind w) 2 g));
        bytes = rw (e, f) (connection_subject_lem (and_left _ (eqb (bits w 216 7) 0) (rw (e, f, g) at k))
            (eqb-true (bits w 216 7) 0 (and_right (all_zero (take 15 (ace_subject w))) _ (rw (e, f, g) at k))));
      })
      (λ g. contradiction (rw (e, f, g) at k) refl)))

pub access_back : (w : Row) → Good ace_storable w → access_bytes (access_of w) ≡ w
unfolding access_bytes set_bytes ace_storable bytes_at
access_back w (e, h) =
    let l : length w ≡ 36 = eqb-true (length w) 36 (search (and_left, and_right)) in
    let k : subject_storable w ≡ true = search (and_left, and_right) in
    let zeros : bits w 26 6 ≡ 0 = eqb-true (bits w 26 6) 0 (search (and_left, and_right)) in
    let n : set_known w 64 ≡ true = search (and_left, and_right) in
    let s = subject_back w h l k in
    let second : ace_kind w * 64 + ace_permission w * 2 + bits w 23 1 ≡ bits w 16 8 = omega (arith, bits_split w 16 2 6, bits_split w 18 5 1) in
    let third : bits w 24 1 * 128 + bits w 25 1 * 64 ≡ bits w 24 8 = omega (arith, bits_split w 24 1 7, bits_split w 25 1 6, zeros) in
    rw (
      s.kind,
      s.bytes,
      flag_back (bits w 23 1) (bits_small w 23 1),
      flag_back (bits w 24 1) (bits_small w 24 1),
      flag_back (bits w 25 1) (bits_small w 25 1),
      second,
      third,
      set_back w n 0 8 (omega arith),
      set_back w n 8 8 (omega arith),
      set_back w n 16 8 (omega arith),
      set_back w n 24 8 (omega arith),
      set_back w n 32 8 (omega arith),
      set_back w n 40 8 (omega arith),
      set_back w n 48 8 (omega arith),
      set_back w n 56 8 (omega arith),
      two_at w h 0 (omega arith),
      four_at w h 28 (omega arith),
      four_at w h 32 (omega arith),
      piece w h 2 0 (omega arith),
      piece w h 16 12 (omega arith),
      piece w h 2 28 (omega arith),
      piece w h 2 30 (omega arith),
      piece w h 2 32 (omega arith),
      piece w h 2 34 (omega arith),
    )
    (sym (sym (take_all 36 w (omega arith)) ∙ piece w h 36 0 (omega arith)))
