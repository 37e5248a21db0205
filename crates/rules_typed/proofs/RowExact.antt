-- Theorem: a row's bytes are ones that a body could store exactly where they are the written form of a valid typed row.
use Rattle.rows.proofs.Prelude.{◌≡◌, refl, sym, ap, ◌∙◌, Bool, true, false, not, List, [], ◌∷◌, ◌++◌, ℕ, ◌+◌, ◌*◌, arith, length, lt-ltb, eq-eqb, not_of_false}
use Rattle.rows.proofs.Prelude.{bool_cases, contradiction, eqb, eqb-true, and_left, and_right, and_both, not-true, leb, length-take-le, drop, length-drop}
use Rattle.rows.proofs.Prelude.{drop_at, ones, length-append, take, drop-drop, get_or, or_true_right, ◌&&◌, ◌||◌, take_at, zero, suc, add_assoc, eqb-false, ◌/◌}
use Rattle.rows.proofs.Prelude.{◌%◌, ◌≤◌, replicate, get_or-drop, get_or-take, ◌<◌, append_assoc}
use Rattle.rules_typed.specs.Tables.{is_number, is_uuid, is_bytes, valid_credential, role_or_none, valid_role, valid_subject, valid_access}
use Rattle.rules.proofs.BitLaws.{bits_small, bits_split, bits_byte, bit_small}
use Rattle.rules.specs.Bits.{bits, be16, bit}
use Rattle.rows.specs.Rows.{all_zero, same}
use Rattle.rules.specs.Bodies.{is_nil, cred_storable, cred_subject, cred_type, cred_role, cred_authority, subject_storable, ace_kind, ace_subject, ace_authority}
use Rattle.rules.specs.Bodies.{ace_storable, ace_first, ace_last, ace_permission, in_set as inSetBytes, set_known, ace_role, ace_connection}
use Rattle.rules_typed.proofs.PermissionRead.{nil_zeros, zeros_nil}
use Rattle.rules_typed.specs.Types.{Credential, Role, Subject, IsUuid, HasRole, IsConnection, Access, Resource}
use Rattle.rules_typed.specs.Reading.{credential_in, role_of, subject_of, access_of, connection_as}
use Rattle.rules_typed.specs.Lists.{all, distinct, Maybe, none, just}
use Rattle.rules_typed.proofs.ByteLaws.{bytes_take, bytes_drop, two_same, byte_at}
use Rattle.rules_typed.specs.Writing.{credential_bytes, role_bytes, subject_bytes, access_bytes, set_bytes, be32, kind_number, flag, bits_from, in_set}
use Rattle.rules_typed.specs.Writing.{connection_number}
use Rattle.rules_typed.proofs.WriteBack.{bytes_at, two_at, piece, body_back, flag_back, connection_back, access_back}
use Rattle.rows.proofs.Kept.{same_refl, same_true}
use Rattle.rules_typed.proofs.DirectoryRead.{Found, known, unknown, found, entry_read}
use Rattle.rules.specs.Directory.{known as knownNumber}
use Rattle.rules.specs.declared.Resource.{Resource as ByteResource}
use Rattle.rules_typed.specs.Directory.{number_of}

-- two tests that follow from each other are the same
pub test_same : (a b : Bool) → (a ≡ true → b ≡ true) → (b ≡ true → a ≡ true) → a ≡ b
test_same true b f g = sym (f refl)
test_same false true f g = g refl
test_same false false f g = refl

-- a number of 16 bits, or of 32
pub number_fits : (w : List ℕ) (s : ℕ) → not (eqb (bits w s 16) 0) ≡ true → is_number (bits w s 16) ≡ true
unfolding is_number
number_fits w s h = and_both _ _ h (lt-ltb (bits w s 16) 65536 (bits_small w s 16))

pub number_there : (n : ℕ) → is_number n ≡ true → not (eqb n 0) ≡ true
unfolding is_number
number_there n h = and_left _ _ h

pub uuid_is : (u : List ℕ) → length u ≡ 16 → is_bytes u ≡ true → is_nil u ≡ false → is_uuid u ≡ true
unfolding is_uuid
uuid_is u l h n =
    and_both _ _ (and_both _ _ (eq-eqb (length u) 16 l) h) (not_of_false _ (bool_cases (all_zero u) (λ z. contradiction (zeros_nil u l z) n) (λ z. z)))

pub uuid_long : (u : List ℕ) → is_uuid u ≡ true → length u ≡ 16
unfolding is_uuid
uuid_long u h = eqb-true (length u) 16 (search (and_left, and_right))

pub uuid_there : (u : List ℕ) → is_uuid u ≡ true → is_nil u ≡ false
unfolding is_uuid
uuid_there u h =
    let there : not (all_zero u) ≡ true = search (and_left, and_right) in
    bool_cases (is_nil u) (λ n. contradiction (nil_zeros u n) (not-true _ there)) (λ n. n)

pub role_long : (m : Maybe Role) → length (role_bytes m) ≡ 4
unfolding be16
role_long none = refl
role_long (just r) = refl

role_valid : (b : List ℕ) (s n : ℕ) → role_or_none (role_of (bits b s 16) (bits b n 16)) ≡ true
unfolding role_of valid_role
role_valid b s n =
    bool_cases (eqb (bits b s 16) 0) (λ e. rw e)
    (λ e. rw e (and_both _ _ (number_fits b s (not_of_false _ e)) (lt-ltb (bits b n 16) 65536 (bits_small b n 16))))

body_read : (b : List ℕ) → is_bytes b ≡ true → cred_storable b ≡ true → credential_bytes (credential_in b []) ≡ b
unfolding credential_bytes
body_read b h e = body_back b h e

-- ---- a body of 23 bytes

module _ (b : List ℕ) (h : is_bytes b ≡ true) where
  abbrev c : Credential
  c = credential_in b []

  cred_valid : cred_storable b ≡ true → valid_credential c ≡ true
  unfolding cred_storable valid_credential all distinct
  cred_valid e =
      let l : length b ≡ 23 = eqb-true (length b) 23 (search (and_left, and_right)) in
      let n : not (eqb (bits b 0 16) 0) ≡ true = search (and_left, and_right) in
      let s : not (is_nil (cred_subject b)) ≡ true = search (and_left, and_right) in
      let k : leb (ones (cred_type b)) 1 ≡ true = search (and_left, and_right) in
      let long = length-take-le 16 (drop 2 b) (rw length-drop (omega arith)) in
      let subject = uuid_is (cred_subject b) long (bytes_take 16 (drop 2 b) (bytes_drop 2 b h)) (not-true _ s) in
      and_both _ _ (and_both _ _ (and_both _ _ (and_both _ _ (number_fits b 0 n) subject) (role_valid b 144 160))
      (and_both _ _ (lt-ltb (cred_type b) 64 (bits_small b 176 6)) k)) refl

  module _ (v : valid_credential c ≡ true) (w : credential_bytes c ≡ b) where
    subject_uuid : is_uuid (cred_subject b) ≡ true
    unfolding valid_credential
    subject_uuid = search (and_left, and_right)

    sixteen : length (cred_subject b) ≡ 16
    sixteen = uuid_long (cred_subject b) subject_uuid

    abbrev tail : List ℕ
    tail = role_bytes c.role ++ (c.kind * 4 ∷ [])

    behind : drop 18 b ≡ tail
    unfolding credential_bytes be16
    behind = ap (drop 18) (sym w) ∙ drop_at (cred_subject b) tail 16 sixteen

    long : length b ≡ 23
    unfolding credential_bytes be16
    long = ap length (sym w) ∙ simp (length-append, role_long c.role, sixteen) (omega arith)

    -- without a role there is no authority
    authority_none : eqb (cred_role b) 0 ≡ true → eqb (cred_authority b) 0 ≡ true
    unfolding role_of be16 bytes_at
    authority_none z =
        let two : take 2 (drop 20 b) ≡ 0 ∷ 0 ∷ [] = ap (take 2) (sym (drop-drop 2 18 b)) ∙ ap (λ (x : List ℕ). take 2 (drop 2 x)) behind ∙ rw z in
        sym (two_same (cred_authority b) 0) ∙ ap (λ (x : List ℕ). same x (0 ∷ 0 ∷ [])) (two_at b h 20 (omega (arith, long)) ∙ two) ∙ same_refl (0 ∷ 0 ∷ [])

    last_byte : bits b 176 8 ≡ cred_type b * 4
    unfolding bytes_at
    last_byte =
        let one : take 1 (drop 22 b) ≡ c.kind * 4 ∷ [] =
        ap (take 1) (sym (drop-drop 4 18 b)) ∙ ap (λ (x : List ℕ). take 1 (drop 4 x)) behind
        ∙ ap (take 1) (drop_at (role_bytes c.role) (c.kind * 4 ∷ []) 4 (role_long c.role)) in
        ap (λ (x : List ℕ). get_or x 0 0) (sym (piece b h 1 22 (omega (arith, long))) ∙ one)

    zero_bits : bits b 182 2 ≡ 0
    zero_bits = omega (arith, last_byte, bits_split b 176 6 2)

    cred_storable_lem : cred_storable b ≡ true
    unfolding cred_storable valid_credential is_number
    cred_storable_lem =
        let n : not (eqb (bits b 0 16) 0) ≡ true = search (and_left, and_right) in
        let k : leb (ones (cred_type b)) 1 ≡ true = search (and_left, and_right) in
        let role : (not (eqb (cred_role b) 0) || eqb (cred_authority b) 0) ≡ true =
        bool_cases (eqb (cred_role b) 0) (λ z. or_true_right (not (eqb (cred_role b) 0)) _ (authority_none z)) (λ z. rw z) in
        and_both _ _
        (and_both _ _ (and_both _ _ (and_both _ _ (and_both _ _ (eq-eqb (length b) 23 long) n) (not_of_false _ (uuid_there (cred_subject b) subject_uuid)))
        role) k)
        (eq-eqb (bits b 182 2) 0 zero_bits)

  pub cred_exact : cred_storable b ≡ (valid_credential c && same (credential_bytes c) b)
  cred_exact =
      test_same _ _
      (λ e. and_both _ _ (cred_valid e) (rw (body_read b h e) (same_refl b)))
      (λ e. cred_storable_lem (and_left _ _ e) (same_true (credential_bytes c) b (and_right (valid_credential c) _ e)))

-- ---- a row of 36 bytes

pub subject_long : (s : Subject) → valid_subject s ≡ true → length (subject_bytes s) ≡ 16
unfolding be16
subject_long (IsUuid u) v = uuid_long u v
subject_long (HasRole r) v = refl
subject_long (IsConnection c) v = refl

-- the subject of each kind
subject_valid : (w : List ℕ) → is_bytes w ≡ true → length w ≡ 36 → subject_storable w ≡ true → valid_subject (subject_of w) ≡ true
unfolding subject_of subject_storable valid_role
subject_valid w h l k =
    let long = length-take-le 16 (drop 12 w) (rw length-drop (omega arith)) in
    bool_cases (eqb (ace_kind w) 0)
    (λ e. rw e (uuid_is (ace_subject w) long (bytes_take 16 (drop 12 w) (bytes_drop 12 w h)) (not-true _ (rw e at k))))
    (λ e. bool_cases (eqb (ace_kind w) 1)
    (λ f. rw (e, f) (and_both _ _ (number_fits w 208 (and_right (all_zero (take 12 (ace_subject w))) _ (rw (e, f) at k)))
    (lt-ltb (ace_authority w) 65536 (bits_small w 192 16))))
    (λ f. rw (e, f)))

-- a set's bits are those of the bytes, one by one
pub flag_small : (b : Bool) → flag b < 2
flag_small true = omega arith
flag_small false = omega arith

pub digits : (set : Resource → Bool) (w : List ℕ) (s n : ℕ) → bits_from set s n ≡ bits w (32 + s) n → (k : ℕ) → k < n
    → flag (in_set set (s + k)) ≡ bit w (32 + (s + k))
unfolding bits_from bits
digits set w s zero e k l = absurd (omega arith)
digits set w s (suc n) e k l =
    let x = flag_small (in_set set (s + n)) in
    let y = bit_small w ((32 + s) + n) in
    let low : flag (in_set set (s + n)) ≡ bit w ((32 + s) + n) = omega arith in
    let high : bits_from set s n ≡ bits w (32 + s) n = omega arith in
    bool_cases (eqb k n)
    (λ z. let is : k ≡ n = eqb-true k n z in rw is (low ∙ ap (bit w) (add_assoc 32 s n)))
    (λ z. digits set w s n high k (omega (arith, eqb-false k n z)))

module _ (w : List ℕ) (h : is_bytes w ≡ true) where
  abbrev a : Access
  a = access_of w

  access_valid : ace_storable w ≡ true → valid_access a ≡ true
  unfolding ace_storable valid_access
  access_valid e =
      let l : length w ≡ 36 = eqb-true (length w) 36 (search (and_left, and_right)) in
      let n : not (eqb (bits w 0 16) 0) ≡ true = search (and_left, and_right) in
      let s : subject_storable w ≡ true = search (and_left, and_right) in
      let p : leb (ace_first w) (ace_last w) ≡ true = search (and_left, and_right) in
      and_both _ _ (and_both _ _ (and_both _ _ (number_fits w 0 n) (subject_valid w h l s)) (lt-ltb (ace_permission w) 32 (bits_small w 18 5)))
      (and_both _ _ p (lt-ltb (ace_last w) 4294967296 (bits_small w 256 32)))

  module _ (v : valid_access a ≡ true) (e : access_bytes a ≡ w) where
    abbrev subject : List ℕ
    subject = subject_bytes a.subject

    subject_good : valid_subject a.subject ≡ true
    unfolding valid_access
    subject_good = search (and_left, and_right)

    sixteen_long : length subject ≡ 16
    sixteen_long = subject_long a.subject subject_good

    -- the bytes before the subject
    byte : (i : ℕ) → bits w (8 * i) 8 ≡ get_or (access_bytes a) i 0
    byte i = bits_byte w i (byte_at w h i) ∙ ap (λ (x : List ℕ). get_or x i 0) (sym e)

    is_long : length w ≡ 36
    unfolding access_bytes set_bytes be16 be32
    is_long = ap length (sym e) ∙ simp (length-append, sixteen_long) (omega arith)

    second : bits w 16 8 ≡ kind_number a.subject * 64 + ace_permission w * 2 + flag a.wildcards.plus
    unfolding access_bytes set_bytes be16
    second = byte 2

    third : bits w 24 8 ≡ flag a.wildcards.minus * 128 + flag a.wildcards.star * 64
    unfolding access_bytes set_bytes be16
    third = byte 3

    zero_six : bits w 26 6 ≡ 0
    zero_six =
        omega (
          arith,
          third,
          bits_split w 24 1 7,
          bits_split w 25 1 6,
          bits_small w 26 6,
          flag_back (bits w 24 1) (bits_small w 24 1),
          flag_back (bits w 25 1)
              (bits_small w 25 1),
        )

    kind_is_lem : kind_number a.subject ≡ ace_kind w
    kind_is_lem = omega (arith, second, bits_split w 16 2 6, bits_split w 18 5 1, bits_small w 18 5, bits_small w 23 1, flag_back (bits w 23 1) (bits_small w 23 1))

    subject_is_lem : ace_subject w ≡ subject
    unfolding access_bytes set_bytes be16
    subject_is_lem = ap (λ (x : List ℕ). take 16 (drop 12 x)) (sym e) ∙ ap (take 16) (append_assoc subject (be32 a.first) (be32 a.last))
        ∙ take_at subject (be32 a.first ++ be32 a.last) 16 sixteen_long

    -- the set, a byte at a time
    set_byte : (j : ℕ) → j < 8 → bits_from a.resources (8 * j) 8 ≡ bits w (32 + 8 * j) 8
    unfolding access_bytes set_bytes be16
    set_byte zero l = sym (byte 4)
    set_byte (suc zero) l = sym (byte 5)
    set_byte (suc (suc zero)) l = sym (byte 6)
    set_byte (suc (suc (suc zero))) l = sym (byte 7)
    set_byte (suc (suc (suc (suc zero)))) l = sym (byte 8)
    set_byte (suc (suc (suc (suc (suc zero))))) l = sym (byte 9)
    set_byte (suc (suc (suc (suc (suc (suc zero)))))) l = sym (byte 10)
    set_byte (suc (suc (suc (suc (suc (suc (suc zero))))))) l = sym (byte 11)
    set_byte (suc (suc (suc (suc (suc (suc (suc (suc j)))))))) l = absurd (omega arith)

    set_bit : (n : ℕ) → n < 64 → flag (in_set a.resources n) ≡ bit w (32 + n)
    set_bit n l =
        let parts : 8 * (n / 8) + n % 8 ≡ n = omega arith in
        let same_bit = digits a.resources w (8 * (n / 8)) 8 (set_byte (n / 8) (omega arith)) (n % 8) (omega arith) in
        rw parts at same_bit

    known_one : (n : ℕ) → Found n → flag (in_set a.resources n) ≡ bit w (32 + n) → (not (inSetBytes w n) || knownNumber n) ≡ true
    unfolding in_set
    known_one n (known x) z = or_true_right (not (inSetBytes w (number_of x))) _ (ap (λ (r : ByteResource). r.known) (entry_read x))
    known_one n (unknown u f) z = let off : bit w (32 + n) ≡ 0 = sym (rw f at z) in rw off

    all_known : (m : ℕ) → m ≤ 64 → set_known w m ≡ true
    unfolding set_known
    all_known zero l = refl
    all_known (suc m) l = and_both _ _ (known_one m (found m) (set_bit m (omega arith))) (all_known m (omega arith))

    -- the subject, by its kind
    uuid_case : eqb (ace_kind w) 0 ≡ true → not (is_nil (ace_subject w)) ≡ true
    unfolding subject_of
    uuid_case x = not_of_false _ (uuid_there (ace_subject w) (rw x at subject_good))

    role_case : eqb (ace_kind w) 0 ≡ false → eqb (ace_kind w) 1 ≡ true → (all_zero (take 12 (ace_subject w)) && not (eqb (ace_role w) 0)) ≡ true
    unfolding subject_of valid_role is_number all_zero be16
    role_case x y =
        let good : valid_role (record { role = ace_role w; authority = ace_authority w }) ≡ true = rw (x, y) at subject_good in
        let is : ace_subject w ≡ replicate 12 0 ++ (be16 (ace_authority w) ++ be16 (ace_role w)) = rw (x, y) at subject_is_lem in
        and_both (all_zero (take 12 (ace_subject w))) _ (rw is) (search (and_left, and_right))

    connection_case : eqb (ace_kind w) 0 ≡ false → eqb (ace_kind w) 1 ≡ false → (all_zero (take 15 (ace_subject w)) && eqb (bits w 216 7) 0) ≡ true
    unfolding subject_of all_zero
    connection_case x y =
        let is : ace_subject w ≡ replicate 15 0 ++ (connection_number (connection_as (ace_connection w)) ∷ []) = rw (x, y) at subject_is_lem in
        let last : bits w 216 8 ≡ ace_connection w =
        bits_byte w 27 (byte_at w h 27) ∙ sym (get_or-drop 12 w 15 0) ∙ sym (get_or-take 16 (drop 12 w) 15 0 (omega arith))
        ∙ ap (λ (z : List ℕ). get_or z 15 0) is ∙ connection_back (ace_connection w) (bits_small w 223 1) in
        and_both (all_zero (take 15 (ace_subject w))) _ (rw is) (eq-eqb (bits w 216 7) 0 (omega (arith, last, bits_split w 216 7 1)))

    kind_two : eqb (ace_kind w) 0 ≡ false → eqb (ace_kind w) 1 ≡ false → eqb (ace_kind w) 2 ≡ true
    unfolding subject_of
    kind_two x y = let two : 2 ≡ ace_kind w = rw (x, y) at kind_is_lem in eq-eqb (ace_kind w) 2 (sym two)

    subject_storable_lem : subject_storable w ≡ true
    unfolding subject_storable
    subject_storable_lem =
        bool_cases (eqb (ace_kind w) 0) (λ x. rw x (uuid_case x))
        (λ x. bool_cases (eqb (ace_kind w) 1) (λ y. rw (x, y) (role_case x y)) (λ y. rw (x, y, kind_two x y) (connection_case x y)))

    access_storable : ace_storable w ≡ true
    unfolding ace_storable valid_access is_number
    access_storable =
        let n : not (eqb (bits w 0 16) 0) ≡ true = search (and_left, and_right) in
        let p : leb (ace_first w) (ace_last w) ≡ true = search (and_left, and_right) in
        and_both _ _
        (and_both _ _ (and_both _ _ (and_both _ _ (and_both _ _ (eq-eqb (length w) 36 is_long) n) (eq-eqb (bits w 26 6) 0 zero_six))
        (all_known 64 (omega arith))) subject_storable_lem)
        p

  pub access_exact : ace_storable w ≡ (valid_access a && same (access_bytes a) w)
  access_exact =
      test_same _ _
      (λ e. and_both _ _ (access_valid e) (rw (access_back w (e, h)) (same_refl w)))
      (λ e. access_storable (and_left _ _ e) (same_true (access_bytes a) w (and_right (valid_access a) _ e)))
