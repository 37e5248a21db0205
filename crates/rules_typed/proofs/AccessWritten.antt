-- A valid access row, written and read again, is the row.
use Rattle.rows.proofs.Prelude.{◌≡◌, refl, sym, ap, ◌∙◌, Bool, true, List, [], ◌∷◌, ◌++◌, ℕ, zero, suc, ◌+◌, ◌*◌, ◌/◌, ◌%◌, ◌^◌, ◌<◌, arith, length, take}
use Rattle.rows.proofs.Prelude.{drop, get_or, pow-suc, ltb-true, leb-true, and_left, and_right, and_both, lt-ltb, length-append, eqb, append_assoc, drop-drop}
use Rattle.rows.proofs.Prelude.{drop_at, take_at, get_or-drop}
use Rattle.rules_typed.specs.Types.{Resource, Access, Subject, IsUuid, HasRole, IsConnection, AnonClear, AuthCrypt, Security, Doxm, Pstat, Cred, Acl2}
use Rattle.rules_typed.specs.Types.{Roles, Application}
use Rattle.rules_typed.specs.Writing.{bits_from, in_set, access_bytes, subject_bytes, kind_number, set_bytes, be32, flag}
use Rattle.rules_typed.proofs.RowExact.{flag_small, subject_long, digits, access_exact}
use Rattle.rules_typed.specs.Tables.{valid_access, valid_subject, is_number, is_bytes}
use Rattle.rules.specs.Bits.{be16, bits, bit}
use Rattle.rules_typed.proofs.RowWritten.{uuid_bytes_lem, role_fits_lem, two_small, number_small, four_small, word_read, flag_one, long_read}
use Rattle.rules_typed.proofs.RowsRead.{bytes_join}
use Rattle.rules.proofs.BitLaws.{bits_byte, bits_in_byte}
use Rattle.rules_typed.proofs.ByteLaws.{byte_at}
use Rattle.rules_typed.specs.Directory.{number_of}
use Rattle.rules_typed.proofs.DirectoryRead.{resource_read}
use Rattle.rules_typed.specs.Reading.{subject_of, connection_as, access_of}
use mathlib.Core.Path.{fun_ext}
use Rattle.rules.specs.Bodies.{ace_storable}
use Rattle.rows.proofs.Kept.{same_refl}
use Rattle.rules_typed.proofs.LinksRead.{below}

number_below : (e : Resource) → number_of e < 64
number_below (Security Doxm) = omega arith
number_below (Security Pstat) = omega arith
number_below (Security Cred) = omega arith
number_below (Security Acl2) = omega arith
number_below (Security Roles) = omega arith
number_below (Application a) = below a

below_set : (s : Resource → Bool) (i n : ℕ) → bits_from s i n < 2 ^ n
unfolding bits_from
below_set s i zero = omega arith
below_set s i (suc n) = rw pow-suc (let x = below_set s i n in let y = flag_small (in_set s (i + n)) in omega arith)

module _ (a : Access) (v : valid_access a ≡ true) where
  abbrev w : List ℕ
  w = access_bytes a

  access_number : is_number a.number ≡ true
  unfolding valid_access
  access_number = search (and_left, and_right)

  subject_good : valid_subject a.subject ≡ true
  unfolding valid_access
  subject_good = search (and_left, and_right)

  permission_small : a.permission < 32
  unfolding valid_access
  permission_small = ltb-true a.permission 32 (search (and_left, and_right))

  last_is : a.last < 4294967296
  unfolding valid_access
  last_is = ltb-true a.last 4294967296 (search (and_left, and_right))

  first_is : a.first < 4294967296
  unfolding valid_access
  first_is =
      let l = last_is in let f = leb-true a.first a.last (search (and_left, and_right)) in omega arith

  subject_bytes_lem : (s : Subject) → valid_subject s ≡ true → is_bytes (subject_bytes s) ≡ true
  unfolding is_bytes be16
  subject_bytes_lem (IsUuid u) h = uuid_bytes_lem u h
  subject_bytes_lem (HasRole r) h =
      let x = role_fits_lem r h in bytes_join (be16 r.authority) (be16 r.role) (two_small r.authority x.authority_small)
      (two_small r.role x.role_small)
  subject_bytes_lem (IsConnection AnonClear) h = refl
  subject_bytes_lem (IsConnection AuthCrypt) h = refl

  kind_small : (s : Subject) → kind_number s < 3
  kind_small (IsUuid u) = omega arith
  kind_small (HasRole r) = omega arith
  kind_small (IsConnection c) = omega arith

  abbrev second : ℕ
  second = kind_number a.subject * 64 + a.permission * 2 + flag a.wildcards.plus

  abbrev third : ℕ
  third = flag a.wildcards.minus * 128 + flag a.wildcards.star * 64

  second_small : second < 256
  second_small = let k = kind_small a.subject in let p = permission_small in let f = flag_small a.wildcards.plus in omega arith

  third_small : third < 256
  third_small = let m = flag_small a.wildcards.minus in let s = flag_small a.wildcards.star in omega arith

  set_good : is_bytes (set_bytes a.resources) ≡ true
  unfolding set_bytes is_bytes
  set_good =
      rw (
        lt-ltb (bits_from a.resources 0 8) 256 (below_set a.resources 0 8),
        lt-ltb (bits_from a.resources 8 8) 256 (below_set a.resources 8 8),
        lt-ltb (bits_from a.resources 16 8) 256 (below_set a.resources 16 8),
        lt-ltb (bits_from a.resources 24 8) 256 (below_set a.resources 24 8),
        lt-ltb (bits_from a.resources 32 8) 256 (below_set a.resources 32 8),
        lt-ltb (bits_from a.resources 40 8) 256 (below_set a.resources 40 8),
        lt-ltb (bits_from a.resources 48 8) 256 (below_set a.resources 48 8),
        lt-ltb (bits_from a.resources 56 8) 256 (below_set a.resources 56 8),
      )

  two_good : is_bytes (second ∷ third ∷ []) ≡ true
  unfolding is_bytes
  two_good = rw (lt-ltb second 256 second_small, lt-ltb third 256 third_small)

  pub access_good : is_bytes w ≡ true
  unfolding access_bytes
  access_good =
      bytes_join _ (be32 a.last)
      (bytes_join _ (be32 a.first)
      (bytes_join _ (subject_bytes a.subject)
      (bytes_join _ (set_bytes a.resources) (bytes_join (be16 a.number) (second ∷ third ∷ [])
      (two_small a.number (number_small a.number access_number)) two_good) set_good)
      (subject_bytes_lem a.subject subject_good))
      (four_small a.first first_is))
      (four_small a.last last_is)

  sixteen_long : length (subject_bytes a.subject) ≡ 16
  sixteen_long = subject_long a.subject subject_good

  pub access_size : length w ≡ 36
  unfolding access_bytes set_bytes be16 be32
  access_size = simp (length-append, sixteen_long) (omega arith)

  -- ---- the fields

  byte_again : (i : ℕ) → bits w (8 * i) 8 ≡ get_or w i 0
  byte_again i = bits_byte w i (byte_at w access_good i)

  number_again : bits w 0 16 ≡ a.number
  unfolding access_bytes set_bytes be16
  number_again = word_read w access_good 0 a.number (omega (arith, access_size)) refl

  second_is : get_or w 2 0 ≡ second
  unfolding access_bytes set_bytes be16
  second_is = refl

  third_is : get_or w 3 0 ≡ third
  unfolding access_bytes set_bytes be16
  third_is = refl

  kind_again : bits w 16 2 ≡ kind_number a.subject
  kind_again =
      bits_in_byte w 2 0 2 (omega arith)
      ∙ omega (arith, second_is, kind_small a.subject, permission_small, flag_small a.wildcards.plus)

  permission_again : bits w 18 5 ≡ a.permission
  permission_again =
      bits_in_byte w 2 2 5 (omega arith)
      ∙ omega (arith, second_is, kind_small a.subject, permission_small, flag_small a.wildcards.plus)

  plus_again : bits w 23 1 ≡ flag a.wildcards.plus
  plus_again =
      bits_in_byte w 2 7 1 (omega arith)
      ∙ omega (arith, second_is, kind_small a.subject, permission_small, flag_small a.wildcards.plus)

  minus_again : bits w 24 1 ≡ flag a.wildcards.minus
  minus_again = bits_in_byte w 3 0 1 (omega arith) ∙ omega (arith, third_is, flag_small a.wildcards.minus, flag_small a.wildcards.star)

  star_again : bits w 25 1 ≡ flag a.wildcards.star
  star_again = bits_in_byte w 3 1 1 (omega arith) ∙ omega (arith, third_is, flag_small a.wildcards.minus, flag_small a.wildcards.star)

  set_byte : (j : ℕ) → j < 8 → bits_from a.resources (8 * j) 8 ≡ bits w (32 + 8 * j) 8
  unfolding access_bytes set_bytes be16
  set_byte zero l = sym (byte_again 4)
  set_byte (suc zero) l = sym (byte_again 5)
  set_byte (suc (suc zero)) l = sym (byte_again 6)
  set_byte (suc (suc (suc zero))) l = sym (byte_again 7)
  set_byte (suc (suc (suc (suc zero)))) l = sym (byte_again 8)
  set_byte (suc (suc (suc (suc (suc zero))))) l = sym (byte_again 9)
  set_byte (suc (suc (suc (suc (suc (suc zero)))))) l = sym (byte_again 10)
  set_byte (suc (suc (suc (suc (suc (suc (suc zero))))))) l = sym (byte_again 11)
  set_byte (suc (suc (suc (suc (suc (suc (suc (suc j)))))))) l = absurd (omega arith)

  set_again : (e : Resource) → number_of e < 64 → eqb (bit w (32 + number_of e)) 1 ≡ a.resources e
  unfolding in_set
  set_again e l =
      let n = number_of e in
      let parts : 8 * (n / 8) + n % 8 ≡ n = omega arith in
      let same_bit : flag (in_set a.resources n) ≡ bit w (32 + n) =
      rw parts at (digits a.resources w (8 * (n / 8)) 8 (set_byte (n / 8) (omega arith)) (n % 8) (omega arith)) in
      rw (← same_bit, resource_read e) (flag_one (a.resources e))

  behind : drop 12 w ≡ subject_bytes a.subject ++ (be32 a.first ++ be32 a.last)
  unfolding access_bytes set_bytes be16
  behind = append_assoc (subject_bytes a.subject) (be32 a.first) (be32 a.last)

  period : drop 28 w ≡ be32 a.first ++ be32 a.last
  period = sym (drop-drop 16 12 w) ∙ ap (drop 16) behind ∙ drop_at (subject_bytes a.subject) (be32 a.first ++ be32 a.last) 16 sixteen_long

  first_again : bits w 224 32 ≡ a.first
  unfolding be32 be16
  first_again =
      long_read w access_good 28 a.first (omega (arith, access_size)) (ap (take 2) period)
      (ap (take 2) (sym (drop-drop 2 28 w)) ∙ ap (λ (x : List ℕ). take 2 (drop 2 x)) period)

  last_again : bits w 256 32 ≡ a.last
  unfolding be32 be16
  last_again =
      long_read w access_good 32 a.last (omega (arith, access_size)) (ap (take 2) (sym (drop-drop 4 28 w)) ∙ ap (λ (x : List ℕ). take 2 (drop 4 x)) period)
      (ap (take 2) (sym (drop-drop 6 28 w)) ∙ ap (λ (x : List ℕ). take 2 (drop 6 x)) period)

  subject_again : (s : Subject) → valid_subject s ≡ true → length (subject_bytes s) ≡ 16 → drop 12 w ≡ subject_bytes s ++ (be32 a.first ++ be32 a.last)
      → bits w 16 2 ≡ kind_number s → subject_of w ≡ s
  unfolding subject_of be16 connection_as
  subject_again (IsUuid u) h l e k = rw k (ap IsUuid (ap (take 16) e ∙ take_at u (be32 a.first ++ be32 a.last) 16 l))
  subject_again (HasRole r) h l e k =
      let authority =
      word_read w access_good 24 r.authority (omega (arith, access_size)) (ap (take 2) (sym (drop-drop 12 12 w))
      ∙ ap (λ (x : List ℕ). take 2 (drop 12 x)) e) in
      let role =
      word_read w access_good 26 r.role (omega (arith, access_size)) (ap (take 2) (sym (drop-drop 14 12 w))
      ∙ ap (λ (x : List ℕ). take 2 (drop 14 x)) e) in
      rw (k, role, authority)
  subject_again (IsConnection AnonClear) h l e k =
      let byte : get_or w 27 0 ≡ 0 = sym (get_or-drop 12 w 15 0) ∙ ap (λ (x : List ℕ). get_or x 15 0) e in
      let one : bits w 223 1 ≡ 0 = bits_in_byte w 27 7 1 (omega arith) ∙ omega (arith, byte) in
      rw (k, one)
  subject_again (IsConnection AuthCrypt) h l e k =
      let byte : get_or w 27 0 ≡ 1 = sym (get_or-drop 12 w 15 0) ∙ ap (λ (x : List ℕ). get_or x 15 0) e in
      let one : bits w 223 1 ≡ 1 = bits_in_byte w 27 7 1 (omega arith) ∙ omega (arith, byte) in
      rw (k, one)

  pub access_again : access_of w ≡ a
  access_again =
      let set : (λ (e : Resource). eqb (bit w (32 + number_of e)) 1) ≡ a.resources = fun_ext (λ e. set_again e (number_below e)) in
      rw (
        number_again,
        subject_again a.subject subject_good sixteen_long behind kind_again,
        permission_again,
        plus_again,
        minus_again,
        star_again,
        flag_one a.wildcards.plus,
        flag_one a.wildcards.minus,
        flag_one a.wildcards.star,
        first_again,
        last_again,
      )
      (ap (λ (s : Resource → Bool). record {
        number = a.number;
        subject = a.subject;
        permission = a.permission;
        wildcards = a.wildcards;
        resources = s;
        first = a.first;
        last = a.last;
      }) set)

  pub access_stored : ace_storable w ≡ true
  access_stored = access_exact w access_good ∙ rw access_again (and_both _ _ v (same_refl w))
