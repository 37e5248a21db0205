-- A valid row, written and read again, is the row.
use Rattle.rows.proofs.Prelude.{◌≡◌, refl, sym, ap, ◌∙◌, Bool, true, false, not, List, ℕ, ◌+◌, ◌*◌, ◌/◌, ◌%◌, ◌<◌, ◌≤◌, arith, length, lt-ltb, take, drop}
use Rattle.rows.proofs.Prelude.{eqb-true, eqb, ltb-true, ltb, and_left, and_right, not-true, leb, map, leb-true, length-append, take_at, drop_at, or_left}
use Rattle.rows.proofs.Prelude.{length-replicate, ap₂, [], ◌∷◌, ◌-◌, ◌++◌, get_or, append_assoc, drop-drop, get_or-drop, ◌&&◌, and_both, eq-eqb, ones}
use Rattle.rules_typed.specs.Permission.{same_asserted}
use Rattle.rules_typed.specs.Tables.{is_bytes, is_number, is_uuid, valid_role, valid_asserted, valid_credential, role_or_none}
use Rattle.rules.specs.Bits.{be16, bits}
use Rattle.rules_typed.specs.Writing.{be32, flag, asserted_bytes, credential_row, role_bytes, credential_bytes}
use Rattle.rules_typed.proofs.RowsRead.{bytes_join, role_same, zero_bytes}
use Rattle.rules_typed.proofs.ByteLaws.{two_same, bits_take, part_within, bytes_take}
use Rattle.rules_typed.proofs.WriteBack.{two_at}
use Rattle.rows.proofs.Kept.{same_refl}
use Rattle.rules.specs.Asserted.{Few}
use Rattle.rules.proofs.BitLaws.{bits_split, bits_in_byte}
use Rattle.rules_typed.specs.Types.{Role, Asserted, Credential}
use Rattle.rules_typed.specs.Reading.{asserted_of, role_of, credential_as, credential_in}
use Rattle.rules.specs.Roles.{no_role, same_role as sameRoleBytes, body_of, roles_of, distinct_roles, cred_sound, roles_sound}
use Rattle.rules_typed.specs.Lists.{all, distinct, Maybe, none, just, any}
use Rattle.rules.proofs.RoleLaws.{slots_in, few_slots, no_role_zeros}
use Rattle.rows.specs.Rows.{joined, packed, Row, without as withoutRows, some, same}
use Rattle.rules_typed.proofs.RowExact.{uuid_long, role_long, cred_exact}
use Rattle.rules_typed.proofs.RoleRead.{few_there}
use Rattle.rules.specs.Bodies.{cred_storable}

-- ---- numbers as bytes

pub two_small : (n : ℕ) → n < 65536 → is_bytes (be16 n) ≡ true
unfolding be16 is_bytes
two_small n h = rw (lt-ltb (n / 256) 256 (omega arith), lt-ltb (n % 256) 256 (omega arith))

pub four_small : (n : ℕ) → n < 4294967296 → is_bytes (be32 n) ≡ true
unfolding be32
four_small n h = bytes_join (be16 (n / 65536)) (be16 (n % 65536)) (two_small (n / 65536) (omega arith)) (two_small (n % 65536) (omega arith))

-- two bytes of a number, read
pub word_read : (w : List ℕ) → is_bytes w ≡ true → (i n : ℕ) → i + 2 ≤ length w → take 2 (drop i w) ≡ be16 n → bits w (8 * i) 16 ≡ n
word_read w h i n l e = eqb-true (bits w (8 * i) 16) n (sym (two_same (bits w (8 * i) 16) n) ∙ rw (two_at w h i l ∙ e) (same_refl (be16 n)))

-- four
pub long_read : (w : List ℕ) → is_bytes w ≡ true → (i n : ℕ) → i + 4 ≤ length w → take 2 (drop i w) ≡ be16 (n / 65536)
    → take 2 (drop (i + 2) w) ≡ be16 (n % 65536)
    → bits w (8 * i) 32 ≡ n
long_read w h i n l e f =
    let high = word_read w h i (n / 65536) (omega arith) e in
    let low = word_read w h (i + 2) (n % 65536) (omega arith) f in
    let next : 8 * i + 16 ≡ 8 * (i + 2) = omega arith in
    let split = bits_split w (8 * i) 16 16 in
    let at : bits w (8 * i + 16) 16 ≡ n % 65536 = ap (λ (k : ℕ). bits w k 16) next ∙ low in
    omega (arith, split, high, at)

pub flag_one : (b : Bool) → eqb (flag b) 1 ≡ b
flag_one true = refl
flag_one false = refl

pub number_small : (n : ℕ) → is_number n ≡ true → n < 65536
unfolding is_number
number_small n h = ltb-true n 65536 (and_right (not (eqb n 0)) _ h)

pub uuid_bytes_lem : (u : List ℕ) → is_uuid u ≡ true → is_bytes u ≡ true
unfolding is_uuid
uuid_bytes_lem u h = search (and_left, and_right)

pub record RoleFits (r : Role) : Type 0 where
  pub there : eqb r.role 0 ≡ false
  pub role_small : r.role < 65536
  pub authority_small : r.authority < 65536

pub role_fits_lem : (r : Role) → valid_role r ≡ true → RoleFits r
unfolding valid_role is_number
role_fits_lem r h = record {
  there = not-true _ (and_left _ (ltb r.role 65536) (and_left _ (ltb r.authority 65536) h));
  role_small = number_small r.role (and_left _ _ h);
  authority_small = ltb-true r.authority 65536 (and_right (is_number r.role) _ h);
}

-- ---- an asserted role

module _ (a : Asserted) (v : valid_asserted a ≡ true) where
  abbrev p : List ℕ
  p = asserted_bytes a

  fits : RoleFits a.role
  unfolding valid_asserted
  fits = role_fits_lem a.role (and_left _ _ v)

  last_small : a.last < 4294967296
  unfolding valid_asserted
  last_small = ltb-true a.last 4294967296 (and_right (valid_role a.role) _ v)

  pub asserted_bytes_lem : is_bytes p ≡ true
  unfolding asserted_bytes
  asserted_bytes_lem =
      bytes_join (be16 a.role.authority) _ (two_small a.role.authority fits.authority_small)
      (bytes_join (be16 a.role.role) _ (two_small a.role.role fits.role_small) (four_small a.last last_small))

  pub asserted_long : length p ≡ 8
  unfolding asserted_bytes be16 be32
  asserted_long = refl

  pub asserted_again : asserted_of p ≡ a
  unfolding asserted_bytes be16 be32
  asserted_again =
      let h = asserted_bytes_lem in
      rw (
        word_read p h 2 a.role.role (omega (arith, asserted_long)) refl,
        word_read p h 0 a.role.authority (omega (arith, asserted_long)) refl,
        long_read p h 4 a.last (omega (arith, asserted_long)) refl refl,
      )

  pub asserted_role_lem : no_role p ≡ false
  unfolding no_role
  asserted_role_lem = ap (λ (x : Asserted). eqb x.role.role 0) asserted_again ∙ fits.there

-- ---- asserted roles in their places

pub all_parts : {A : Type 0} (passes : A → Bool) (x : A) (xs : List A) → all passes (x ∷ xs) ≡ true → (passes x ≡ true) × (all passes xs ≡ true)
unfolding all
all_parts passes x xs h = (and_left _ _ h, and_right (passes x) _ h)

same_asserted_lem : (a b : Asserted) → valid_asserted a ≡ true → valid_asserted b ≡ true → same_asserted a b ≡ sameRoleBytes (asserted_bytes a) (asserted_bytes b)
same_asserted_lem a b v w =
    ap₂ same_asserted (sym (asserted_again a v)) (sym (asserted_again b w))
    ∙ role_same (asserted_bytes a) (asserted_bytes b) (asserted_bytes_lem a v) (omega (arith, asserted_long a v)) (asserted_bytes_lem b w)
    (omega (arith, asserted_long b w))

two_distinct : (a b : Asserted) → distinct same_asserted (a ∷ b ∷ []) ≡ true → same_asserted a b ≡ false
unfolding distinct any
two_distinct a b d = or_left (same_asserted a b) false (not-true _ (and_left _ _ d))

packed_few : (ps : List Row) → Few ps → length (packed 16 ps) ≡ 16
unfolding packed joined
packed_few [] f = refl
packed_few (p ∷ []) f = simp (length-append, length-replicate, f.0) (omega arith)
packed_few (p ∷ q ∷ []) f = simp (length-append, length-replicate, f.0.0, f.1.0) (omega arith)
packed_few (p ∷ q ∷ r ∷ ps) f = absurd f

distinct_few : (ps : List Row) → Few ps → distinct_roles ps ≡ true
unfolding distinct_roles some
distinct_few [] f = refl
distinct_few (p ∷ []) f = refl
distinct_few (p ∷ q ∷ []) f = rw f.2
distinct_few (p ∷ q ∷ r ∷ ps) f = absurd f

few_written : (xs : List Asserted) → leb (length xs) 2 ≡ true → all valid_asserted xs ≡ true → distinct same_asserted xs ≡ true → Few (map asserted_bytes xs)
few_written [] l v d = tt
few_written (a ∷ []) l v d = let x = (all_parts valid_asserted a [] v).0 in (asserted_long a x, asserted_role_lem a x)
few_written (a ∷ b ∷ []) l v d =
    let x = all_parts valid_asserted a (b ∷ []) v in
    let y = (all_parts valid_asserted b [] x.1).0 in
    ((asserted_long a x.0, asserted_role_lem a x.0), (asserted_long b y, asserted_role_lem b y), sym (same_asserted_lem a b x.0 y) ∙ two_distinct a b d)
few_written (a ∷ b ∷ c ∷ xs) l v d = let many = leb-true (length (a ∷ b ∷ c ∷ xs)) 2 l in absurd (omega arith)

again_all : (xs : List Asserted) → all valid_asserted xs ≡ true → map asserted_of (map asserted_bytes xs) ≡ xs
again_all [] v = refl
again_all (a ∷ xs) v =
    let x = all_parts valid_asserted a xs v in ap₂ (λ (y : Asserted) (ys : List Asserted). y ∷ ys) (asserted_again a x.0) (again_all xs x.1)

joined_written : (xs : List Asserted) → all valid_asserted xs ≡ true → is_bytes (joined (map asserted_bytes xs)) ≡ true
unfolding joined is_bytes
joined_written [] v = refl
joined_written (a ∷ xs) v =
    let x = all_parts valid_asserted a xs v in bytes_join (asserted_bytes a) (joined (map asserted_bytes xs)) (asserted_bytes_lem a x.0) (joined_written xs x.1)

-- ---- a credential row

module _ (c : Credential) (v : valid_credential c ≡ true) where
  abbrev w : List ℕ
  w = credential_row c

  abbrev store : List ℕ
  store = packed 16 (map asserted_bytes c.asserted)

  subject_is_lem : is_uuid c.subject ≡ true
  unfolding valid_credential
  subject_is_lem = search (and_left, and_right)

  number_is : is_number c.number ≡ true
  unfolding valid_credential
  number_is = search (and_left, and_right)

  role_is : role_or_none c.role ≡ true
  unfolding valid_credential
  role_is = search (and_left, and_right)

  kind_is_lem : c.kind < 64
  unfolding valid_credential
  kind_is_lem = ltb-true c.kind 64 (search (and_left, and_right))

  asserted_valid : all valid_asserted c.asserted ≡ true
  unfolding valid_credential
  asserted_valid = search (and_left, and_right)

  few : Few (map asserted_bytes c.asserted)
  unfolding valid_credential
  few = few_written c.asserted (search (and_left, and_right)) asserted_valid (search (and_left, and_right))

  sixteen : length c.subject ≡ 16
  sixteen = uuid_long c.subject subject_is_lem

  role_bytes_lem : (m : Maybe Role) → role_or_none m ≡ true → is_bytes (role_bytes m) ≡ true
  unfolding is_bytes
  role_bytes_lem none h = refl
  role_bytes_lem (just r) h =
      let x = role_fits_lem r h in bytes_join (be16 r.role) (be16 r.authority) (two_small r.role x.role_small)
      (two_small r.authority x.authority_small)

  kind_byte : is_bytes (c.kind * 4 ∷ []) ≡ true
  unfolding is_bytes
  kind_byte = rw (lt-ltb (c.kind * 4) 256 (omega (arith, kind_is_lem)))

  body_bytes : is_bytes (credential_bytes c) ≡ true
  unfolding credential_bytes
  body_bytes =
      bytes_join (be16 c.number) _ (two_small c.number (number_small c.number number_is))
      (bytes_join c.subject _ (uuid_bytes_lem c.subject subject_is_lem) (bytes_join (role_bytes c.role) _ (role_bytes_lem c.role role_is) kind_byte))

  body_size : length (credential_bytes c) ≡ 23
  unfolding credential_bytes be16
  body_size = simp (length-append, role_long c.role, sixteen) (omega arith)

  places_size : length store ≡ 16
  places_size = packed_few (map asserted_bytes c.asserted) few

  pub row_bytes_lem : is_bytes w ≡ true
  unfolding credential_row packed
  row_bytes_lem =
      bytes_join (credential_bytes c) store body_bytes
      (bytes_join (joined (map asserted_bytes c.asserted)) _ (joined_written c.asserted asserted_valid)
      (zero_bytes (16 - length (joined (map asserted_bytes c.asserted)))))

  pub row_size : length w ≡ 39
  unfolding credential_row
  row_size = simp (length-append, body_size, places_size) (omega arith)

  body_read : body_of w ≡ credential_bytes c
  unfolding credential_row
  body_read = take_at (credential_bytes c) store 23 body_size

  places_read : drop 23 w ≡ store
  unfolding credential_row
  places_read = drop_at (credential_bytes c) store 23 body_size

  -- the fields
  behind : drop 18 w ≡ (role_bytes c.role ++ (c.kind * 4 ∷ [])) ++ store
  unfolding credential_row credential_bytes be16
  behind =
      ap (drop 16) (append_assoc c.subject (role_bytes c.role ++ (c.kind * 4 ∷ [])) store)
      ∙ drop_at c.subject ((role_bytes c.role ++ (c.kind * 4 ∷ [])) ++ store) 16 sixteen

  subject_again : take 16 (drop 2 w) ≡ c.subject
  unfolding credential_row credential_bytes be16
  subject_again =
      ap (take 16) (append_assoc c.subject (role_bytes c.role ++ (c.kind * 4 ∷ [])) store)
      ∙ take_at c.subject ((role_bytes c.role ++ (c.kind * 4 ∷ [])) ++ store) 16 sixteen

  number_again : bits w 0 16 ≡ c.number
  unfolding credential_row credential_bytes be16
  number_again = word_read w row_bytes_lem 0 c.number (omega (arith, row_size)) refl

  role_again : (m : Maybe Role) → role_or_none m ≡ true → drop 18 w ≡ (role_bytes m ++ (c.kind * 4 ∷ [])) ++ store → role_of (bits w 144 16) (bits w 160 16) ≡ m
  unfolding role_of be16
  role_again none h e =
      let role = word_read w row_bytes_lem 18 0 (omega (arith, row_size)) (ap (take 2) e) in rw role
  role_again (just r) h e =
      let x = role_fits_lem r h in
      let role = word_read w row_bytes_lem 18 r.role (omega (arith, row_size)) (ap (take 2) e) in
      let authority =
      word_read w row_bytes_lem 20 r.authority (omega (arith, row_size)) (ap (take 2) (sym (drop-drop 2 18 w)) ∙ ap (λ (y : List ℕ). take 2 (drop 2 y)) e) in
      rw (role, authority, x.there)

  kind_again : bits w 176 6 ≡ c.kind
  kind_again =
      let one : drop 22 w ≡ c.kind * 4 ∷ store =
      sym (drop-drop 4 18 w) ∙ ap (drop 4) (behind ∙ append_assoc (role_bytes c.role) (c.kind * 4 ∷ []) store)
      ∙ drop_at (role_bytes c.role) (c.kind * 4 ∷ store) 4 (role_long c.role) in
      let byte : get_or w 22 0 ≡ c.kind * 4 = sym (get_or-drop 22 w 0 0) ∙ ap (λ (y : List ℕ). get_or y 0 0) one in
      bits_in_byte w 22 0 6 (omega arith) ∙ omega (arith, byte, kind_is_lem)

  held_again : withoutRows no_role (roles_of w) ≡ map asserted_bytes c.asserted
  held_again =
      ap (λ (x : List ℕ). withoutRows no_role (slots_in x)) places_read
      ∙ few_slots no_role no_role_zeros (map asserted_bytes c.asserted) few
      ∙ few_there (map asserted_bytes c.asserted) few

  pub credential_again : credential_as w ≡ c
  credential_again =
      rw (
        number_again,
        subject_again,
        role_again c.role role_is behind,
        kind_again,
        ap (map asserted_of) held_again ∙ again_all c.asserted asserted_valid,
      )

  -- such a row may be held
  abbrev bare : Credential
  bare = record { number = c.number; subject = c.subject; role = c.role; kind = c.kind; asserted = [] }

  bare_again : credential_in (body_of w) [] ≡ bare
  bare_again =
      rw (
        bits_take 23 w 0 16 (omega arith),
        part_within 2 16 23 w (omega arith),
        bits_take 23 w 144 16 (omega arith),
        bits_take 23 w 160 16 (omega arith),
        bits_take 23 w 176 6 (omega arith),
        number_again,
        subject_again,
        role_again c.role role_is behind,
        kind_again,
      )

  bare_valid : valid_credential bare ≡ true
  unfolding valid_credential all distinct
  bare_valid =
      let k : (ltb c.kind 64 && leb (ones c.kind) 1) ≡ true = search (and_left, and_right) in
      and_both _ _ (and_both _ _ (and_both _ _ (and_both _ _ number_is subject_is_lem) role_is) k) refl

  body_stored : cred_storable (body_of w) ≡ true
  unfolding credential_bytes
  body_stored =
      cred_exact (body_of w) (bytes_take 23 w row_bytes_lem)
      ∙ ap (λ (x : Credential). valid_credential x && same (credential_bytes x) (body_of w)) bare_again
      ∙ and_both _ _ bare_valid (ap (same (credential_bytes c)) body_read ∙ same_refl (credential_bytes c))

  pub row_held : cred_sound w ≡ true
  unfolding cred_sound roles_sound
  row_held =
      let roles : (same (drop 23 w) (packed 16 (withoutRows no_role (roles_of w))) && distinct_roles (withoutRows no_role (roles_of w))) ≡ true =
      rw (held_again, places_read) (and_both _ _ (same_refl store) (distinct_few (map asserted_bytes c.asserted) few)) in
      and_both _ _ (and_both _ _ (eq-eqb (length w) 39 row_size) body_stored) roles
