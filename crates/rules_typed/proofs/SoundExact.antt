-- Theorem: tables of bytes are sound exactly where they are the written form of sound typed tables; reading and writing are inverse on these.
use Rattle.rows.proofs.Prelude.{◌≡◌, refl, sym, ap₂, Bool, true, not, ◌&&◌, List, [], ◌∷◌, map, and_both, and_left, and_right, ap, ◌∙◌, ◌++◌, ℕ}
use Rattle.rows.proofs.Prelude.{arith, length, take, drop, not-true, take_at, drop_at, drop-drop, take_all, length-append, ◌||◌, contradiction, replicate}
use Rattle.rows.proofs.Prelude.{leb-true, length-map, length-replicate, false, le-ltb, or-false, not_of_false, ◌*◌, ◌≤◌, leb, ltb, ones, length-take-le}
use Rattle.rows.proofs.Prelude.{length-drop, le-leb, eqb, eqb-true, eq-eqb}
use Rattle.rules_typed.specs.Types.{Credential, Access, Uuid, State, RFOTM, RFPRO, RFNOP, SRESET, RowOwners, Tables, Asserted}
use Rattle.rules_typed.specs.Lists.{all, distinct, Maybe, none, just, is_none, any, when}
use Rattle.rules_typed.specs.Permission.{same_asserted}
use Rattle.rules_typed.specs.Tables.{valid_credential, valid_access, is_bytes, same_credential, same_access, uuid_or_none, is_uuid, sound, valid_asserted}
use Rattle.rules_typed.specs.Tables.{is_number, role_or_none}
use Rattle.rules_typed.specs.Reading.{credential_as, access_of, owner_of, state_of, owners_at, tables_of, asserted_of, credential_in, role_of, owner_at, same_tables}
use Rattle.rules_typed.specs.Reading.{read_tables}
use Rattle.rules_typed.specs.Writing.{credential_row, access_bytes, uuid_bytes, nil, row_owner_bytes, owned_number, written_tables}
use Rattle.rules_typed.proofs.RowWritten.{all_parts, credential_again, row_held, row_bytes_lem, uuid_bytes_lem}
use Rattle.rules_typed.proofs.AccessWritten.{access_again, access_stored, access_good}
use Rattle.rows.specs.Rows.{every, Row, numbered_as, distinct_numbers, all_zero, same, rows_of, packed, without as withoutRows}
use Rattle.rules.specs.Roles.{cred_sound, free, no_role, roles_in_force as rolesInForceBytes, body_of, roles_of}
use Rattle.rules.specs.Bodies.{ace_storable, is_nil, nil as nilBytes}
use Rattle.rules_typed.proofs.ListLaws.{Each, any_read}
use Rattle.rules_typed.proofs.ByteLaws.{Good, number_read, bytes_take, bits_take, part_within, bytes_drop}
use Rattle.rules_typed.proofs.PermissionRead.{cred_long, ace_long, owned_one, owned_is, creds_good, aces_good, is_state_lem}
use Rattle.rules_typed.proofs.RowExact.{uuid_long, uuid_there, cred_exact, access_exact, test_same}
use Rattle.rules_typed.proofs.RowsRead.{zero_bytes, bytes_join, Place, role_same, each_without, places_good}
use Rattle.rules_typed.specs.States.{state_number, is_state}
use Rattle.rules.specs.Tables.{head_sound, rows_sound, rows_in, sound as soundBytes, with_rows, rows, SoundRows}
use Rattle.rules.specs.declared.Table.TheVariants.{Creds, Aces}
use Rattle.rules.specs.Asserted.{Few}
use Rattle.rules.proofs.SoundKept.{sound_with}
use Rattle.rules.specs.declared.Tables.{Tables as ByteTables}
use Rattle.rules_typed.specs.Struct.{IsStruct, Given}
use Rattle.rules_typed.proofs.StructKept.{rows_struct}
use Rattle.rules.proofs.TableLaws.{rows_with, few_rows}
use Rattle.rules.specs.Bits.{bits}
use Rattle.rules.proofs.RoleLaws.{held_parts, few_in_force}
use Rattle.rules_typed.proofs.ActionRead.{role_body, owner_valid}
use Rattle.rules_typed.proofs.StateRead.{IsState, of_state}
use Rattle.rules.proofs.Answers.{sound_parts, table_parts}
use Rattle.rules.specs.declared.Sender.TheVariants.{Unauthenticated}
use Rattle.rows.proofs.Kept.{same_true, same_refl}
use Rattle.rules_typed.proofs.TablesBack.{tables_back}

-- ---- rows, written

credential_rows : (cs : List Credential) → all valid_credential cs ≡ true → map credential_as (map credential_row cs) ≡ cs
credential_rows [] v = refl
credential_rows (c ∷ cs) v =
    let x = all_parts valid_credential c cs v in ap₂ (λ (y : Credential) (ys : List Credential). y ∷ ys) (credential_again c x.0) (credential_rows cs x.1)

access_rows : (xs : List Access) → all valid_access xs ≡ true → map access_of (map access_bytes xs) ≡ xs
access_rows [] v = refl
access_rows (a ∷ xs) v = let x = all_parts valid_access a xs v in ap₂ (λ (y : Access) (ys : List Access). y ∷ ys) (access_again a x.0) (access_rows xs x.1)

credentials_held : (cs : List Credential) → all valid_credential cs ≡ true → every cred_sound (map credential_row cs) ≡ true
unfolding every
credentials_held [] v = refl
credentials_held (c ∷ cs) v = let x = all_parts valid_credential c cs v in and_both _ _ (row_held c x.0) (credentials_held cs x.1)

accesses_stored : (xs : List Access) → all valid_access xs ≡ true → every ace_storable (map access_bytes xs) ≡ true
unfolding every
accesses_stored [] v = refl
accesses_stored (a ∷ xs) v = let x = all_parts valid_access a xs v in and_both _ _ (access_stored a x.0) (accesses_stored xs x.1)

credentials_bytes : (cs : List Credential) → all valid_credential cs ≡ true → Each (λ w. is_bytes w ≡ true) (map credential_row cs)
credentials_bytes [] v = tt
credentials_bytes (c ∷ cs) v = let x = all_parts valid_credential c cs v in (row_bytes_lem c x.0, credentials_bytes cs x.1)

accesses_bytes : (xs : List Access) → all valid_access xs ≡ true → Each (λ w. is_bytes w ≡ true) (map access_bytes xs)
accesses_bytes [] v = tt
accesses_bytes (a ∷ xs) v = let x = all_parts valid_access a xs v in (access_good a x.0, accesses_bytes xs x.1)

-- ---- distinct numbers, over bytes and typed

module _ {A : Type 0} (read : Row → A) (Q : Row → Type 0) (sameAs : A → A → Bool)
    (e : (v w : Row) → Q v → Q w → sameAs (read v) (read w) ≡ numbered_as v w) where
  pub distinct_read : (ws : List Row) → Each Q ws → distinct sameAs (map read ws) ≡ distinct_numbers ws
  unfolding distinct distinct_numbers
  distinct_read [] q = refl
  distinct_read (w ∷ ws) q =
      ap₂ (λ (x y : Bool). not x && y) (any_read read Q (numbered_as w) (sameAs (read w)) (λ v k. e w v q.0 k) ws q.1) (distinct_read ws q.1)

pub same_credential_lem : (v w : Row) → Good cred_sound v → Good cred_sound w → same_credential (credential_as v) (credential_as w) ≡ numbered_as v w
same_credential_lem v w g h = sym (number_read w h.1 (cred_long w h) v g.1 (cred_long v g))

pub same_access_lem : (v w : Row) → Good ace_storable v → Good ace_storable w → same_access (access_of v) (access_of w) ≡ numbered_as v w
same_access_lem v w g h = sym (number_read w h.1 (ace_long w h) v g.1 (ace_long v g))

pub good_each : (p : Row → Bool) (ws : List Row) → every p ws ≡ true → Each (λ w. is_bytes w ≡ true) ws → Each (Good p) ws
unfolding every
good_each p [] h q = tt
good_each p (w ∷ ws) h q = ((and_left _ _ h, q.0), good_each p ws (and_right (p w) _ h) q.1)

-- ---- owners and the state, written and read again

pub uuid_size : (m : Maybe Uuid) → uuid_or_none m ≡ true → length (uuid_bytes m) ≡ 16
unfolding nil
uuid_size none h = refl
uuid_size (just u) h = uuid_long u h

uuid_good : (m : Maybe Uuid) → uuid_or_none m ≡ true → is_bytes (uuid_bytes m) ≡ true
unfolding nil
uuid_good none h = zero_bytes 16
uuid_good (just u) h = uuid_bytes_lem u h

uuid_again : (m : Maybe Uuid) → uuid_or_none m ≡ true → owner_of (uuid_bytes m) ≡ m
unfolding owner_of nil all_zero is_uuid
uuid_again none h = refl
uuid_again (just u) h = let there : not (all_zero u) ≡ true = search (and_left, and_right) in rw (not-true (all_zero u) there)

state_again : (s : State) → state_of (state_number s) ≡ s
unfolding state_of
state_again RFOTM = refl
state_again RFPRO = refl
state_again RFNOP = refl
state_again SRESET = refl

-- four of sixteen bytes
module _ (a b c d : List ℕ) (la : length a ≡ 16) (lb : length b ≡ 16) (lc : length c ≡ 16) (ld : length d ≡ 16) where
  abbrev four : List ℕ
  four = a ++ (b ++ (c ++ d))

  part_1 : take 16 four ≡ a
  part_1 = take_at a (b ++ (c ++ d)) 16 la

  part_2 : take 16 (drop 16 four) ≡ b
  part_2 = ap (take 16) (drop_at a (b ++ (c ++ d)) 16 la) ∙ take_at b (c ++ d) 16 lb

  behind_2 : drop 32 four ≡ c ++ d
  behind_2 = sym (drop-drop 16 16 four) ∙ ap (drop 16) (drop_at a (b ++ (c ++ d)) 16 la) ∙ drop_at b (c ++ d) 16 lb

  part_3 : take 16 (drop 32 four) ≡ c
  part_3 = ap (take 16) behind_2 ∙ take_at c d 16 lc

  part_4 : take 16 (drop 48 four) ≡ d
  part_4 = ap (take 16) (sym (drop-drop 16 32 four) ∙ ap (drop 16) behind_2 ∙ drop_at c d 16 lc) ∙ take_all 16 d (omega arith)

record OwnersGood (os : RowOwners) : Type 0 where
  doxm_good : uuid_or_none os.doxm ≡ true
  pstat_good : uuid_or_none os.pstat ≡ true
  cred_good : uuid_or_none os.cred ≡ true
  acl2_good : uuid_or_none os.acl2 ≡ true

module _ (os : RowOwners) (g : OwnersGood os) where
  record Parts : Type 0 where
    one : take 16 (row_owner_bytes os) ≡ uuid_bytes os.doxm
    two : take 16 (drop 16 (row_owner_bytes os)) ≡ uuid_bytes os.pstat
    three : take 16 (drop 32 (row_owner_bytes os)) ≡ uuid_bytes os.cred
    four_th : take 16 (drop 48 (row_owner_bytes os)) ≡ uuid_bytes os.acl2

  parts : Parts
  parts =
      let a = uuid_bytes os.doxm in
      let b = uuid_bytes os.pstat in
      let c = uuid_bytes os.cred in
      let d = uuid_bytes os.acl2 in
      let la = uuid_size os.doxm g.doxm_good in
      let lb = uuid_size os.pstat g.pstat_good in
      let lc = uuid_size os.cred g.cred_good in
      let ld = uuid_size os.acl2 g.acl2_good in
      record { one = part_1 a b c d la lb lc ld; two = part_2 a b c d la lb lc ld; three = part_3 a b c d la lb lc ld; four_th = part_4 a b c d la lb lc ld }

  owners_again : owners_at (row_owner_bytes os) ≡ os
  owners_again =
      rw (
        parts.one,
        parts.two,
        parts.three,
        parts.four_th,
        uuid_again os.doxm g.doxm_good,
        uuid_again os.pstat g.pstat_good,
        uuid_again os.cred g.cred_good,
        uuid_again os.acl2 g.acl2_good,
      )

  owners_size : length (row_owner_bytes os) ≡ 64
  owners_size =
      simp (
        length-append,
        uuid_size os.doxm g.doxm_good,
        uuid_size os.pstat g.pstat_good,
        uuid_size os.cred g.cred_good,
        uuid_size
            os.acl2 g.acl2_good,
      )
      (omega arith)

  owners_bytes : is_bytes (row_owner_bytes os) ≡ true
  owners_bytes =
      bytes_join (uuid_bytes os.doxm) _ (uuid_good os.doxm g.doxm_good)
      (bytes_join (uuid_bytes os.pstat) _ (uuid_good os.pstat g.pstat_good)
      (bytes_join (uuid_bytes os.cred) _ (uuid_good os.cred g.cred_good) (uuid_good os.acl2 g.acl2_good)))

-- ---- sound typed tables, written

head_written : (s : State) (m : Maybe Uuid) (os : List ℕ) (n k : ℕ) → uuid_or_none m ≡ true → (is_state s RFOTM || not (is_none m)) ≡ true
    → head_sound (record { state = state_number s; owned = owned_number m; ncreds = n; naces = k; devowner = uuid_bytes m; rowners = os }) ≡ true
unfolding head_sound is_state is_nil nilBytes nil same
head_written RFOTM none os n k h e = refl
head_written RFOTM (just u) os n k h e = rw (uuid_there u h)
head_written RFPRO none os n k h e = contradiction e refl
head_written RFPRO (just u) os n k h e = rw (uuid_there u h)
head_written RFNOP none os n k h e = contradiction e refl
head_written RFNOP (just u) os n k h e = rw (uuid_there u h)
head_written SRESET none os n k h e = contradiction e refl
head_written SRESET (just u) os n k h e = rw (uuid_there u h)

no_creds : rows_sound Creds 0 (replicate 936 0) ≡ true
unfolding rows_sound rows_in all_zero every rows_of distinct_numbers
no_creds = refl

no_aces_lem : rows_sound Aces 0 (replicate 1152 0) ≡ true
unfolding rows_sound rows_in all_zero every rows_of distinct_numbers
no_aces_lem = refl

module _ (T : Tables) (s : sound T ≡ true) where
  owner_good : uuid_or_none T.owner ≡ true
  unfolding sound
  owner_good = search (and_left, and_right) depth 9

  four_good : OwnersGood T.row_owners
  unfolding sound
  four_good = record {
    doxm_good = search (and_left, and_right) depth 9;
    pstat_good = search (and_left, and_right) depth 9;
    cred_good = search (and_left, and_right) depth 9;
    acl2_good = search (and_left, and_right) depth 9;
  }

  state_good : (is_state T.state RFOTM || not (is_none T.owner)) ≡ true
  unfolding sound
  state_good = search (and_left, and_right) depth 9

  creds_valid : all valid_credential T.credentials ≡ true
  unfolding sound
  creds_valid = search (and_left, and_right) depth 9

  aces_valid : all valid_access T.accesses ≡ true
  unfolding sound
  aces_valid = search (and_left, and_right) depth 9

  abbrev cs : List Row
  cs = map credential_row T.credentials

  abbrev xs : List Row
  xs = map access_bytes T.accesses

  -- the rows are sound
  creds_sound : SoundRows Creds cs
  unfolding sound
  creds_sound =
      let few = leb-true (length T.credentials) 24 (search (and_left, and_right) depth 9) in
      let apart : distinct same_credential T.credentials ≡ true = search (and_left, and_right) depth 9 in
      let held = credentials_held T.credentials creds_valid in
      record {
        few = rw length-map few;
        stores = held;
        distinct =
            sym (distinct_read credential_as (Good cred_sound) same_credential same_credential_lem cs
            (good_each cred_sound cs held (credentials_bytes T.credentials creds_valid)))
            ∙ ap (distinct same_credential) (credential_rows T.credentials creds_valid) ∙ apart;
      }

  aces_sound : SoundRows Aces xs
  unfolding sound
  aces_sound =
      let few = leb-true (length T.accesses) 32 (search (and_left, and_right) depth 9) in
      let apart : distinct same_access T.accesses ≡ true = search (and_left, and_right) depth 9 in
      let stored = accesses_stored T.accesses aces_valid in
      record {
        few = rw length-map few;
        stores = stored;
        distinct =
            sym (distinct_read access_of (Good ace_storable) same_access same_access_lem xs
            (good_each ace_storable xs stored (accesses_bytes T.accesses aces_valid)))
            ∙ ap (distinct same_access) (access_rows T.accesses aces_valid) ∙ apart;
      }

  -- without rows, and with them
  abbrev base : ByteTables
  base = record {
    state = state_number T.state;
    owned = owned_number T.owner;
    ncreds = 0;
    naces = 0;
    devowner = uuid_bytes T.owner;
    rowners = row_owner_bytes T.row_owners;
    creds = replicate 936 0;
    aces = replicate 1152 0;
  }

  base_sound : soundBytes base ≡ true
  unfolding soundBytes
  base_sound = and_both _ _ (and_both _ _ (head_written T.state T.owner (row_owner_bytes T.row_owners) 0 0 owner_good state_good) no_creds) no_aces_lem

  base_struct : IsStruct base
  base_struct = record {
    owner_long = uuid_size T.owner owner_good;
    owners_long = owners_size T.row_owners four_good;
    creds_long = length-replicate {A = ℕ} 936 0;
    aces_long = length-replicate {A = ℕ} 1152 0;
    owner_bytes = uuid_good T.owner owner_good;
    owners_bytes = owners_bytes T.row_owners four_good;
    creds_bytes = zero_bytes 936;
    aces_bytes = zero_bytes 1152;
  }

  abbrev full : ByteTables
  full = with_rows Aces (with_rows Creds base cs) xs

  is_full : written_tables T ≡ full
  is_full =
      ap₂ (λ (n k : ℕ). record {
        state = state_number T.state;
        owned = owned_number T.owner;
        ncreds = n;
        naces = k;
        devowner = uuid_bytes T.owner;
        rowners = row_owner_bytes T.row_owners;
        creds = packed 936 cs;
        aces = packed 1152 xs;
      })
      (sym (length-map T.credentials credential_row)) (sym (length-map T.accesses access_bytes))

  pub sound_written : soundBytes (written_tables T) ≡ true
  sound_written = ap soundBytes is_full ∙ sound_with Aces (with_rows Creds base cs) xs (sound_with Creds base cs base_sound creds_sound) aces_sound

  pub struct_written : IsStruct (written_tables T)
  struct_written =
      rw is_full
      (rows_struct Aces (with_rows Creds base cs) xs aces_sound (accesses_bytes T.accesses aces_valid)
      (rows_struct Creds base cs creds_sound (credentials_bytes T.credentials creds_valid) base_struct))

  pub tables_again : tables_of (written_tables T) ≡ T
  tables_again =
      ap tables_of is_full
      ∙ rw (
        state_again T.state,
        uuid_again T.owner owner_good,
        owners_again T.row_owners four_good,
        ap (map credential_as) (rows_with Creds base cs creds_sound.few creds_sound.stores) ∙ credential_rows T.credentials creds_valid,
        ap (map access_of) (rows_with Aces (with_rows Creds base cs) xs aces_sound.few aces_sound.stores) ∙ access_rows T.accesses aces_valid,
      )

-- ---- sound tables of bytes, read

free_none : (p : Row) → free 0 p ≡ no_role p
unfolding free
free_none p = ap (λ (b : Bool). no_role p || b) (le-ltb (bits p 32 32) 0 (omega arith)) ∙ or-false (no_role p)

without_same : (f g : Row → Bool) → ((p : Row) → f p ≡ g p) → (ps : List Row) → withoutRows f ps ≡ withoutRows g ps
unfolding withoutRows
without_same f g e [] = refl
without_same f g e (p ∷ ps) = rw (e p, without_same f g e ps)

place_valid : (p : Row) → Place p → no_role p ≡ false → valid_asserted (asserted_of p) ≡ true
place_valid p q r = and_left _ _ (sym (role_body p q.1 q.0) ∙ not_of_false _ r)

few_valid : (ps : List Row) → Few ps → Each Place ps
    → (leb (length (map asserted_of ps)) 2 && all valid_asserted (map asserted_of ps) && distinct same_asserted (map asserted_of ps)) ≡ true
unfolding all distinct any
few_valid [] f q = refl
few_valid (p ∷ []) f q = rw (place_valid p q.0 f.1)
few_valid (p ∷ r ∷ []) f q =
    rw (
      place_valid p q.0 f.0.1,
      place_valid r q.1.0 f.1.1,
      role_same p r q.0.0 (omega (arith, q.0.1)) q.1.0.0 (omega (arith, q.1.0.1)),
      f.2,
    )
few_valid (p ∷ r ∷ x ∷ ps) f q = absurd f

body_same : (w : Row) → credential_in (body_of w) [] ≡ credential_in w []
body_same w =
    rw (
      bits_take 23 w 0 16 (omega arith),
      part_within 2 16 23 w (omega arith),
      bits_take 23 w 144 16 (omega arith),
      bits_take 23 w 160 16 (omega arith),
      bits_take 23 w 176 6 (omega arith),
    )

with_roles : (w : Row) (rs : List Asserted) → valid_credential (credential_in w []) ≡ true
    → (leb (length rs) 2 && all valid_asserted rs && distinct same_asserted rs) ≡ true → valid_credential (credential_in w rs) ≡ true
unfolding valid_credential
with_roles w rs h p =
    let n : is_number (bits w 0 16) ≡ true = search (and_left, and_right) in
    let s : is_uuid (take 16 (drop 2 w)) ≡ true = search (and_left, and_right) in
    let r : role_or_none (role_of (bits w 144 16) (bits w 160 16)) ≡ true = search (and_left, and_right) in
    let k : (ltb (bits w 176 6) 64 && leb (ones (bits w 176 6)) 1) ≡ true = search (and_left, and_right) in
    and_both _ _ (and_both _ _ (and_both _ _ (and_both _ _ n s) r) k) p

credential_valid : (w : Row) → Good cred_sound w → valid_credential (credential_as w) ≡ true
unfolding rolesInForceBytes
credential_valid w g =
    let held = held_parts w g.0 in
    let body = and_left _ _ (sym (cred_exact (body_of w) (bytes_take 23 w g.1)) ∙ held.body) in
    let is = withoutRows no_role (roles_of w) in
    let few : Few is = rw (sym (without_same (free 0) no_role free_none (roles_of w))) (few_in_force 0 w held) in
    let store = few_valid is few (each_without Place no_role (roles_of w) (places_good w g)) in
    with_roles w (map asserted_of is) (ap valid_credential (sym (body_same w)) ∙ body) store

access_is_valid : (w : Row) → Good ace_storable w → valid_access (access_of w) ≡ true
access_is_valid w g = and_left _ _ (sym (access_exact w g.1) ∙ g.0)

pub all_valid : {A : Type 0} (read : Row → A) (passes : A → Bool) (Q : Row → Type 0) → ((w : Row) → Q w → passes (read w) ≡ true) → (ws : List Row) → Each Q ws
    → all passes (map read ws) ≡ true
unfolding all
all_valid read passes Q e [] q = refl
all_valid read passes Q e (w ∷ ws) q = and_both _ _ (e w q.0) (all_valid read passes Q e ws q.1)

first_state : (s : ℕ) → IsState s → is_state (state_of s) RFOTM ≡ eqb s 1
unfolding state_of is_state
first_state s h = of_state (λ s. is_state (state_of s) RFOTM ≡ eqb s 1) refl refl refl refl s h

module _ (t : ByteTables) (g : Given t) where
  row_owner_good : (n : ℕ) → n ≤ 3 → uuid_or_none (owner_at n t.rowners) ≡ true
  row_owner_good n l =
      let x = t.rowners in
      let long = g.struct.owners_long in
      owner_valid (take 16 (drop (n * 16) x)) (length-take-le 16 (drop (n * 16) x) (rw length-drop (omega arith)))
      (bytes_take 16 (drop (n * 16) x) (bytes_drop (n * 16) x g.struct.owners_bytes))

  state_or_owner : (is_state (state_of t.state) RFOTM || not (is_none (owner_of t.devowner))) ≡ true
  unfolding head_sound
  state_or_owner =
      let h = (sound_parts t g.is_sound).head in
      let either : (eqb t.state 1 || eqb t.owned 1) ≡ true = search (and_left, and_right) in
      rw (first_state t.state (is_state_lem t g), owned_one t.devowner t.owned g.struct.owner_long (owned_is t g Unauthenticated)) either

  pub sound_read : sound (tables_of t) ≡ true
  unfolding sound
  sound_read =
      let cs = creds_good t g in
      let xs = aces_good t g in
      let few-creds : leb (length (map credential_as (rows Creds t))) 24 ≡ true = rw length-map (le-leb _ 24 (few_rows Creds t g.is_sound)) in
      let few-aces : leb (length (map access_of (rows Aces t))) 32 ≡ true = rw length-map (le-leb _ 32 (few_rows Aces t g.is_sound)) in
      let creds-apart =
      distinct_read credential_as (Good cred_sound) same_credential same_credential_lem (rows Creds t) cs ∙ (table_parts Creds t g.is_sound).distinct in
      let aces-apart = distinct_read access_of (Good ace_storable) same_access same_access_lem (rows Aces t) xs ∙ (table_parts Aces t g.is_sound).distinct in
      let owner = owner_valid t.devowner g.struct.owner_long g.struct.owner_bytes in
      let owners =
      and_both _ _ (and_both _ _ (and_both _ _ (and_both _ _ owner (row_owner_good 0 (omega arith))) (row_owner_good 1 (omega arith)))
      (row_owner_good 2 (omega arith))) (row_owner_good 3 (omega arith)) in
      and_both _ _
      (and_both _ _
      (and_both _ _
      (and_both _ _
      (and_both _ _
      (and_both _ _
      (and_both _ _ few-creds few-aces)
      (all_valid credential_as valid_credential (Good cred_sound) credential_valid (rows Creds t) cs))
      (all_valid access_of valid_access (Good ace_storable) access_is_valid (rows Aces t) xs))
      creds-apart)
      aces-apart)
      owners)
      state_or_owner

-- ---- exactly

same_is : (t u : ByteTables) → same_tables t u ≡ true → t ≡ u
unfolding same_tables
same_is t u h =
    let state = eqb-true t.state u.state (search (and_left, and_right) depth 9) in
    let owned = eqb-true t.owned u.owned (search (and_left, and_right) depth 9) in
    let ncreds = eqb-true t.ncreds u.ncreds (search (and_left, and_right) depth 9) in
    let naces = eqb-true t.naces u.naces (search (and_left, and_right) depth 9) in
    let devowner = same_true t.devowner u.devowner (search (and_left, and_right) depth 9) in
    let rowners = same_true t.rowners u.rowners (search (and_left, and_right) depth 9) in
    let creds = same_true t.creds u.creds (search (and_left, and_right) depth 9) in
    let aces = same_true t.aces u.aces (search (and_left, and_right) depth 9) in
    λ i. record {
      state = state i;
      owned = owned i;
      ncreds = ncreds i;
      naces = naces i;
      devowner = devowner i;
      rowners = rowners i;
      creds = creds i;
      aces = aces i;
    }

same_self : (t : ByteTables) → same_tables t t ≡ true
unfolding same_tables
same_self t =
    rw (
      eq-eqb t.state t.state refl,
      eq-eqb t.owned t.owned refl,
      eq-eqb t.ncreds t.ncreds refl,
      eq-eqb t.naces t.naces refl,
      same_refl t.devowner,
      same_refl t.rowners,
      same_refl t.creds,
      same_refl t.aces,
    )

module _ (t : ByteTables) (i : IsStruct t) where
  abbrev T : Tables
  T = tables_of t

  -- sound over bytes: the written form of sound typed tables
  pub sound_exact : soundBytes t ≡ (sound T && same_tables (written_tables T) t)
  sound_exact =
      test_same _ _
      (λ s. let g : Given t = record { is_sound = s; struct = i } in and_both _ _ (sound_read t g) (rw (tables_back t g) (same_self t)))
      (λ s. ap soundBytes (sym (same_is (written_tables T) t (and_right (sound T) _ s))) ∙ sound_written T (and_left _ _ s))

  pub read_is : read_tables t ≡ when (soundBytes t) T
  unfolding read_tables
  read_is = ap (λ (b : Bool). when b T) (sym sound_exact)

-- sound typed tables are read from their written form
pub written_read : (T : Tables) → sound T ≡ true → read_tables (written_tables T) ≡ just T
unfolding when
written_read T s = read_is (written_tables T) (struct_written T s) ∙ rw (sound_written T s, tables_again T s)
