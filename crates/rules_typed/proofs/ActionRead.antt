-- Theorem: what a body asks over bytes is what it asks typed; 10 of both is the same bodies.
use Rattle.rows.proofs.Prelude.{◌≡◌, refl, sym, ap, ◌∙◌, Bool, true, not, ◌&&◌, List, [], ◌∷◌, ℕ, ◌+◌, ◌*◌, ◌<◌, ◌≤◌, arith, length, cond, eqb, eqb-true}
use Rattle.rows.proofs.Prelude.{eqb-false, bool_cases, ◌%◌, ◌/◌, and_left, and_right, and_both, eq-eqb, cond_cases, drop, ltb-true, ltb, and-true, leb}
use Rattle.rows.proofs.Prelude.{leb-true, le-leb, lt-ltb, take, take_at, replicate, map, drop_at, length-append, length-take, length-drop, false}
use Rattle.rules.specs.declared.Action.{Action as ByteAction}
use Rattle.rules_typed.specs.Lists.{Maybe, when, just, none}
use Rattle.rules_typed.specs.Types.{Action, State, RFOTM, RFPRO, RFNOP, SRESET, Target, Reset, To, Doxm, SetOwner, Pstat, Move, StoreCredential}
use Rattle.rules_typed.specs.Types.{Credential, Cred, StoreAccess, Acl2, Roles, AssertRole, SecurityResource, Rows, Numbered, DeleteCredentials}
use Rattle.rules_typed.specs.Types.{DeleteSubject, DeleteAccesses, Verb, Create, Retrieve, Update, Delete, Observe, Resource, Security, Application}
use Rattle.rules_typed.proofs.ActionAs.{action_as, owned_by}
use Rattle.rules.specs.Action.{if_allowed, update_doxm, update_pstat, store_row, update_rows, update_roles, update_action, delete_action, delete_creds, delete_aces}
use Rattle.rules.specs.Action.{delete_number, read_action, security_action, action_of as actionOfBytes, action}
use Rattle.rules_typed.specs.Bodies.{asking, update, new_row_owner, with_authority, with_period, row_numbered, delete, read, action_of}
use Rattle.rules.specs.Bodies.{is_nil, owner_body, state_body, new_owned, cred_row_of, cred_storable, nil, ace_storable, ace_row_of, every_second}
use Rattle.rows.specs.Rows.{all_zero, same, without as withoutRows, rows_of}
use Rattle.rules_typed.proofs.RowExact.{test_same, uuid_is, number_fits, number_there, cred_exact, access_exact}
use Rattle.rules_typed.proofs.PermissionRead.{nil_zeros, zeros_nil}
use Rattle.rules_typed.specs.Tables.{is_bytes, uuid_or_none, valid_asserted, valid_role, valid_credential, valid_access}
use Rattle.rules_typed.specs.Reading.{owner_of, target_of, state_of, asserted_of, credential_as, credential_in, read_owner, read_target, read_credential}
use Rattle.rules_typed.specs.Reading.{read_access, access_of, read_asserted}
use Rattle.rules_typed.specs.Writing.{owner_bytes, target_number, target_bytes, asserted_bytes, credential_bytes, access_bytes}
use Rattle.rules.specs.Bits.{bits, bit}
use Rattle.rules.proofs.BitLaws.{bits_in_byte, bits_small}
use Rattle.rules_typed.proofs.ReplyRead.{uuid_back, owned_number_lem}
use Rattle.rows.proofs.Kept.{same_refl}
use Rattle.rules_typed.specs.States.{state_number}
use Rattle.rules_typed.proofs.StateRead.{to_four, verb_number}
use Rattle.rules.specs.Roles.{no_role, unasserted, roles_of, cred_sound}
use Rattle.rules_typed.proofs.WriteBack.{asserted_back}
use Rattle.rules_typed.proofs.ByteLaws.{bits_take, part_within, bytes_take, bytes_drop}
use Rattle.rules.proofs.RoleLaws.{unasserted_is}
use Rattle.rules.specs.declared.Action.TheVariants.{Malformed, SetOwner as OwnerSet, SetState, Store, Assert, Remove}
use Rattle.rules.specs.Tables.{row_of}
use Rattle.rules.specs.declared.Table.TheVariants.{Creds, Aces}
use Rattle.rules_typed.proofs.RowsRead.{bytes_join}
use Rattle.rules.specs.declared.Key.TheVariants.{Number, Subject}
use Rattle.rules_typed.specs.Directory.{security_number}
use Rattle.rules_typed.proofs.ChecksRead.{Names, header_as}
use Rattle.rules.specs.Record.{body, connection}
use Rattle.rules.specs.declared.Header.{Header}

-- ---- by a number, and by a test

record AsRead (b : List ℕ) (x : ByteAction) (y : Maybe Action) : Type 0 where
  is : action_as b x ≡ y

module _ (b : List ℕ) where
  pick_read : (n m : ℕ) {x z : ByteAction} {y u : Maybe Action} → (n ≡ m → AsRead b x y) → ((n ≡ m → ⊥) → AsRead b z u)
      → AsRead b (cond (eqb n m) x z) (cond (eqb n m) y u)
  pick_read n m f g = bool_cases (eqb n m) (λ e. rw e (f (eqb-true n m e))) (λ e. rw e (g (eqb-false n m e)))

  allowed_read : (t u : Bool) (x : ByteAction) (y : Action) → t ≡ u → action_as b x ≡ just y → AsRead b (if_allowed t x) (when u y)
  unfolding if_allowed when
  allowed_read t u x y e f = rw (← e) (bool_cases t (λ z. rw z (record { is = f })) (λ z. rw z (record { is = refl })))

asked_when : {A : Type 0} (f : A → Action) (t : Bool) (x : A) → asking f (when t x) ≡ when t (f x)
unfolding when
asked_when f t x = bool_cases t (λ z. rw z) (λ z. rw z)

-- ---- doxm, 17 bytes

zero_nil : (u : List ℕ) → length u ≡ 16 → is_nil u ≡ all_zero u
zero_nil u l = test_same _ _ (nil_zeros u) (zeros_nil u l)

pub owner_valid : (u : List ℕ) → length u ≡ 16 → is_bytes u ≡ true → uuid_or_none (owner_of u) ≡ true
unfolding owner_of
owner_valid u l h = bool_cases (all_zero u) (λ z. rw z) (λ z. rw z (uuid_is u l h (zero_nil u l ∙ z)))

owner_test : (x k : ℕ) → x < 256 → k < 2 → (eqb (x % 128) 0 && eqb (x / 128) k) ≡ eqb (k * 128) x
owner_test x k h l =
    test_same _ _
    (λ e. let low = eqb-true (x % 128) 0 (and_left _ _ e) in let high = eqb-true (x / 128) k (and_right (eqb (x % 128) 0) _ e) in eq-eqb (k * 128) x
    (omega arith))
    (λ e. let is = eqb-true (k * 128) x e in and_both _ _ (eq-eqb (x % 128) 0 (omega arith)) (eq-eqb (x / 128) k (omega arith)))

nil_small : (u : List ℕ) → cond (is_nil u) 0 1 < 2
nil_small u = cond_cases (λ n. n < 2) (is_nil u) (λ _. omega arith) (λ _. omega arith)

owner_body_lem : (b : List ℕ) → length b ≡ 17 → is_bytes b ≡ true
    → owner_body b ≡ (uuid_or_none (owner_of (drop 1 b)) && same (owner_bytes (owner_of (drop 1 b))) b)
unfolding owner_body owner_bytes same is_bytes
owner_body_lem [] l h = absurd (omega arith)
owner_body_lem (x ∷ u) l h =
    let long : length u ≡ 16 = omega arith in
    let small : x < 256 = ltb-true x 256 (and_left _ _ h) in
    let zeros : bits (x ∷ u) 1 7 ≡ x % 128 = bits_in_byte (x ∷ u) 0 1 7 (omega arith) ∙ omega arith in
    let top : bits (x ∷ u) 0 1 ≡ x / 128 = bits_in_byte (x ∷ u) 0 0 1 (omega arith) ∙ omega arith in
    rw (zeros, top, owner_valid u long (and_right (ltb x 256) _ h), uuid_back u long, same_refl u, owned_number_lem u (cond (is_nil u) 0 1) long refl)
    (owner_test x (cond (is_nil u) 0 1) small (nil_small u) ∙ sym (and-true _))

-- ---- pstat, 1 byte

state_small : (s : State) → state_number s ≤ 4
state_small RFOTM = omega arith
state_small RFPRO = omega arith
state_small RFNOP = omega arith
state_small SRESET = omega arith

target_small : (s : Target) → target_number s ≤ 4
target_small Reset = omega arith
target_small (To s) = state_small s

target_number_lem : (t : ℕ) → t ≤ 4 → target_number (target_of t) ≡ t
unfolding target_of state_of
target_number_lem t h = to_four (λ t. target_number (target_of t) ≡ t) refl refl refl refl refl t h

target_test : (x k : ℕ) → x < 256 → k ≤ 4 → (x / 32 ≤ 4 → k ≡ x / 32) → (leb (x / 32) 4 && eqb (x % 32) 0) ≡ eqb (k * 32) x
target_test x k h l f =
    test_same _ _
    (λ e. let low = eqb-true (x % 32) 0 (and_right (leb (x / 32) 4) _ e) in let is = f (leb-true (x / 32) 4 (and_left _ _ e)) in eq-eqb (k * 32) x
    (omega arith))
    (λ e. let is = eqb-true (k * 32) x e in and_both _ _ (le-leb (x / 32) 4 (omega arith)) (eq-eqb (x % 32) 0 (omega arith)))

target_body : (b : List ℕ) → length b ≡ 1 → is_bytes b ≡ true → state_body b ≡ (true && same (target_bytes (target_of (bits b 0 3))) b)
unfolding state_body target_bytes same is_bytes
target_body [] l h = absurd (omega arith)
target_body (x ∷ y ∷ u) l h = absurd (omega arith)
target_body (x ∷ []) l h =
    let small : x < 256 = ltb-true x 256 (and_left _ _ h) in
    let low : bits (x ∷ []) 3 5 ≡ x % 32 = bits_in_byte (x ∷ []) 0 3 5 (omega arith) ∙ omega arith in
    let top : bits (x ∷ []) 0 3 ≡ x / 32 = bits_in_byte (x ∷ []) 0 0 3 (omega arith) ∙ omega arith in
    rw (low, top) (target_test x (target_number (target_of (x / 32))) small (target_small (target_of (x / 32))) (target_number_lem (x / 32)) ∙ sym (and-true _))

-- ---- roles, 8 bytes

pub role_body : (b : List ℕ) → length b ≡ 8 → is_bytes b ≡ true → not (no_role b) ≡ (valid_asserted (asserted_of b) && same (asserted_bytes (asserted_of b)) b)
unfolding no_role valid_asserted valid_role
role_body b l h =
    test_same _ _
    (λ e. and_both _ _ (and_both _ _ (and_both _ _ (number_fits b 16 e) (lt-ltb (bits b 0 16) 65536 (bits_small b 0 16)))
    (lt-ltb (bits b 32 32) 4294967296 (bits_small b 32 32)))
    (rw (asserted_back b h l) (same_refl b)))
    (λ e. number_there (bits b 16 16) (and_left _ _ (and_left _ _ (and_left _ _ e))))

-- ---- cred: the row that a body of 23 bytes stores has its fields, and nothing asserted

module _ (c : List ℕ) (l : length c ≡ 23) where
  abbrev w : List ℕ
  w = unasserted c

  whole : take 23 w ≡ c
  whole = take_at c (replicate 16 0) 23 l

  field : (s n : ℕ) → s + n ≤ 184 → bits w s n ≡ bits c s n
  field s n h = sym (bits_take 23 w s n h) ∙ ap (λ (x : List ℕ). bits x s n) whole

  none_asserted : map asserted_of (withoutRows no_role (roles_of w)) ≡ []
  unfolding rows_of withoutRows no_role bits bit
  none_asserted = ap (λ (x : List ℕ). map asserted_of (withoutRows no_role (rows_of 8 2 x))) (drop_at c (replicate 16 0) 23 l)

  pub stored_read : credential_as w ≡ credential_in c []
  stored_read =
      rw (
        field 0 16 (omega arith),
        sym (part_within 2 16 23 w (omega arith)) ∙ ap (λ (x : List ℕ). take 16 (drop 2 x)) whole,
        field 144 16 (omega arith),
        field 160 16 (omega arith),
        field 176 6 (omega arith),
        none_asserted,
      )

  pub cred_body_lem : is_bytes c ≡ true → cred_sound w ≡ (valid_credential (credential_in c []) && same (credential_bytes (credential_in c [])) c)
  cred_body_lem h = unasserted_is c l ∙ cred_exact c h

long_authority : (b : List ℕ) → length b ≡ 21 → length (with_authority b) ≡ 23
long_authority b l = simp (length-append, length-take, length-drop) (omega arith)

bytes_authority : (b : List ℕ) → is_bytes b ≡ true → is_bytes (with_authority b) ≡ true
unfolding is_bytes
bytes_authority b h = bytes_join (take 20 b) (0 ∷ 0 ∷ drop 20 b) (bytes_take 20 b h) (bytes_drop 20 b h)

zeros_held : cred_sound (unasserted (replicate 23 0)) ≡ false
unfolding cred_storable bits bit is_nil nil same
zeros_held = unasserted_is (replicate 23 0) refl

bytes_period : (b : List ℕ) → is_bytes b ≡ true → is_bytes (with_period b) ≡ true
unfolding is_bytes
bytes_period b h = bytes_join b (0 ∷ 0 ∷ 0 ∷ 0 ∷ 255 ∷ 255 ∷ 255 ∷ 255 ∷ []) h refl

zeros_stored : ace_storable (replicate 36 0) ≡ false
unfolding ace_storable bits bit
zeros_stored = refl

-- ---- UPDATE, by the resource

module _ (b : List ℕ) (h : is_bytes b ≡ true) where
  malformed : AsRead b Malformed none
  malformed = record { is = refl }

  doxm_read : AsRead b (update_doxm b) (update Doxm b)
  unfolding update_doxm new_row_owner owned_by read_owner
  doxm_read =
      pick_read b (length b) 16 (λ _. record { is = refl })
      (λ _. pick_read b (length b) 17
      (λ l. rw (asked_when SetOwner (uuid_or_none (owner_of (drop 1 b)) && same (owner_bytes (owner_of (drop 1 b))) b) (owner_of (drop 1 b)))
      (allowed_read b (owner_body b) _ (OwnerSet (new_owned b)) (SetOwner (owner_of (drop 1 b))) (owner_body_lem b l h) refl))
      (λ _. malformed))

  pstat_read : AsRead b (update_pstat b) (update Pstat b)
  unfolding update_pstat new_row_owner owned_by read_target
  pstat_read =
      pick_read b (length b) 16 (λ _. record { is = refl })
      (λ _. pick_read b (length b) 1
      (λ l. rw (asked_when Move (true && same (target_bytes (target_of (bits b 0 3))) b) (target_of (bits b 0 3)))
      (allowed_read b (state_body b) _ (SetState (bits b 0 3)) (Move (target_of (bits b 0 3))) (target_body b l h) refl))
      (λ _. malformed))

  -- a body c of 23 bytes, as which b is read
  cred_of : (c : List ℕ) → row_of Creds b ≡ unasserted c → length c ≡ 23 → is_bytes c ≡ true
      → AsRead b (store_row Creds b) (asking StoreCredential (read_credential c))
  unfolding store_row read_credential
  cred_of c e l i =
      rw (asked_when StoreCredential (valid_credential (credential_in c []) && same (credential_bytes (credential_in c [])) c) (credential_in c []))
      (allowed_read b (cred_sound (row_of Creds b)) _ (Store Creds) (StoreCredential (credential_in c []))
      (ap cred_sound e ∙ cred_body_lem c l i) (ap (λ (w : List ℕ). just (StoreCredential (credential_as w))) e
      ∙ ap (λ (x : Credential). just (StoreCredential x)) (stored_read c l)))

  no_cred : row_of Creds b ≡ unasserted (replicate 23 0) → AsRead b (store_row Creds b) none
  unfolding store_row if_allowed
  no_cred e = rw (ap cred_sound e ∙ zeros_held) (record { is = refl })

  cred_read : AsRead b (update_rows 2 Creds b) (update Cred b)
  unfolding update_rows new_row_owner owned_by cred_row_of
  cred_read =
      pick_read b (length b) 16 (λ _. record { is = refl })
      (λ _. bool_cases (eqb (length b) 23)
      (λ e. let l = eqb-true (length b) 23 e in rw e (cred_of b (rw e) l h))
      (λ e. bool_cases (eqb (length b) 21)
      (λ f. let l = eqb-true (length b) 21 f in rw (e, f) (cred_of (with_authority b) (rw (e, f)) (long_authority b l) (bytes_authority b h)))
      (λ f. rw (e, f) (no_cred (rw (e, f))))))

  access_of_lem : (c : List ℕ) → row_of Aces b ≡ c → is_bytes c ≡ true → AsRead b (store_row Aces b) (asking StoreAccess (read_access c))
  unfolding store_row read_access
  access_of_lem c e i =
      rw (asked_when StoreAccess (valid_access (access_of c) && same (access_bytes (access_of c)) c) (access_of c))
      (allowed_read b (ace_storable (row_of Aces b)) _ (Store Aces) (StoreAccess (access_of c))
      (ap ace_storable e ∙ access_exact c i) (ap (λ (w : List ℕ). just (StoreAccess (access_of w))) e))

  no_access : row_of Aces b ≡ replicate 36 0 → AsRead b (store_row Aces b) none
  unfolding store_row if_allowed
  no_access e = rw (ap ace_storable e ∙ zeros_stored) (record { is = refl })

  access_read : AsRead b (update_rows 3 Aces b) (update Acl2 b)
  unfolding update_rows new_row_owner owned_by ace_row_of every_second
  access_read =
      pick_read b (length b) 16 (λ _. record { is = refl })
      (λ _. bool_cases (eqb (length b) 36)
      (λ e. rw e (access_of_lem b (rw e) h))
      (λ e. bool_cases (eqb (length b) 28) (λ f. rw (e, f) (access_of_lem (with_period b) (rw (e, f)) (bytes_period b h))) (λ f. rw (e, f) (no_access (rw (e, f))))))

  roles_read : (c : ℕ) → AsRead b (update_roles c b) (update Roles b)
  unfolding update_roles read_asserted
  roles_read c =
      pick_read b (length b) 8
      (λ l. rw (asked_when AssertRole (valid_asserted (asserted_of b) && same (asserted_bytes (asserted_of b)) b) (asserted_of b))
      (allowed_read b (not (no_role b)) _ (Assert c) (AssertRole (asserted_of b)) (role_body b l h) refl))
      (λ _. malformed)

  update_read : (c : ℕ) (s : SecurityResource) → AsRead b (update_action c (security_number s) b) (update s b)
  unfolding update_action
  update_read c Doxm = doxm_read
  update_read c Pstat = pstat_read
  update_read c Cred = cred_read
  update_read c Acl2 = access_read
  update_read c Roles = roles_read c

  -- ---- DELETE, and the verbs without a body

  numbered_read : (k : ByteAction) (delete : Rows → Action) → action_as b k ≡ just (delete (Numbered (bits b 0 16)))
      → AsRead b (if_allowed (not (eqb (bits b 0 16) 0)) k) (row_numbered delete b)
  unfolding row_numbered
  numbered_read k delete e = allowed_read b (not (eqb (bits b 0 16) 0)) _ k (delete (Numbered (bits b 0 16))) refl e

  delete_read : (s : SecurityResource) → AsRead b (delete_action (security_number s) b) (delete s b)
  unfolding delete_action delete_creds delete_aces delete_number
  delete_read Doxm = malformed
  delete_read Pstat = malformed
  delete_read Cred =
      pick_read b (length b) 0 (λ _. record { is = refl })
      (λ _. pick_read b (length b) 2 (λ _. numbered_read (Remove Creds Number) DeleteCredentials refl)
      (λ _. pick_read b (length b) 16
      (λ l. allowed_read b (not (is_nil b)) _ (Remove Creds Subject) (DeleteSubject b) (ap not (zero_nil b l)) refl)
      (λ _. malformed)))
  delete_read Acl2 =
      pick_read b (length b) 0 (λ _. record { is = refl })
      (λ _. pick_read b (length b) 2 (λ _. numbered_read (Remove Aces Number) DeleteAccesses refl) (λ _. malformed))
  delete_read Roles = malformed

  read_read : AsRead b (read_action b) (read b)
  unfolding read_action read when
  read_read = pick_read b (length b) 0 (λ _. record { is = refl }) (λ _. malformed)

  security_read : (c : ℕ) (s : SecurityResource) (v : Verb) → AsRead b (security_action (verb_number v) c (security_number s) b) (action_of (Security s) v b)
  unfolding security_action
  security_read c s Create = malformed
  security_read c s Retrieve = read_read
  security_read c s Update = update_read c s
  security_read c s Delete = delete_read s
  security_read c s Observe = read_read

-- of a record whose header has this verb and this resource
pub action_read : (r : List ℕ) → is_bytes r ≡ true → (v : Verb) (e : Resource) → Names r v e → action_as (body r) (action r) ≡ action_of e v (body r)
unfolding actionOfBytes
action_read r h v e k = ap (λ (x : Header). action_as (body r) (actionOfBytes x (body r))) k ∙ by e
  where
    by : (e : Resource) → action_as (body r) (actionOfBytes (header_as r v e) (body r)) ≡ action_of e v (body r)
    by (Security s) = (security_read (body r) (bytes_drop 4 r h) (connection r) s v).is
    by (Application a) = refl
