-- Theorem: the tables after a permitted record, read, are the typed tables afterwards.
use Rattle.rows.proofs.Prelude.{◌≡◌, refl, sym, ap, ◌∙◌, true, false, List, [], ◌∷◌, ◌++◌, map, ℕ, zero, suc, ◌*◌, ◌≤◌, arith, length, take, drop, set, eqb}
use Rattle.rows.proofs.Prelude.{bool_cases, length-set, length-append, length-take, length-drop, drop_of_length-le, get_or}
use Rattle.rows.specs.Rows.{Row, rows_of, packed, with_row, all_zero, stored as storedRows}
use native.Mathlib.Nat.{le_of_eq}
use Rattle.rows.specs.Promises.{IsTable}
use Rattle.rows.proofs.Laws.{put_set, length_rows_of, row_is}
use Rattle.rows.proofs.Kept.{AllLong, long_rows_of, rows_of_packed}
use Rattle.rules.specs.declared.Tables.{Tables as ByteTables}
use Rattle.rules.specs.declared.Table.TheVariants.{Creds, Aces}
use Rattle.rules.specs.declared.Key.TheVariants.{All, Number, Subject}
use Rattle.rules.specs.declared.Action.{Action as ByteAction}
use Rattle.rules.specs.declared.Action.TheVariants.{Serve, Read, SetRowOwner, SetOwner, SetState, Store, Remove, Assert, Malformed}
use Rattle.rules.specs.Record.{Request as ByteRequest, body, sender}
use Rattle.rules.specs.Bodies.{row_number, ace_storable}
use Rattle.rules.specs.Roles.{cred_sound, asserted, no_role, both_taken, roles_in_force}
use Rattle.rules.specs.Keys.{goes}
use Rattle.rules.specs.Tables.{rows, row_of, with_rows, SoundRows}
use Rattle.rules.specs.Defaults.{Defaults, fresh}
use Rattle.rules.specs.Permission.{sender_row}
use Rattle.rules.specs.Outcome.{entered, effect_by}
use Rattle.rules.proofs.BodyLaws.{sized}
use Rattle.rules.proofs.TableLaws.{rows_with}
use Rattle.rules.proofs.SoundKept.{Passed, stored_sound, removed_sound, asserted_sound}
use Rattle.rules.proofs.OwnRow.{asserts, own_storable}
use Rattle.rules_typed.specs.Lists.{Maybe, put}
use Rattle.rules_typed.specs.Types.{Credential, Access, Tables, All as AllRows, RowOwners}
use Rattle.rules_typed.specs.Permission.{caller_of, credential_of}
use Rattle.rules_typed.specs.Checks.{has_number, has_subject, is_numbered, of_credentials, of_accesses}
use Rattle.rules_typed.specs.Effect.{effect_of, set_row_owner, with_row_owners, with_credentials, with_accesses, asserting}
use Rattle.rules_typed.specs.Struct.{Given}
use Rattle.rules_typed.specs.Reading.{target_of, owner_of, credential_as, access_of, asserted_of, tables_of, owners_at}
use Rattle.rules_typed.specs.Tables.{is_bytes}
use Rattle.rules_typed.proofs.ListLaws.{put_read, without_read}
use Rattle.rules_typed.proofs.ByteLaws.{Good, number_read, bytes_drop}
use Rattle.rules_typed.proofs.PermissionRead.{Reads, absent, present, creds_good, aces_good, own_reads, cred_long, ace_long}
use Rattle.rules_typed.proofs.RowsRead.{row_bytes_lem, number_key, subject_key}
use Rattle.rules_typed.proofs.RoleRead.{asserted_read, asserted_good}
use Rattle.rules_typed.proofs.Removals.{Removed}
use Rattle.rules_typed.proofs.ActionAs.{owned_by, action_as}

-- ---- row owners

long_set : (s : ℕ) (ws : List Row) (i : ℕ) (w : Row) → length w ≡ s → AllLong s ws → AllLong s (set ws i w)
long_set s [] i w l a = tt
long_set s (v ∷ ws) zero w l a = (l, a.1)
long_set s (v ∷ ws) (suc i) w l a = (a.0, long_set s ws i w l a.1)

owners_set : (n : ℕ) (b x : List ℕ) → n ≤ 3 → length b ≡ 16 → length x ≡ 64 → rows_of 16 4 (with_row 16 n b x) ≡ set (rows_of 16 4 x) n b
unfolding with_row all_zero
owners_set n b x h l m =
    let long : length (take (n * 16) x ++ (b ++ drop 16 (drop (n * 16) x))) ≡ length x = simp (length-append, length-take, length-drop) (omega arith) in
    let table : IsTable 16 4 x = record { numbered = omega arith; fits = omega arith; zeros = rw (drop_of_length-le x (le_of_eq m)) } in
    let is = put_set 16 4 x table n b (with_row 16 n b x) (omega arith) refl long in
    let all = long_set 16 (rows_of 16 4 x) n b l (long_rows_of 16 4 x (omega arith)) in
    let four : length (set (rows_of 16 4 x) n b) ≡ 4 = length-set (rows_of 16 4 x) n b ∙ length_rows_of 16 4 x in
    ap (rows_of 16 4) is ∙ ap (λ (k : ℕ). rows_of 16 k (packed (length x) (set (rows_of 16 4 x) n b))) (sym four)
    ∙ rows_of_packed 16 (length x) (set (rows_of 16 4 x) n b) all

-- the four of them, read
abbrev owners_in : List Row → RowOwners
owners_in ws = record { doxm = owner_of (get_or ws 0 []); pstat = owner_of (get_or ws 1 []); cred = owner_of (get_or ws 2 []); acl2 = owner_of (get_or ws 3 []) }

owners_are : (x : List ℕ) → owners_in (rows_of 16 4 x) ≡ owners_at x
owners_are x = rw (row_is 16 4 0 x (omega arith), row_is 16 4 1 x (omega arith), row_is 16 4 2 x (omega arith), row_is 16 4 3 x (omega arith))

one_set : (b x : List ℕ) (n : ℕ) → n ≤ 3 → owners_in (set (rows_of 16 4 x) n b) ≡ set_row_owner (owned_by n) (owner_of b) (owners_in (rows_of 16 4 x))
unfolding rows_of owned_by
one_set b x zero h = refl
one_set b x (suc zero) h = refl
one_set b x (suc (suc zero)) h = refl
one_set b x (suc (suc (suc zero))) h = refl
one_set b x (suc (suc (suc (suc n)))) h = absurd (omega arith)

owner_set : (n : ℕ) (b x : List ℕ) → n ≤ 3 → length b ≡ 16 → length x ≡ 64 → owners_at (with_row 16 n b x) ≡ set_row_owner (owned_by n) (owner_of b) (owners_at x)
owner_set n b x h l m =
    sym (owners_are (with_row 16 n b x)) ∙ ap owners_in (owners_set n b x h l m) ∙ one_set b x n h ∙ ap (set_row_owner (owned_by n) (owner_of b)) (owners_are x)

-- ---- rows put into the tables

creds_put : (t : ByteTables) (ws : List Row) → SoundRows Creds ws → map credential_as (rows Creds (with_rows Creds t ws)) ≡ map credential_as ws
creds_put t ws x = ap (map credential_as) (rows_with Creds t ws x.few x.stores)

aces_put : (t : ByteTables) (ws : List Row) → SoundRows Aces ws → map access_of (rows Aces (with_rows Aces t ws)) ≡ map access_of ws
aces_put t ws x = ap (map access_of) (rows_with Aces t ws x.few x.stores)

module _ (t : ByteTables) (g : Given t) where
  cred_stored : (new : Row) → Good cred_sound new
      → put (has_number (row_number new)) (credential_as new) (map credential_as (rows Creds t)) ≡ map credential_as (storedRows new (rows Creds t))
  cred_stored new n =
      put_read credential_as (Good cred_sound) new (has_number (row_number new))
      (λ w k. sym (number_read w k.1 (cred_long w k) new n.1 (cred_long new n))) (rows Creds t) (creds_good t g)

  ace_stored : (new : Row) → Good ace_storable new
      → put (is_numbered (row_number new)) (access_of new) (map access_of (rows Aces t)) ≡ map access_of (storedRows new (rows Aces t))
  ace_stored new n =
      put_read access_of (Good ace_storable) new (is_numbered (row_number new))
      (λ w k. sym (number_read w k.1 (ace_long w k) new n.1 (ace_long new n))) (rows Aces t) (aces_good t g)

  abbrev read_with : List Credential → Tables
  read_with cs = with_credentials cs (tables_of t)

  abbrev read_beside : List Access → Tables
  read_beside xs = with_accesses xs (tables_of t)

  assert_read : (clock : ℕ) (b : List ℕ) → is_bytes b ≡ true → length b ≡ 8 → no_role b ≡ false → (w : Row) (m : Maybe Credential) → Reads w m → cred_sound w ≡ true
      → both_taken b (roles_in_force clock w) ≡ false
      → asserting clock (asserted_of b) m (tables_of t) ≡ read_with (map credential_as (storedRows (asserted clock b w) (rows Creds t)))
  assert_read clock b h l v w m absent e room = let z = sized Creds w e in absurd (omega arith)
  assert_read clock b h l v w m (present _ k) e room =
      ap (λ (c : Credential). read_with (put (has_number c.number) c (map credential_as (rows Creds t)))) (sym (asserted_read clock b w k h l v room))
      ∙ ap read_with (cred_stored (asserted clock b w) (asserted_good clock b w k h l v room))

  module _ (d : Defaults) (q : ByteRequest) (h : is_bytes q.bytes ≡ true) where
    abbrev b : List ℕ
    b = body q.bytes

    b_bytes : is_bytes b ≡ true
    b_bytes = bytes_drop 4 q.bytes h

    pub effect_read : (a : ByteAction) → Passed t q a → Removed b a
        → tables_of (effect_by d t q a) ≡ effect_of (tables_of (fresh d)) q.clock (tables_of t) (caller_of (tables_of t) (sender q.bytes)) (action_as b a)
    unfolding entered target_of
    effect_read Serve x k = refl
    effect_read Read x k = refl
    effect_read (SetRowOwner n) x k =
        ap (λ (os : RowOwners). with_row_owners os (tables_of t)) (owner_set n b t.rowners x.valid.1 x.valid.0 g.struct.owners_long)
    effect_read (SetOwner o) x k = refl
    effect_read (SetState n) x k = bool_cases (eqb n 0) (λ e. rw e) (λ e. rw e)
    effect_read (Store Creds) x k =
        ap read_with (creds_put t _ (stored_sound Creds t q g.is_sound x) ∙ sym (cred_stored (row_of Creds b) (x.valid, row_bytes_lem Creds b b_bytes)))
    effect_read (Store Aces) x k =
        ap read_beside (aces_put t _ (stored_sound Aces t q g.is_sound x) ∙ sym (ace_stored (row_of Aces b) (x.valid, row_bytes_lem Aces b b_bytes)))
    effect_read (Remove Creds All) x k =
        ap read_with (creds_put t _ (removed_sound Creds t (goes All b) g.is_sound)
        ∙ sym (without_read credential_as (Good cred_sound) (goes All b) (of_credentials AllRows) (λ w y. refl) (rows Creds t) (creds_good t g)))
    effect_read (Remove Creds Number) x k =
        ap read_with (creds_put t _ (removed_sound Creds t (goes Number b) g.is_sound)
        ∙ sym (without_read credential_as (Good cred_sound) (goes Number b) (has_number (row_number b)) (λ w y. number_key b w b_bytes k y.1 (cred_long w y))
        (rows Creds t) (creds_good t g)))
    effect_read (Remove Creds Subject) x k =
        ap read_with (creds_put t _ (removed_sound Creds t (goes Subject b) g.is_sound)
        ∙ sym (without_read credential_as (Good cred_sound) (goes Subject b) (has_subject b) (λ w y. subject_key b w k) (rows Creds t) (creds_good t g)))
    effect_read (Remove Aces All) x k =
        ap read_beside (aces_put t _ (removed_sound Aces t (goes All b) g.is_sound)
        ∙ sym (without_read access_of (Good ace_storable) (goes All b) (of_accesses AllRows) (λ w y. refl) (rows Aces t) (aces_good t g)))
    effect_read (Remove Aces Number) x k =
        ap read_beside (aces_put t _ (removed_sound Aces t (goes Number b) g.is_sound)
        ∙ sym (without_read access_of (Good ace_storable) (goes Number b) (is_numbered (row_number b)) (λ w y. number_key b w b_bytes k y.1 (ace_long w y))
        (rows Aces t) (aces_good t g)))
    effect_read (Remove Aces Subject) x k = absurd k
    effect_read (Assert c) x k =
        let r = q.bytes in
        let w = sender_row t (sender r) in
        let a = asserts t r c x.valid x.allowed x.long x.known in
        ap read_with (creds_put t _ (asserted_sound c t q g.is_sound x))
        ∙ sym (assert_read q.clock b b_bytes x.valid.1 x.valid.2 w (credential_of (tables_of t) (sender r)) (own_reads t g (sender r))
        (own_storable t r g.is_sound a) x.placed)
    effect_read Malformed x k = refl
