-- Theorem: the effective permission over bytes is the typed effective permission of what is read.
use Rattle.rows.proofs.Prelude.{◌≡◌, refl, sym, ap, ap₂, ◌∙◌, Bool, true, false, not, ◌&&◌, ◌||◌, cond, and-false, List, [], ◌∷◌, map, ℕ, ◌≤◌, ◌<◌, arith}
use Rattle.rows.proofs.Prelude.{length, take, drop, eqb, ltb, bool_cases, contradiction, and_left, and_right, not-true, eqb-true, eqb-false, ne_eqb}
use Rattle.rows.proofs.Prelude.{drop_of_length-le, leb-true, length-take-le, length-drop, replicate}
use Rattle.rows.specs.Rows.{Row, same, all_zero, some, first_row, without as withoutRows}
use Rattle.rows.proofs.Kept.{same_true, same_refl}
use Rattle.rows.proofs.Laws.{zeros_replicate}
use Rattle.rules.specs.declared.Tables.{Tables as ByteTables}
use Rattle.rules.specs.declared.Table.TheVariants.{Creds, Aces}
use Rattle.rules.specs.declared.Sender.{Sender}
use Rattle.rules.specs.declared.Sender.TheVariants.{Unauthenticated, Partner}
use Rattle.rules.specs.Bodies.{nil, is_nil, row_number, cred_subject, cred_role, cred_authority, cred_storable, ace_kind, ace_role, ace_authority, ace_subject}
use Rattle.rules.specs.Bodies.{ace_connection, ace_storable, subject_storable}
use Rattle.rules.specs.Roles.{body_of, no_role, free, roles_of, cred_sound, asserted_role, asserted_authority, asserted_last, roles_in_force as rolesInForceBytes}
use Rattle.rules.specs.Sizes.{cred_body_size}
use Rattle.rules.specs.Tables.{head_of, rows, head_sound, row_owner as row_owner_bytes}
use Rattle.rules.specs.Permission.{is_row, sender_row, for_role, role_fits, subject_is, in_force, row_fits, grants, is_owner as isOwnerBytes, numbered}
use Rattle.rules.specs.Permission.{connection_of as connectionBit, subject_fits as subjectFitsBytes, resource_fits as resourceFitsBytes, names as namesBytes}
use Rattle.rules.specs.Permission.{by_owner as byOwnerBytes, by_no_owner as byNoOwnerBytes, by_roles as byRolesBytes, effective_of}
use Rattle.rules.proofs.Answers.{table_parts, sound_parts, rows_are}
use Rattle.rules.proofs.BodyLaws.{sized}
use Rattle.rules.proofs.BitLaws.{bits_small}
use Rattle.rules.proofs.RoleLaws.{held_parts}
use Rattle.rules.proofs.Alike.{first_none}
use Rattle.rules_typed.specs.Lists.{Maybe, none, just, without, is_none, holds}
use Rattle.rules_typed.specs.Types.{Asserted, Credential, Caller, SecurityResource, Doxm, Pstat, Cred, Acl2, Roles, Resource, Security, Application}
use Rattle.rules_typed.specs.Types.{ApplicationResource, Weight, Tare, Zero, Ticket, Lamp, Calib, Display, Yard}
use Rattle.rules_typed.specs.Permission.{connection_of, credential_of, caller_of, same_connection, same_role, expired, roles_in_force, has_role, subject_fits}
use Rattle.rules_typed.specs.Permission.{resource_fits, in_period, gives, names, row_owner, by_owner, by_no_owner, by_connection, effective, is_owner}
use Rattle.rules_typed.specs.Reading.{connection_as, owner_of, role_of, asserted_of, credential_as, subject_of, access_of, tables_of}
use Rattle.rules_typed.specs.Struct.{Given}
use Rattle.rules_typed.proofs.StateRead.{IsState}
use Rattle.rules_typed.proofs.ListLaws.{Each, union_read, any_read, find_read}
use Rattle.rules_typed.proofs.ByteLaws.{Good, good_rows, numbered_read, part_within}
use Rattle.rules_typed.proofs.DirectoryRead.{resource_as}
use Rattle.rules_typed.specs.Directory.{security_number}

-- ---- the rows of sound tables

pub creds_good : (t : ByteTables) → Given t → Each (Good cred_sound) (rows Creds t)
creds_good t g =
    let is = rows_are Creds t g.is_sound in
    rw is (good_rows cred_sound _ _ t.creds g.struct.creds_bytes (rw is at (table_parts Creds t g.is_sound).stores))

pub aces_good : (t : ByteTables) → Given t → Each (Good ace_storable) (rows Aces t)
aces_good t g =
    let is = rows_are Aces t g.is_sound in
    rw is (good_rows ace_storable _ _ t.aces g.struct.aces_bytes (rw is at (table_parts Aces t g.is_sound).stores))

pub is_state_lem : (t : ByteTables) → Given t → IsState t.state
unfolding head_sound
is_state_lem t g =
    let h = (sound_parts t g.is_sound).head in
    record { low = leb-true 1 t.state (search (and_left, and_right)); high = leb-true t.state 4 (search (and_left, and_right)) }

-- ---- the caller's credential row, or none

pub data Reads : Row → Maybe Credential → Type 0 where
  absent : Reads [] none
  present : (w : Row) → Good cred_sound w → Reads w (just (credential_as w))

first_each : (Q : Row → Type 0) (p : Row → Bool) (ws : List Row) → Each Q ws → some p ws ≡ true → Q (first_row p ws)
unfolding some first_row
first_each Q p [] q h = contradiction h refl
first_each Q p (w ∷ ws) q h = bool_cases (p w) (λ e. rw e q.0) (λ e. rw e (first_each Q p ws q.1 (rw e at h)))

pub cred_long : (w : Row) → Good cred_sound w → 2 ≤ length w
cred_long w g = omega (arith, sized Creds w g.0)

pub ace_long : (w : Row) → Good ace_storable w → 2 ≤ length w
ace_long w k = omega (arith, sized Aces w k.0)

-- a row's number, read
pub number_of_lem : (n : ℕ) (w : Row) → Good cred_sound w → eqb (row_number w) n ≡ numbered n w
number_of_lem n w g = sym (numbered_read w g.1 (cred_long w g) n)

pub own_reads : (t : ByteTables) → Given t → (s : Sender) → Reads (sender_row t s) (credential_of (tables_of t) s)
own_reads t g Unauthenticated = absent
own_reads t g (Partner n) =
    let ws = rows Creds t in
    let good = creds_good t g in
    let found = find_read credential_as (Good cred_sound) (numbered n) (λ c. eqb c.number n) (number_of_lem n) ws good in
    bool_cases (some (numbered n) ws)
    (λ e. rw (found, e) (present (first_row (numbered n) ws) (first_each (Good cred_sound) (numbered n) ws good e)))
    (λ e. rw (found, e, first_none (numbered n) ws e) absent)

-- ---- 1. access rows

-- the roles in force
pub roles_read : (clock : ℕ) (ps : List Row) → without (expired clock) (map asserted_of (withoutRows no_role ps)) ≡ map asserted_of (withoutRows (free clock) ps)
unfolding without withoutRows free expired
roles_read clock [] = refl
roles_read clock (p ∷ ps) =
    bool_cases (no_role p)
    (λ e. rw e (roles_read clock ps))
    (λ e. rw e (bool_cases (ltb (asserted_last p) clock) (λ f. rw f (roles_read clock ps))
    (λ f. rw f (ap (λ (m : List Asserted). asserted_of p ∷ m) (roles_read clock ps)))))

pub in_force_read : (clock : ℕ) (w : Row) → roles_in_force clock (credential_as w) ≡ map asserted_of (rolesInForceBytes clock w)
unfolding roles_in_force rolesInForceBytes
in_force_read clock w = roles_read clock (roles_of w)

each_any : (ps : List Row) → Each (λ _. Unit {0}) ps
each_any [] = tt
each_any (p ∷ ps) = (tt, each_any ps)

-- the stored role
stored_role : (a : Row) (role authority : ℕ) → eqb (ace_role a) 0 ≡ false
    → holds (role_of role authority) (same_role (record { role = ace_role a; authority = ace_authority a })) ≡ for_role a role authority
unfolding role_of same_role for_role
stored_role a role authority h =
    bool_cases (eqb role 0)
    (λ e. let z : role ≡ 0 = eqb-true role 0 e in rw (e, z, h))
    (λ e. rw e)

row_there : (w : Row) → Good cred_sound w → is_row w ≡ true
row_there w g = ap not (ne_eqb (length w) 0 (λ z. let l = cred_long w g in absurd (omega arith)))

role_read : (clock : ℕ) (w : Row) (a : Row) → Good cred_sound w → eqb (ace_role a) 0 ≡ false
    → has_role clock (record { role = ace_role a; authority = ace_authority a }) (credential_as w) ≡ role_fits clock w a
unfolding has_role role_fits for_role same_role
role_read clock w a g h =
    rw (row_there w g)
    (ap₂ (λ (x y : Bool). x || y) (stored_role a (cred_role w) (cred_authority w) h)
    (rw (in_force_read clock w)
    (any_read asserted_of (λ _. Unit {0}) (λ p. for_role a (asserted_role p) (asserted_authority p)) _ (λ p _. refl) (rolesInForceBytes clock w)
    (each_any (rolesInForceBytes clock w)))))

pub connection_read : (c : ℕ) (s : Sender) → c < 2 → same_connection (connection_as c) (connection_of s) ≡ eqb c (connectionBit s)
unfolding connection_as
connection_read c Unauthenticated l =
    bool_cases (eqb c 1)
    (λ e. let z : c ≡ 1 = eqb-true c 1 e in rw (e, z))
    (λ e. let z : c ≡ 0 = omega (arith, eqb-false c 1 e) in rw (e, z))
connection_read c (Partner n) l = bool_cases (eqb c 1) (λ e. rw e) (λ e. rw e)

-- a subject by its kind
pub ace_subject_lem : (a : Row) → ace_storable a ≡ true → subject_storable a ≡ true
unfolding ace_storable
ace_subject_lem a h = search (and_left, and_right)

module _ (clock : ℕ) (s : Sender) where
  abbrev pub by : Maybe Credential → Caller
  by m = record { connection = connection_of s; credential = m }

  pub uuid_read : (u : List ℕ) (w : Row) (m : Maybe Credential) → Reads w m → holds m (λ c. same u c.subject) ≡ (is_row w && same u (cred_subject w))
  uuid_read u w m absent = refl
  uuid_read u w m (present _ g) = rw (row_there w g)

  has_read : (a w : Row) (m : Maybe Credential) → Reads w m → eqb (ace_role a) 0 ≡ false
      → holds m (has_role clock (record { role = ace_role a; authority = ace_authority a })) ≡ role_fits clock w a
  unfolding role_fits
  has_read a w m absent h = refl
  has_read a w m (present _ g) h = role_read clock w a g h

  subject_read : (w : Row) (m : Maybe Credential) → Reads w m → (a : Row) → ace_storable a ≡ true
      → subject_fits clock (by m) (subject_of a) ≡ subjectFitsBytes clock w (connectionBit s) a
  unfolding subject_fits subject_of subjectFitsBytes subject_is subject_storable
  subject_read w m r a h =
      let k = ace_subject_lem a h in
      bool_cases (eqb (ace_kind a) 0) (λ e. rw e (uuid_read (ace_subject a) w m r))
      (λ e. bool_cases (eqb (ace_kind a) 1)
      (λ f. rw (e, f) (has_read a w m r (not-true _ (and_right (all_zero (take 12 (ace_subject a))) _ (rw (e, f) at k)))))
      (λ f. bool_cases (eqb (ace_kind a) 2) (λ g. rw (e, f, g) (connection_read (ace_connection a) s (bits_small a 223 1)))
      (λ g. contradiction (rw (e, f, g) at k) refl)))

  gives_read : (e : Resource) (w : Row) (m : Maybe Credential) → Reads w m → (a : Row) → Good ace_storable a
      → gives clock (by m) e (access_of a) ≡ grants clock w (connectionBit s) (resource_as e) a
  unfolding gives grants row_fits resource_fits resourceFitsBytes in_period in_force
  gives_read e w m r a g = rw (subject_read w m r a g.0)

-- ---- 2. owners

module _ (w : Row) (g : Good cred_sound w) where
  subject_same : cred_subject (body_of w) ≡ cred_subject w
  subject_same = part_within 2 16 cred_body_size w (omega arith)

  pub subject_there : is_nil (cred_subject w) ≡ false
  unfolding cred_storable
  subject_there =
      let b = (held_parts w g.0).body in
      let there : not (is_nil (cred_subject (body_of w))) ≡ true = search (and_left, and_right) in
      ap is_nil (sym subject_same) ∙ not-true _ there

  pub subject_long : length (cred_subject w) ≡ 16
  subject_long = length-take-le 16 (drop 2 w) (rw length-drop (omega (arith, sized Creds w g.0)))

pub zeros_nil : (u : List ℕ) → length u ≡ 16 → all_zero u ≡ true → is_nil u ≡ true
unfolding is_nil nil
zeros_nil u l z = let e : u ≡ replicate 16 0 = zeros_replicate u z ∙ ap (λ (n : ℕ). replicate n 0) l in rw e (same_refl (replicate 16 0))

pub nil_zeros : (u : List ℕ) → is_nil u ≡ true → all_zero u ≡ true
unfolding is_nil nil all_zero
nil_zeros u h = rw (same_true u (replicate 16 0) h)

-- nil is none
pub nil_none : (u : List ℕ) → length u ≡ 16 → is_none (owner_of u) ≡ is_nil u
unfolding owner_of
nil_none u l =
    bool_cases (all_zero u) (λ z. rw (z, zeros_nil u l z))
    (λ z. rw z (bool_cases (is_nil u) (λ n. contradiction (nil_zeros u n) z) (λ n. sym n)))

-- owned, as bodies and tables have it
pub owned_one : (u : List ℕ) (o : ℕ) → length u ≡ 16 → o ≡ cond (is_nil u) 0 1 → not (is_none (owner_of u)) ≡ eqb o 1
owned_one u o l e = rw (e, nil_none u l) (bool_cases (is_nil u) (λ n. rw n) (λ n. rw n))

pub names_read : (u : List ℕ) (w : Row) → Good cred_sound w → names (owner_of u) (credential_as w) ≡ namesBytes u w
unfolding owner_of namesBytes
names_read u w g =
    bool_cases (all_zero u)
    (λ z. rw z (bool_cases (same u (cred_subject w))
    (λ e. let is = same_true u (cred_subject w) e in
    contradiction (zeros_nil (cred_subject w) (subject_long w g) (ap all_zero (sym is) ∙ z)) (subject_there w g))
    (λ e. rw (e, and-false))))
    (λ z. rw z (bool_cases (is_nil u) (λ n. contradiction (nil_zeros u n) z) (λ n. rw n)))

pub row_owner_read : (t : ByteTables) → length t.rowners ≡ 64 → (s : SecurityResource)
    → row_owner (tables_of t) s ≡ owner_of (row_owner_bytes (head_of t) (security_number s))
unfolding row_owner_bytes owner_of all_zero
row_owner_read t l Doxm = refl
row_owner_read t l Pstat = refl
row_owner_read t l Cred = refl
row_owner_read t l Acl2 = refl
row_owner_read t l Roles =
    let none_left : length t.rowners ≤ 64 = omega arith in
    sym (ap (λ (x : List ℕ). owner_of (take 16 x)) (drop_of_length-le t.rowners none_left))

-- ---- the four sources

no_rights : (a : ApplicationResource) (c : ℕ) → 0 ≡ byRolesBytes c (resource_as (Application a))
unfolding byRolesBytes
no_rights Weight c = refl
no_rights Tare c = refl
no_rights Zero c = refl
no_rights Ticket c = refl
no_rights Lamp c = refl
no_rights Calib c = refl
no_rights Display c = refl
no_rights Yard c = refl

connection_by_read : (clock : ℕ) (s : Sender) (e : Resource) (m : Maybe Credential)
    → by_connection (by clock s m) e ≡ byRolesBytes (connectionBit s) (resource_as e)
unfolding byRolesBytes
connection_by_read clock Unauthenticated (Security Doxm) m = refl
connection_by_read clock Unauthenticated (Security Pstat) m = refl
connection_by_read clock Unauthenticated (Security Cred) m = refl
connection_by_read clock Unauthenticated (Security Acl2) m = refl
connection_by_read clock Unauthenticated (Security Roles) m = refl
connection_by_read clock Unauthenticated (Application a) m = no_rights a 0
connection_by_read clock (Partner n) (Security Doxm) m = refl
connection_by_read clock (Partner n) (Security Pstat) m = refl
connection_by_read clock (Partner n) (Security Cred) m = refl
connection_by_read clock (Partner n) (Security Acl2) m = refl
connection_by_read clock (Partner n) (Security Roles) m = refl
connection_by_read clock (Partner n) (Application a) m = no_rights a 1

module _ (t : ByteTables) (g : Given t) (s : Sender) where
  pub is_owner_read : (e : SecurityResource) (w : Row) (m : Maybe Credential) → Reads w m
      → is_owner (tables_of t) (by 0 s m) e ≡ isOwnerBytes (head_of t) w (security_number e)
  unfolding is_owner isOwnerBytes
  is_owner_read e w m absent = refl
  is_owner_read e w m (present _ k) =
      rw (
        row_there w k,
        names_read t.devowner w k,
        row_owner_read t g.struct.owners_long e,
        names_read (row_owner_bytes (head_of t) (security_number e)) w k,
      )

  owner_read : (e : Resource) (w : Row) (m : Maybe Credential) → Reads w m → by_owner (tables_of t) (by 0 s m) e ≡ byOwnerBytes (head_of t) w (resource_as e)
  unfolding byOwnerBytes
  owner_read (Security e) w m r = rw (is_owner_read e w m r)
  owner_read (Application a) w m r = refl

  pub owned_is : t.owned ≡ cond (is_nil t.devowner) 0 1
  unfolding head_sound
  owned_is =
      let h = (sound_parts t g.is_sound).head in
      let agrees : eqb t.owned (cond (is_nil t.devowner) 0 1) ≡ true = search (and_left, and_right) in
      eqb-true t.owned _ agrees

  pub owned_read : is_none (owner_of t.devowner) ≡ eqb t.owned 0
  owned_read = rw (owned_is, nil_none t.devowner g.struct.owner_long) (bool_cases (is_nil t.devowner) (λ n. rw n) (λ n. rw n))

  no_owner_read : (e : Resource) → by_no_owner (tables_of t) e ≡ byNoOwnerBytes (head_of t) (resource_as e)
  unfolding byNoOwnerBytes
  no_owner_read (Security e) = rw owned_read
  no_owner_read (Application a) = refl

  -- the effective permission of what is read is that of the bytes
  pub effective_read : (clock : ℕ) (e : Resource)
      → effective clock (tables_of t) (caller_of (tables_of t) s) e ≡ effective_of clock (head_of t) (rows Aces t) (sender_row t s) (connectionBit s) (resource_as e)
  unfolding effective effective_of
  effective_read clock e =
      let w = sender_row t s in
      let m = credential_of (tables_of t) s in
      let r = own_reads t g s in
      let granted = union_read access_of (Good ace_storable) (grants clock w (connectionBit s) (resource_as e)) (gives clock (by clock s m) e)
      (gives_read clock s e w m r)
      (rows Aces t) (aces_good t g) in
      rw (granted, owner_read e w m r, no_owner_read e, connection_by_read clock s e m)
