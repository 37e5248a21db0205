-- Theorem: with sound tables a record that passes 2 to 6 gets the typed checks' verdict on what is read.
use Rattle.rows.proofs.Prelude.{◌≡◌, refl, sym, ap, ◌∙◌, Bool, true, not, ◌&&◌, ◌||◌, cond, List, [], ◌∷◌, map, ℕ, ◌≤◌, arith, length, eqb, ltb, bool_cases}
use Rattle.rows.proofs.Prelude.{length-map, length-drop, or-false, ◌++◌, ap₂}
use Rattle.rows.specs.Rows.{Row, some, numbered_as}
use Rattle.rules.specs.declared.Tables.{Tables as ByteTables}
use Rattle.rules.specs.declared.Table.TheVariants.{Creds, Aces}
use Rattle.rules.specs.declared.Key.TheVariants.{All, Number, Subject}
use Rattle.rules.specs.declared.Action.{Action as ByteAction}
use Rattle.rules.specs.declared.Action.TheVariants.{Serve, Read, SetRowOwner, SetOwner, SetState, Store, Remove, Assert, Malformed}
use Rattle.rules.specs.declared.Check.{Check}
use Rattle.rules.specs.declared.Check.TheVariants.{Refuse}
use Rattle.rules.specs.declared.Sender.{Sender}
use Rattle.rules.specs.declared.Sender.TheVariants.{Unauthenticated, Partner}
use Rattle.rules.specs.Record.{Request as ByteRequest, header_of, body, sender, connection, header_zeros, credential}
use Rattle.rules.specs.Bodies.{new_owner, row_number, ace_storable}
use Rattle.rules.specs.Roles.{cred_sound, roles_in_force as rolesInForceBytes}
use Rattle.rules.specs.Keys.{goes}
use Rattle.rules.specs.Tables.{head_of, rows, row_of}
use Rattle.rules.specs.States.{move_allowed, state_allows as stateAllowsBytes}
use Rattle.rules.specs.Permission.{numbered, sender_row, connection_of as connectionBit, has as hasBytes, permission_of as permissionOfBytes, permission}
use Rattle.rules.specs.Reading.{reply_to as replyToBytes, too_short, reads}
use Rattle.rules.specs.Checks.{verdict, no_row, no_endpoint, not_permitted, not_offered, is_malformed, bad_target, missing, full, roles_full}
use Rattle.rules.specs.Checks.{no_credential as noCredentialBytes, offered}
use Rattle.rules.proofs.Answers.{rows_count}
use Rattle.rules.specs.Action.{action_of, action}
use Rattle.rules.proofs.BodyLaws.{Valid, action_valid}
use Rattle.rules.proofs.RecordLaws.{connection_is}
use Rattle.rules_typed.specs.Lists.{any, is_none, list_of, Maybe}
use Rattle.rules_typed.specs.Types.{Caller, AuthCrypt, Resource, Security, Application, Action, Tables, Verb, Request}
use Rattle.rules_typed.specs.Permission.{connection_of, credential_of, caller_of, same_connection, has}
use Rattle.rules_typed.specs.States.{owned, state_allows}
use Rattle.rules_typed.specs.Checks.{no_credential, takes, needs, offers, has_number, has_subject, is_numbered, action_checks, permission_of, request_checks}
use Rattle.rules_typed.specs.Struct.{Given}
use Rattle.rules_typed.specs.Reading.{owner_of, credential_as, access_of, tables_of}
use Rattle.rules_typed.specs.Tables.{is_bytes}
use Rattle.rules_typed.proofs.ListLaws.{any_read, find_read}
use Rattle.rules_typed.proofs.ByteLaws.{Good, number_read, bytes_drop}
use Rattle.rules_typed.proofs.PermissionRead.{creds_good, aces_good, own_reads, number_of_lem, cred_long, ace_long, owned_is, owned_one, is_state_lem}
use Rattle.rules_typed.proofs.PermissionRead.{effective_read}
use Rattle.rules_typed.proofs.StateRead.{IsState, serves_read, owners_read, rows_read, target_read, owner_read, move_read, needs_read, offers_read}
use Rattle.rules_typed.proofs.StateRead.{verb_number}
use Rattle.rules_typed.proofs.RowsRead.{row_bytes_lem, number_key, subject_key, taken_read}
use Rattle.rules_typed.proofs.ReplyRead.{reply_back}
use Rattle.rules_typed.proofs.Removals.{Removed, removed}
use Rattle.rules_typed.specs.Directory.{entry, number_of, row_of as directoryRow}
use Rattle.rules_typed.proofs.ActionAs.{action_as}
use Rattle.rules_typed.proofs.DirectoryRead.{resource_as}
use Rattle.rules_typed.specs.Reply.{reply_to}
use Rattle.rules_typed.specs.Writing.{reply_bytes}
use Rattle.rules.specs.declared.Header.{Header}

-- ---- 7 and 16

pub no_credential_lem : (t : ByteTables) → Given t → (s : Sender) → no_credential (tables_of t) s ≡ no_row (rows Creds t) s
no_credential_lem t g Unauthenticated = refl
no_credential_lem t g (Partner n) =
    rw (find_read credential_as (Good cred_sound) (numbered n) (λ c. eqb c.number n) (number_of_lem n) (rows Creds t) (creds_good t g))
    (bool_cases (some (numbered n) (rows Creds t)) (λ e. rw e) (λ e. rw e))

takes_read : (e : Resource) (s : Sender) (c : ℕ) → c ≡ connectionBit s
    → not (takes e (connection_of s)) ≡ (not (entry e).configuration && not ((eqb c 1 && (entry e).secure) || (eqb c 0 && (entry e).unsecure)))
takes_read (Security x) s c z = refl
takes_read (Application a) Unauthenticated c z = rw z
takes_read (Application a) (Partner n) c z = rw z (ap not (sym (or-false (directoryRow a).secure)))

pub connection_one : (s : Sender) → same_connection (connection_of s) AuthCrypt ≡ eqb (connectionBit s) 1
connection_one Unauthenticated = refl
connection_one (Partner n) = refl

-- ---- what an action asks

-- the checks from 10 on, over bytes
unfoldable pub action_bytes : ℕ → ByteTables → Row → List ℕ → Bool → ByteAction → List (ℕ × Bool)
action_bytes clock t w b short a =
    (10, is_malformed a)
    ∷ (11, not (stateAllowsBytes t.state a))
    ∷ (12, bad_target (head_of t) a)
    ∷ (13, missing t b a)
    ∷ (14, full t b a)
    ∷ (22, roles_full (rolesInForceBytes clock w) b a)
    ∷ (15, short)
    ∷ []

-- and typed
abbrev from_ten : ℕ → Tables → Caller → Bool → Maybe Action → List (ℕ × Bool)
from_ten clock t who long m =
    (10, is_none m) ∷ list_of m (λ a. (11, not (state_allows t.state who.connection a)) ∷ action_checks clock t who a) ++ ((15, long) ∷ [])

module _ (t : ByteTables) (g : Given t) (s : Sender) where
  st : IsState t.state
  st = is_state_lem t g

  has_owner_lem : owned (owner_of t.devowner) ≡ eqb t.owned 1
  has_owner_lem = owned_one t.devowner t.owned g.struct.owner_long (owned_is t g s)

  -- a new credential, and a new access row
  held_cred : (new : Row) → Good cred_sound new → any (has_number (row_number new)) (map credential_as (rows Creds t)) ≡ some (numbered_as new) (rows Creds t)
  held_cred new n =
      any_read credential_as (Good cred_sound) (numbered_as new) (has_number (row_number new))
      (λ w k. sym (number_read w k.1 (cred_long w k) new n.1 (cred_long new n))) (rows Creds t) (creds_good t g)

  held_ace : (new : Row) → Good ace_storable new → any (is_numbered (row_number new)) (map access_of (rows Aces t)) ≡ some (numbered_as new) (rows Aces t)
  held_ace new n =
      any_read access_of (Good ace_storable) (numbered_as new) (is_numbered (row_number new))
      (λ w k. sym (number_read w k.1 (ace_long w k) new n.1 (ace_long new n))) (rows Aces t) (aces_good t g)

  module _ (clock : ℕ) (b : List ℕ) (h : is_bytes b ≡ true) (short : Bool) where
    abbrev who : Caller
    who = caller_of (tables_of t) s

    abbrev Same : ByteAction → Type 0
    Same a = verdict (action_bytes clock t (sender_row t s) b short a) ≡ verdict (from_ten clock (tables_of t) who short (action_as b a))

    gone_cred : length b ≡ 2 → any (has_number (row_number b)) (map credential_as (rows Creds t)) ≡ some (goes Number b) (rows Creds t)
    gone_cred l =
        any_read credential_as (Good cred_sound) (goes Number b) (has_number (row_number b)) (λ w k. number_key b w h l k.1 (cred_long w k)) (rows Creds t)
        (creds_good t g)

    gone_subject : length b ≡ 16 → any (has_subject b) (map credential_as (rows Creds t)) ≡ some (goes Subject b) (rows Creds t)
    gone_subject l = any_read credential_as (Good cred_sound) (goes Subject b) (has_subject b) (λ w k. subject_key b w l) (rows Creds t) (creds_good t g)

    gone_ace : length b ≡ 2 → any (is_numbered (row_number b)) (map access_of (rows Aces t)) ≡ some (goes Number b) (rows Aces t)
    gone_ace l =
        any_read access_of (Good ace_storable) (goes Number b) (is_numbered (row_number b)) (λ w k. number_key b w h l k.1 (ace_long w k)) (rows Aces t)
        (aces_good t g)

    pub action_checks_lem : (c : ℕ) → c ≡ connectionBit s → (a : ByteAction) → Valid c b a → Removed b a → Same a
    unfolding action_bytes verdict move_allowed
    action_checks_lem c z Serve v k = rw (serves_read t.state st)
    action_checks_lem c z Read v k = refl
    action_checks_lem c z (SetRowOwner n) v k = rw (owners_read t.state st)
    action_checks_lem c z (SetOwner o) v k =
        rw (owner_read t.state (owner_of (new_owner b)) st, owned_one (new_owner b) o (rw length-drop (omega (arith, v.0))) v.1)
    action_checks_lem c z (SetState n) v k = rw (target_read t.state st, move_read t.state n (owner_of t.devowner) st v, has_owner_lem)
    action_checks_lem c z (Store Creds) v k =
        rw (rows_read t.state st, length-map, rows_count Creds t g.is_sound, held_cred (row_of Creds b) (v, row_bytes_lem Creds b h))
    action_checks_lem c z (Store Aces) v k =
        rw (rows_read t.state st, length-map, rows_count Aces t g.is_sound, held_ace (row_of Aces b) (v, row_bytes_lem Aces b h))
    action_checks_lem c z (Remove Creds All) v k = rw (rows_read t.state st)
    action_checks_lem c z (Remove Creds Number) v k = rw (rows_read t.state st, gone_cred k)
    action_checks_lem c z (Remove Creds Subject) v k = rw (rows_read t.state st, gone_subject k)
    action_checks_lem c z (Remove Aces All) v k = rw (rows_read t.state st)
    action_checks_lem c z (Remove Aces Number) v k = rw (rows_read t.state st, gone_ace k)
    action_checks_lem c z (Remove Aces Subject) v k = absurd k
    action_checks_lem c z (Assert d) v k =
        let m = credential_of (tables_of t) s in
        rw (serves_read t.state st, connection_one s, v.0, z, taken_read clock b (sender_row t s) m (own_reads t g s) h v.1)
    action_checks_lem c z Malformed v k = refl

-- ---- the list from 7 on

unfoldable front : Bool → Bool → Bool → Bool → Check → Check
front a b c d rest = cond a (Refuse 7) (cond b (Refuse 16) (cond c (Refuse 8) (cond d (Refuse 9) rest)))

-- over bytes
abbrev pub from_seven : ByteTables → ℕ → ByteRequest → List (ℕ × Bool)
from_seven t p q =
    let r = q.bytes in
    let h = header_of r in
    let w = sender_row t (sender r) in
    (7, noCredentialBytes (rows Creds t) h)
    ∷ (16, no_endpoint h)
    ∷ (8, not_permitted p h)
    ∷ (9, not_offered h)
    ∷ action_bytes q.clock t w (body r) (too_short q.capacity (length (replyToBytes q.clock t w h))) (action_of h (body r))

-- a record with this verb and this resource, as a request
abbrev pub asked : ByteRequest → Verb → Resource → Request
asked q v e =
    let r = q.bytes in
    record {
      clock = q.clock;
      capacity = q.capacity;
      sender = sender r;
      verb = v;
      resource = e;
      action = action_as (body r) (action r);
      body = body r;
    }

-- the header with this verb and this resource
abbrev pub header_as : List ℕ → Verb → Resource → Header
header_as r v e = record {
  verb = verb_number v;
  connection = connection r;
  resource = resource_as e;
  zeros = header_zeros r;
  credential = credential r;
  sender = sender r;
}

abbrev pub Names : List ℕ → Verb → Resource → Type 0
Names r v e = header_of r ≡ header_as r v e

not_offered_lem : (v : Verb) (e : Resource) → not (offers e v) ≡ ((entry e).configuration && not (offered (verb_number v) (number_of e)))
not_offered_lem v (Security s) = ap not (offers_read s v)
not_offered_lem v (Application a) = refl

module _ (t : ByteTables) (g : Given t) (q : ByteRequest) (v : Verb) (e : Resource) (k : Names q.bytes v e) where
  abbrev r : List ℕ
  r = q.bytes

  pub reply_read : reply_bytes (reply_to q.clock (tables_of t) (caller_of (tables_of t) (sender r)) v e)
      ≡ replyToBytes q.clock t (sender_row t (sender r)) (header_of r)
  unfolding replyToBytes reads
  reply_read = reply_back q.clock t g (sender r) v e ∙ sym (ap (λ (h : Header). replyToBytes q.clock t (sender_row t (sender r)) h) k)

  pub permission_read : permission_of (tables_of t) (asked q v e) ≡ permission q.clock t r
  unfolding permissionOfBytes
  permission_read =
      effective_read t g (sender r) q.clock e
      ∙ sym (ap (λ (h : Header). permissionOfBytes q.clock (head_of t) (rows Aces t) (sender_row t (sender r)) h) k)

  pub checks_read : is_bytes r ≡ true → 4 ≤ length r → verdict (from_seven t (permission q.clock t r) q) ≡ verdict (request_checks (tables_of t) (asked q v e))
  unfolding verdict front noCredentialBytes no_endpoint not_permitted not_offered too_short has hasBytes
  checks_read h l =
      let s = sender r in
      let b = body r in
      let T = tables_of t in
      let who = caller_of T s in
      let p = permission q.clock t r in
      let long = ltb q.capacity (length (replyToBytes q.clock t (sender_row t s) (header_of r))) in
      let same =
      action_checks_lem t g s q.clock b (bytes_drop 4 r h) long (connection r) (connection_is r l) (action r) (action_valid r) (removed b (header_of r)) in
      ap₂ (λ (x : Header) (c : Check). front (no_row (rows Creds t) s) (no_endpoint x) (not_permitted p x) (not_offered x) c) k same
      ∙ sym (ap (λ (n : ℕ). front (no_credential T s) (not (takes e (connection_of s))) (not (has (permission_of T (asked q v e)) (needs v)))
      (not (offers e v)) (verdict (from_ten q.clock T who (ltb q.capacity n) (action_as b (action r)))))
      (ap length reply_read)
      ∙ rw (no_credential_lem t g s, takes_read e s (connection r) (connection_is r l), permission_read, needs_read v, not_offered_lem v e))
