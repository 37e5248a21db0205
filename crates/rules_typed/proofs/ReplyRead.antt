-- Theorem: a reply over bytes is the typed reply, written.
use Rattle.rows.proofs.Prelude.{◌≡◌, refl, sym, ap, ap₂, ◌∙◌, true, ◌&&◌, cond, List, [], ◌∷◌, map, append-nil, ℕ, ◌*◌, ◌%◌, ◌≤◌, arith, length, drop, eqb}
use Rattle.rows.proofs.Prelude.{bool_cases, length-take-le, length-drop, replicate, Bool, ◌<◌, cond_cases}
use Rattle.rows.specs.Rows.{Row, joined, all_zero}
use Rattle.rows.proofs.Laws.{zeros_replicate}
use Rattle.rules.specs.declared.Tables.{Tables as ByteTables}
use Rattle.rules.specs.declared.Table.TheVariants.{Creds, Aces}
use Rattle.rules.specs.declared.Sender.{Sender}
use Rattle.rules.specs.Bodies.{is_nil, ace_storable}
use Rattle.rules.specs.Roles.{body_of, cred_sound, roles_in_force as rolesInForceBytes}
use Rattle.rules.specs.Tables.{head_of, rows, row_owner as row_owner_bytes}
use Rattle.rules.specs.Permission.{sender_row}
use Rattle.rules.specs.Reading.{own_body, row_bytes, contents as contentsBytes}
use Rattle.rules.proofs.ReadBack.{roles_unowned}
use Rattle.rules_typed.specs.Lists.{Maybe, none, just, is_none}
use Rattle.rules_typed.specs.Types.{Credential, Uuid, SecurityResource, Doxm, Pstat, Cred, Acl2, Roles, Verb, Create, Retrieve, Update, Delete, Observe}
use Rattle.rules_typed.specs.Types.{Resource, Security, Application}
use Rattle.rules_typed.specs.Permission.{caller_of, credential_of, row_owner}
use Rattle.rules_typed.specs.Reply.{contents, reply_to, own_roles}
use Rattle.rules_typed.specs.Struct.{Given}
use Rattle.rules_typed.specs.Reading.{state_of, owner_of, asserted_of, credential_as, access_of, tables_of}
use Rattle.rules_typed.specs.States.{state_number}
use Rattle.rules_typed.specs.Writing.{uuid_bytes, owner_bytes, credential_bytes, asserted_bytes, access_bytes, reply_bytes, owned_number, target_bytes, nil}
use Rattle.rules_typed.proofs.ListLaws.{Each}
use Rattle.rules_typed.proofs.ByteLaws.{Good}
use Rattle.rules_typed.proofs.PermissionRead.{Reads, absent, present, creds_good, aces_good, own_reads, row_owner_read, owned_is, nil_none, is_state_lem}
use Rattle.rules_typed.proofs.PermissionRead.{in_force_read}
use Rattle.rules_typed.proofs.StateRead.{state_back, verb_number}
use Rattle.rules_typed.proofs.RowsRead.{Place, in_force_good, no_row_roles}
use Rattle.rules_typed.proofs.WriteBack.{asserted_back, credential_back, access_back}
use Rattle.rules_typed.specs.Directory.{security_number, entry, number_of}

-- ---- owners

zeros_back : (u : List ℕ) → length u ≡ 16 → all_zero u ≡ true → u ≡ nil
unfolding nil
zeros_back u l z = zeros_replicate u z ∙ ap (λ (n : ℕ). replicate n 0) l

pub uuid_back : (u : List ℕ) → length u ≡ 16 → uuid_bytes (owner_of u) ≡ u
unfolding owner_of
uuid_back u l = bool_cases (all_zero u) (λ z. rw z (sym (zeros_back u l z))) (λ z. rw z)

owned_back : (m : Maybe Uuid) → owned_number m ≡ cond (is_none m) 0 1
owned_back none = refl
owned_back (just u) = refl

pub owned_number_lem : (u : List ℕ) (o : ℕ) → length u ≡ 16 → o ≡ cond (is_nil u) 0 1 → owned_number (owner_of u) ≡ o
owned_number_lem u o l e = owned_back (owner_of u) ∙ ap (λ (b : Bool). cond b 0 1) (nil_none u l) ∙ sym e

owned_small : (u : List ℕ) (o : ℕ) → o ≡ cond (is_nil u) 0 1 → o < 2
owned_small u o e = rw e (cond_cases (λ n. n < 2) (is_nil u) (λ _. omega arith) (λ _. omega arith))

owner_back : (u : List ℕ) (o : ℕ) → length u ≡ 16 → o ≡ cond (is_nil u) 0 1 → owner_bytes (owner_of u) ≡ o % 2 * 128 ∷ u
unfolding owner_bytes
owner_back u o l e =
    let small = owned_small u o e in
    let is : o % 2 ≡ o = omega arith in
    rw (owned_number_lem u o l e, uuid_back u l, is)

-- ---- rows

creds_back : (ws : List Row) → Each (Good cred_sound) ws → map credential_bytes (map credential_as ws) ≡ map body_of ws
creds_back [] q = refl
creds_back (w ∷ ws) q = ap₂ (λ (x : List ℕ) (xs : List (List ℕ)). x ∷ xs) (credential_back w q.0) (creds_back ws q.1)

pub aces_back : (ws : List Row) → Each (Good ace_storable) ws → map access_bytes (map access_of ws) ≡ ws
aces_back [] q = refl
aces_back (w ∷ ws) q = ap₂ (λ (x : List ℕ) (xs : List (List ℕ)). x ∷ xs) (access_back w q.0) (aces_back ws q.1)

pub places_back : (ps : List Row) → Each Place ps → map asserted_bytes (map asserted_of ps) ≡ ps
places_back [] q = refl
places_back (p ∷ ps) q = ap₂ (λ (x : List ℕ) (xs : List (List ℕ)). x ∷ xs) (asserted_back p q.0.0 q.0.1) (places_back ps q.1)

roles_back : (clock : ℕ) (w : Row) (m : Maybe Credential) → Reads w m → joined (map asserted_bytes (own_roles clock m)) ≡ joined (rolesInForceBytes clock w)
roles_back clock w m absent = rw (no_row_roles clock)
roles_back clock w m (present _ g) = rw (in_force_read clock w) (ap joined (places_back (rolesInForceBytes clock w) (in_force_good clock w g)))

module _ (clock : ℕ) (t : ByteTables) (g : Given t) (s : Sender) where
  row_owner_back : (s : SecurityResource) → security_number s ≤ 3 → uuid_bytes (row_owner (tables_of t) s) ≡ row_owner_bytes (head_of t) (security_number s)
  unfolding row_owner_bytes
  row_owner_back s h =
      let l = g.struct.owners_long in
      ap uuid_bytes (row_owner_read t l s)
      ∙ uuid_back (row_owner_bytes (head_of t) (security_number s)) (length-take-le 16 (drop (security_number s * 16) t.rowners) (rw length-drop (omega arith)))

  contents_back : (e : SecurityResource)
      → reply_bytes (contents clock (tables_of t) (caller_of (tables_of t) s) e) ≡ contentsBytes clock t (sender_row t s) (security_number e)
  unfolding contentsBytes own_body row_bytes target_bytes
  contents_back Doxm =
      rw (owner_back t.devowner t.owned g.struct.owner_long (owned_is t g s), row_owner_back Doxm (omega arith), append-nil)
  contents_back Pstat =
      let state : state_number (state_of t.state) ≡ t.state % 8 = state_back t.state (is_state_lem t g) ∙ omega (arith, (is_state_lem t g).high) in
      rw (state, row_owner_back Pstat (omega arith), append-nil)
  contents_back Cred = rw (row_owner_back Cred (omega arith), creds_back (rows Creds t) (creds_good t g))
  contents_back Acl2 = rw (row_owner_back Acl2 (omega arith), aces_back (rows Aces t) (aces_good t g))
  contents_back Roles =
      rw (roles_unowned t g.struct.owners_long) (roles_back clock (sender_row t s) (credential_of (tables_of t) s) (own_reads t g s))

  -- by the verb and the resource
  abbrev ReplyBack : Verb → Resource → Type 0
  ReplyBack v e = reply_bytes (reply_to clock (tables_of t) (caller_of (tables_of t) s) v e)
      ≡ cond (eqb (verb_number v) 1 && (entry e).configuration) (contentsBytes clock t (sender_row t s) (number_of e)) []

  retrieve_back : (e : Resource) → ReplyBack Retrieve e
  retrieve_back (Security e) = contents_back e
  retrieve_back (Application a) = refl

  pub reply_back : (v : Verb) (e : Resource) → ReplyBack v e
  reply_back Create e = refl
  reply_back Retrieve e = retrieve_back e
  reply_back Update e = refl
  reply_back Delete e = refl
  reply_back Observe e = refl
