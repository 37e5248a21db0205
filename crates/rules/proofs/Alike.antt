-- Two sound tables that differ in the asserted roles of only the chosen partners give a
-- record of the others the same answer, permission, reply, places and links.
-- Afterwards they still differ only in these roles.
use Rattle.rows.proofs.Prelude.{◌≡◌, refl, sym, ap, ap₂, ◌∙◌, Bool, true, false, not, ◌&&◌, cond, List, [], ◌∷◌, ◌++◌, map, ℕ, ◌≤◌, ◌<◌, arith, length, take}
use Rattle.rows.proofs.Prelude.{length-append, length-map, length-replicate, length-take, eqb, leb, ones, cond_cases, bool_cases, contradiction}
use Rattle.rows.specs.Rows.{Row, packed, numbered_as, first_row, rows_before, some, without, stored}
use Rattle.rows.proofs.Laws.{kept}
use Rattle.rows.proofs.Kept.{AllLong}
use Rattle.rules.specs.declared.Tables.{Tables}
use Rattle.rules.specs.declared.Table.TheVariants.{Creds, Aces}
use Rattle.rules.specs.declared.Action.{Action}
use Rattle.rules.specs.declared.Action.TheVariants.{Serve, Read, SetRowOwner, SetOwner, SetState, Store, Remove, Assert, Malformed}
use Rattle.rules.specs.declared.Sender.{Sender}
use Rattle.rules.specs.declared.Sender.TheVariants.{Unauthenticated, Partner}
use Rattle.rules.specs.Record.{header_of, Request, received, sender, connection, credential, resource, body}
use Rattle.rules.specs.Bits.{be16}
use Rattle.rules.specs.Directory.{links, some_security}
use Rattle.rules.specs.Bodies.{new_owner, row_number, cred_subject}
use Rattle.rules.specs.Roles.{body_of, without_roles}
use Rattle.rules.specs.Tables.{head_of, row_of, rows, with_rows, row_owner, sound, with_state, with_owner, with_row_owner, table_size, SoundRows}
use Rattle.rules.specs.Permission.{numbered, sender_row_in, sender_row, connection_of, is_row, subject_is, names, is_owner, by_owner, by_no_owner, effective_of}
use Rattle.rules.specs.Permission.{permission, permission_of}
use Rattle.rules.specs.States.{move_allowed}
use Rattle.rules.specs.Keys.{goes}
use Rattle.rules.specs.StoreRange.{gap_of, store_range_of}
use Rattle.rules.specs.Reading.{own_body, row_bytes, contents, reads, reply_of, reply_to, too_short}
use Rattle.rules.specs.Action.{action}
use Rattle.rules.specs.Checks.{no_row, no_credential, missing, full, checks, verdict}
use Rattle.rules.specs.Links.{own_record, permits, set_of, asks_links, link_set, links_of}
use Rattle.rules.specs.Defaults.{Defaults}
use Rattle.rules.specs.Outcome.{entered, effect_by, outcome_at, outcome, response_to, tables_after}
use Rattle.rules.specs.Isolation.{names_owner, may_fit, may_alter, Harmless, redacted, redacted_in, compared, nobody}
use Rattle.rules.proofs.BitLaws.{bits_small}
use Rattle.rules.proofs.CheckLaws.{check_cases}
use Rattle.rules.proofs.Answers.{long_enough, rows_are, rows_count}
use Rattle.rules.proofs.BodyLaws.{Valid, action_valid}
use Rattle.rules.proofs.TableLaws.{table_is, few_rows, rows_long, rows_with}
use Rattle.rules.proofs.SoundKept.{Passed, passed_all, stored_sound, removed_sound, asserted_sound}
use Rattle.rules.proofs.LinkLaws.{own_sender}
use Rattle.rules.proofs.RowMaps.{without_roles_body, part_same, goes_same, numbered_same, as_same, some_map, before_map, without_map, first_map}
use Rattle.rules.proofs.RowMaps.{stored_map, bodies_map}
use Rattle.rules.proofs.ReadBack.{long_rows}
use Rattle.rules.proofs.OwnRow.{first_passes, numbered_two, number_is}
use Rattle.rules.specs.Sizes.{cred_row_size}

-- ---- a sender's number has 16 bits

abbrev pub Small : Sender → Type 0
Small Unauthenticated = Unit {0}
Small (Partner n) = n < 65536

pub sender_small : (r : List ℕ) → Small (sender r)
unfolding sender
sender_small r =
    cond_cases Small (leb 4 (length r) && eqb (connection r) 1) {x = Partner (credential r)} {y = Unauthenticated} (λ _. bits_small r 16 16) (λ _. tt)

-- where no row passes, the first is none
pub first_none : (p : Row → Bool) (ws : List Row) → some p ws ≡ false → first_row p ws ≡ []
unfolding some first_row
first_none p [] h = refl
first_none p (w ∷ ws) h = bool_cases (p w) (λ e. contradiction refl (rw e at h)) (λ e. rw e (first_none p ws (rw e at h)))

-- ---- a set of resources

abbrev AllBelow : List ℕ → Type 0
AllBelow [] = Unit {0}
AllBelow (n ∷ ns) = (n < 64) × AllBelow ns

set_alike : (p o : ℕ → Bool) → ((n : ℕ) → n < 64 → p n ≡ o n) → (ns : List ℕ) → AllBelow ns → set_of p ns ≡ set_of o ns
unfolding set_of
set_alike p o h [] a = refl
set_alike p o h (n ∷ ns) a = rw (h n a.0, set_alike p o h ns a.1)

-- ---- a row whose asserted roles are hidden

module _ (chosen : Sender → Bool) where
  pub hidden_body : (w : Row) → body_of (redacted chosen w) ≡ body_of w
  unfolding redacted
  hidden_body w = cond_cases (λ (v : Row). body_of v ≡ body_of w) (chosen (Partner (row_number w))) (λ _. without_roles_body w) (λ _. refl)

  hidden_none : redacted chosen [] ≡ []
  unfolding redacted without_roles
  hidden_none = cond_cases (λ (v : Row). v ≡ []) (chosen (Partner (row_number []))) (λ _. refl) (λ _. refl)

  hidden_length : (w : Row) → length (redacted chosen w) ≡ length w
  unfolding redacted without_roles
  hidden_length w =
      cond_cases (λ (v : Row). length v ≡ length w) (chosen (Partner (row_number w)))
      (λ _. rw (length-append, length-take, length-replicate) (omega arith)) (λ _. refl)

  all_hidden_long : (ws : List Row) → AllLong cred_row_size ws → AllLong cred_row_size (map (redacted chosen) ws)
  all_hidden_long [] a = tt
  all_hidden_long (w ∷ ws) a = (hidden_length w ∙ a.0, all_hidden_long ws a.1)

  pub hidden_at : (w : Row) (n : ℕ) {b : Bool} → n < 65536 → take 2 w ≡ be16 n → chosen (Partner n) ≡ b → redacted chosen w ≡ cond b (without_roles w) w
  unfolding redacted
  hidden_at w n l e c = rw (ap (λ (k : ℕ). chosen (Partner k)) (number_is w n l e) ∙ c)

  -- of the others nothing is hidden
  credential_other : (x : Sender) → Small x → chosen x ≡ false → (ws : List Row) → redacted chosen (sender_row_in ws x) ≡ sender_row_in ws x
  credential_other Unauthenticated l c ws = hidden_none
  credential_other (Partner n) l c ws =
      bool_cases (some (numbered n) ws)
      (λ e. hidden_at _ n l (numbered_two n _ (first_passes (numbered n) ws e)) c)
      (λ e. rw (first_none (numbered n) ws e) hidden_none)

  -- a sender's row among rows with hidden ones
  credential_maps : (x : Sender) (ws : List Row) → sender_row_in (map (redacted chosen) ws) x ≡ redacted chosen (sender_row_in ws x)
  credential_maps Unauthenticated ws = sym hidden_none
  credential_maps (Partner n) ws = first_map (redacted chosen) hidden_body (numbered n) (numbered_same (redacted chosen) hidden_body n) hidden_none ws

  -- ---- the rows of tables with hidden ones

  rows_hidden : (t : Tables) → sound t ≡ true → rows Creds (redacted_in chosen t) ≡ map (redacted chosen) (rows Creds t)
  rows_hidden t h =
      rows_long Creds t _ (rw length-map (few_rows Creds t h)) (all_hidden_long (rows Creds t) (long_rows Creds t h))

  -- of tables with these rows
  pub hidden_with : (t : Tables) (ws : List Row) → SoundRows Creds ws → redacted_in chosen (with_rows Creds t ws) ≡ with_rows Creds t (map (redacted chosen) ws)
  hidden_with t ws x = ap (λ (vs : List Row). with_rows Creds t (map (redacted chosen) vs)) (rows_with Creds t ws x.few x.stores)

  pub compared_at : (t : Tables) {b : Bool} → sound t ≡ b → compared chosen t ≡ cond b (redacted_in chosen t) t
  unfolding compared
  compared_at t h = rw h

  -- ---- two tables
  module _ (s t : Tables) (e : redacted_in chosen s ≡ redacted_in chosen t) (hs : sound s ≡ true) (ht : sound t ≡ true) where
    -- what the hidden part does not change is the same in both
    responses_alike : {A : Type 0} (f g : List Row → A) → ((ws : List Row) → f (map (redacted chosen) ws) ≡ g ws) → g (rows Creds s) ≡ g (rows Creds t)
    responses_alike f g sees =
        sym (sees (rows Creds s)) ∙ ap f (sym (rows_hidden s hs) ∙ ap (rows Creds) e ∙ rows_hidden t ht) ∙ sees (rows Creds t)

    length_alike : length (rows Creds s) ≡ length (rows Creds t)
    length_alike = responses_alike length _ (λ ws. length-map ws (redacted chosen))

    -- a test that sees only the body
    module _ (p : Row → Bool) (sees : (w : Row) → p (redacted chosen w) ≡ p w) where
      some_alike : some p (rows Creds s) ≡ some p (rows Creds t)
      some_alike = responses_alike (some p) _ (some_map (redacted chosen) hidden_body p sees)

      gap_alike : gap_of p (rows Creds s) ≡ gap_of p (rows Creds t)
      unfolding gap_of
      gap_alike = rw (some_alike, responses_alike (rows_before p) _ (before_map (redacted chosen) hidden_body p sees), length_alike)

    -- ---- what an action asks of the rows
    record ActionAlike (b : List ℕ) (a : Action) : Type 0 where
      missed : missing s b a ≡ missing t b a
      filled : full s b a ≡ full t b a
      gap : store_range_of s b a ≡ store_range_of t b a

    action_alike : (c : ℕ) (b : List ℕ) (a : Action) → Valid c b a → ActionAlike b a
    action_alike c b Serve v = record { missed = refl; filled = refl; gap = refl }
    action_alike c b Read v = record { missed = refl; filled = refl; gap = refl }
    action_alike c b (SetRowOwner n) v = record { missed = refl; filled = refl; gap = refl }
    action_alike c b (SetOwner o) v = record { missed = refl; filled = refl; gap = refl }
    action_alike c b (SetState n) v = record { missed = refl; filled = refl; gap = refl }
    action_alike c b (Store Creds) v =
        let held = some_alike (numbered_as (row_of Creds b)) (as_same (redacted chosen) hidden_body (row_of Creds b)) in
        let counted = sym (rows_count Creds s hs) ∙ length_alike ∙ rows_count Creds t ht in
        record { missed = refl; filled = rw (held, counted); gap = refl }
    action_alike c b (Store Aces) v = record { missed = refl; filled = ap (λ (u : Tables). full u b (Store Aces)) e; gap = refl }
    action_alike c b (Remove Creds key) v =
        let sees = goes_same (redacted chosen) hidden_body key b v in
        record { missed = rw (some_alike (goes key b) sees); filled = refl; gap = gap_alike (goes key b) sees }
    action_alike c b (Remove Aces key) v = record {
      missed = ap (λ (u : Tables). missing u b (Remove Aces key)) e;
      filled = refl;
      gap = ap (λ (u : Tables). store_range_of u b (Remove Aces key)) e;
    }
    action_alike c b (Assert k) v = record { missed = refl; filled = refl; gap = refl }
    action_alike c b Malformed v = record { missed = refl; filled = refl; gap = refl }

    row_known : (x : Sender) → no_row (rows Creds s) x ≡ no_row (rows Creds t) x
    row_known Unauthenticated = refl
    row_known (Partner n) = ap not (some_alike (numbered n) (numbered_same (redacted chosen) hidden_body n))

    -- ---- a record of the others
    module _ (r : List ℕ) (c : chosen (sender r) ≡ false) where
      own : sender_row s (sender r) ≡ sender_row t (sender r)
      own =
          responses_alike (λ ws. sender_row_in ws (sender r)) _
          (λ ws. credential_maps (sender r) ws ∙ credential_other (sender r) (sender_small r) c ws)

      pub permission_alike : (clock : ℕ) → permission clock s r ≡ permission clock t r
      unfolding permission_of effective_of by_owner is_owner by_no_owner row_owner
      permission_alike clock =
          rw own (ap (λ (u : Tables). effective_of clock (head_of u) (rows Aces u) (sender_row t (sender r)) (connection_of (sender r)) (header_of r).resource) e)

    -- ---- a request of the others
    module _ (q : Request) (c : chosen (sender q.bytes) ≡ false) where
      asked : ActionAlike (body q.bytes) (action q.bytes)
      asked = action_alike (connection q.bytes) _ _ (action_valid q.bytes)

      pub reply_alike : reply_of q.clock s q.bytes ≡ reply_of q.clock t q.bytes
      unfolding reply_to contents own_body row_bytes row_owner
      reply_alike =
          let r = q.bytes in
          let bodies = responses_alike (map body_of) (map body_of) (bodies_map (redacted chosen) hidden_body) in
          ap (λ (u : Tables). cond (reads (header_of r)) (own_body (head_of u) (resource r) ++ row_owner (head_of u) (resource r) ++ row_bytes q.clock s (sender_row s (sender r)) (resource r)) []) e
          ∙ rw (bodies, ap (rows Aces) e, own r c)

      pub checks_alike : (p : ℕ) → checks s p q ≡ checks t p q
      unfolding too_short no_credential move_allowed
      checks_alike p =
          let state = ap (λ (u : Tables). u.state) e in
          let owned = ap (λ (u : Tables). u.owned) e in
          rw (hs, ht, row_known (sender q.bytes), asked.missed, asked.filled, reply_alike, own q.bytes c, state, owned)

    -- ---- the links
    permits_alike : (clock : ℕ) (r : List ℕ) → chosen (sender r) ≡ false → permits clock s r ≡ permits clock t r
    unfolding permits
    permits_alike clock r c = rw (permission_alike r c clock, checks_alike (received clock r 0) c (permission clock t r))

    pub links_alike : (clock : ℕ) (r : List ℕ) → 4 ≤ length r → chosen (sender r) ≡ false → links_of clock s r ≡ links_of clock t r
    unfolding link_set
    links_alike clock r l c =
        ap (λ (m : ℕ). let n = cond (asks_links (header_of r)) m 0 in record { set = n; size = ones n })
        (set_alike (λ n. permits clock s (own_record r n)) (λ n. permits clock t (own_record r n))
        (λ n h. permits_alike clock (own_record r n) (ap chosen (own_sender r n h l) ∙ c)) links (omega arith))

    -- ---- the tables afterwards
    rows_alike : (f g : List Row → List Row) → ((ws : List Row) → map (redacted chosen) (g ws) ≡ f (map (redacted chosen) ws))
        → SoundRows Creds (g (rows Creds s)) → SoundRows Creds (g (rows Creds t))
        → redacted_in chosen (with_rows Creds s (g (rows Creds s))) ≡ redacted_in chosen (with_rows Creds t (g (rows Creds t)))
    rows_alike f g maps x y =
        hidden_with s (g (rows Creds s)) x
        ∙ ap (λ (u : Tables). with_rows Creds u (map (redacted chosen) (g (rows Creds s)))) e
        ∙ ap (with_rows Creds t) (responses_alike f (λ ws. map (redacted chosen) (g ws)) (λ ws. sym (maps ws)))
        ∙ sym (hidden_with t (g (rows Creds t)) y)

    stored_alike : (w : Row) → SoundRows Creds (stored w (rows Creds s)) → SoundRows Creds (stored w (rows Creds t))
        → redacted_in chosen (with_rows Creds s (stored w (rows Creds s))) ≡ redacted_in chosen (with_rows Creds t (stored w (rows Creds t)))
    stored_alike w x y = rows_alike (stored (redacted chosen w)) (stored w) (stored_map (redacted chosen) hidden_body w) x y

    effect_alike : (d : Defaults) (q : Request) (a : Action) → chosen (sender q.bytes) ≡ false → Passed s q a → Passed t q a
        → redacted_in chosen (effect_by d s q a) ≡ redacted_in chosen (effect_by d t q a)
    unfolding entered
    effect_alike d q Serve c x y = e
    effect_alike d q Read c x y = e
    effect_alike d q (SetRowOwner n) c x y = ap (λ (u : Tables). with_row_owner u n (body q.bytes)) e
    effect_alike d q (SetOwner o) c x y = ap (λ (u : Tables). with_owner u o (new_owner (body q.bytes))) e
    effect_alike d q (SetState n) c x y = bool_cases (eqb n 0) (λ z. rw z) (λ z. rw z (ap (λ (u : Tables). with_state u n) e))
    effect_alike d q (Store Creds) c x y = stored_alike (row_of Creds (body q.bytes)) (stored_sound Creds s q hs x) (stored_sound Creds t q ht y)
    effect_alike d q (Store Aces) c x y = ap (λ (u : Tables). with_rows Aces u (stored (row_of Aces (body q.bytes)) (rows Aces u))) e
    effect_alike d q (Remove Creds key) c x y =
        let p = goes key (body q.bytes) in
        let maps = without_map (redacted chosen) hidden_body p (goes_same (redacted chosen) hidden_body key (body q.bytes) x.valid) in
        rows_alike (without p) (without p) maps (removed_sound Creds s p hs) (removed_sound Creds t p ht)
    effect_alike d q (Remove Aces key) c x y = ap (λ (u : Tables). with_rows Aces u (without (goes key (body q.bytes)) (rows Aces u))) e
    effect_alike d q (Assert k) c x y =
        let w = own q.bytes c in
        rw w (stored_alike _ (rw w at (asserted_sound k s q hs x)) (asserted_sound k t q ht y))
    effect_alike d q Malformed c x y = e

    -- ---- the outcome
    module _ (d : Defaults) (q : Request) (c : chosen (sender q.bytes) ≡ false) where
      -- the same for the sender, and afterwards the same except for what is hidden
      pub outcome_alike : (response_to d s q ≡ response_to d t q) × (redacted_in chosen (tables_after d s q) ≡ redacted_in chosen (tables_after d t q))
      unfolding outcome outcome_at
      outcome_alike =
          let p = permission q.clock t q.bytes in
          rw (response_to, tables_after, permission_alike q.bytes c q.clock, checks_alike q c p)
          (check_cases (verdict (checks t p q))
          (λ v.
          let y = passed_all t p q v in
          rw (response_to, tables_after, v) (
            rw (permission_alike q.bytes c q.clock, reply_alike q c, (asked q c).gap, links_alike q.clock q.bytes (long_enough q.bytes y.long) c),
            effect_alike d q (action q.bytes) c (passed_all s p q (ap verdict (checks_alike q c p) ∙ v)) y,
          ))
          (λ n v. rw (response_to, tables_after, v) (refl, e)))

    -- ---- the premise: a chosen partner's row has the same body in both

    row_alike : (x : Sender) → is_row (sender_row s x) ≡ is_row (sender_row t x)
    row_alike x =
        responses_alike (λ ws. is_row (sender_row_in ws x)) _
        (λ ws. ap is_row (credential_maps x ws) ∙ ap (λ (n : ℕ). not (eqb n 0)) (hidden_length (sender_row_in ws x)))

    subject_alike : (x : Sender) → cred_subject (sender_row s x) ≡ cred_subject (sender_row t x)
    subject_alike x =
        responses_alike (λ ws. cred_subject (sender_row_in ws x)) _
        (λ ws. ap cred_subject (credential_maps x ws) ∙ part_same (redacted chosen) hidden_body 2 16 (omega arith) (sender_row_in ws x))

    pub harmless_alike : Harmless chosen t → Harmless chosen s
    unfolding names_owner is_owner names row_owner may_alter may_fit subject_is
    harmless_alike safe = record {
      has_owner = λ x c. ap (λ (u : Tables). eqb u.owned 0) e ∙ safe.has_owner x c;
      not_owner = λ x c.
          rw (is_owner, names, row_alike x, subject_alike x) (ap (λ (u : Tables). some_security (is_owner (head_of u) (sender_row t x))) e ∙ safe.not_owner x c);
      not_granted = λ x c. rw (row_alike x, subject_alike x, ap (rows Aces) e) (safe.not_granted x c);
    }

-- ---- nothing else is left out: where nobody is chosen, the compared tables are the tables

none_hidden : (ws : List Row) → map (redacted nobody) ws ≡ ws
unfolding redacted nobody
none_hidden [] = refl
none_hidden (w ∷ ws) = rw (none_hidden ws)

pub compared_whole : (t : Tables) → length t.creds ≡ table_size Creds → compared nobody t ≡ t
compared_whole t l =
    bool_cases (sound t)
    (λ h.
    let stands : packed (table_size Creds) (rows Creds t) ≡ t.creds = ap₂ packed (sym l) (rows_are Creds t h) ∙ sym (kept cred_row_size t.ncreds t.creds (table_is Creds t h l)) in
    compared_at nobody t h ∙ rw (none_hidden (rows Creds t), rows_count Creds t h, stands))
    (λ h. compared_at nobody t h)
