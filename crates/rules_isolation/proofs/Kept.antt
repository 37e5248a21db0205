-- Theorem: harmless senders stay harmless, whatever they send, and whatever others send that is permitted and does not endanger them.
use Rattle.rows.proofs.Prelude.{◌≡◌, refl, sym, ap, ◌∙◌, Bool, true, false, ◌&&◌, List, [], ◌∷◌, ℕ, take, eqb}
use Rattle.rows.proofs.Prelude.{cond_cases, bool_cases, contradiction, or_left, or_right, or_neither, and-false, and_both}
use Rattle.rows.specs.Rows.{Row, has_key, numbered_as, first_row, some, distinct_numbers, stored, without}
use Rattle.rows.proofs.Kept.{same_true, some_without, distinct_parts}
use Rattle.rules.specs.declared.Tables.{Tables}
use Rattle.rules.specs.declared.Table.TheVariants.{Creds, Aces}
use Rattle.rules.specs.declared.Action.{Action}
use Rattle.rules.specs.declared.Action.TheVariants.{Serve, Read, SetRowOwner, SetOwner, SetState, Store, Remove, Assert, Malformed}
use Rattle.rules.specs.declared.Head.{Head}
use Rattle.rules.specs.declared.Sender.{Sender}
use Rattle.rules.specs.declared.Sender.TheVariants.{Unauthenticated, Partner}
use Rattle.rules.specs.Bits.{be16}
use Rattle.rules.specs.Directory.{entry_of, some_security}
use Rattle.rules.specs.Record.{Request, sender, body}
use Rattle.rules.specs.Bodies.{row_number, ace_kind}
use Rattle.rules.specs.Keys.{goes}
use Rattle.rules.specs.Tables.{head_of, row_of, rows, with_rows, row_owner, sound, SoundRows}
use Rattle.rules.specs.Defaults.{Defaults}
use Rattle.rules.specs.Permission.{numbered, sender_row_in, sender_row, subject_is, is_owner, permission}
use Rattle.rules.specs.Action.{action}
use Rattle.rules.specs.Checks.{checks, verdict}
use Rattle.rules.specs.Outcome.{entered, effect_by, outcome, outcome_at, response_to, tables_after}
use Rattle.rules.specs.Isolation.{names_owner, row_alters, may_fit, may_alter, Harmless}
use Rattle.rules.proofs.Answers.{table_parts}
use Rattle.rules.proofs.CheckLaws.{check_cases}
use Rattle.rules.proofs.TableLaws.{rows_with}
use Rattle.rules.proofs.SoundKept.{Passed, passed_all, stored_sound, removed_sound, asserted_sound, sound_kept}
use Rattle.rules.proofs.OwnRow.{asserts, asserted_two, numbered_two, number_is, same_number}
use Rattle.rules.proofs.Alike.{first_none, compared_at, harmless_alike}
use Rattle.rules.proofs.Isolated.{silent}
use Rattle.rules_isolation.specs.Service.{endangers, SmallNumbers}
use Rattle.rules_isolation.specs.Question.{lets_alter}

-- ---- a sender's row among rows that change

-- a row with another number is stored
first_stored : (n : ℕ) (new : Row) (ws : List Row) → numbered n new ≡ false → first_row (numbered n) (stored new ws) ≡ first_row (numbered n) ws
unfolding first_row stored numbered_as has_key be16
first_stored n new [] h = rw h
first_stored n new (w ∷ ws) h =
    bool_cases (numbered_as new w)
    (λ e. let two = same_true (take 2 w) (take 2 new) e in rw (e, two, h))
    (λ e. rw (e, first_stored n new ws h))

-- the row stays the same, or is removed
data Stays (new old : Row) : Type 0 where
  same : new ≡ old → Stays new old
  removed : new ≡ [] → Stays new old

-- of rows with distinct numbers some are removed
first_without : (n : ℕ) (go : Row → Bool) (ws : List Row) → distinct_numbers ws ≡ true
    → Stays (first_row (numbered n) (without go ws)) (first_row (numbered n) ws)
unfolding first_row without
first_without n go [] d = same refl
first_without n go (w ∷ ws) d =
    let p = distinct_parts w ws d in
    bool_cases (go w)
    (λ g. bool_cases (numbered n w)
    (λ e.
    let none : some (numbered n) ws ≡ false = sym (same_number n w ws (numbered_two n w e)) ∙ p.0 in
    rw g (removed (first_none (numbered n) (without go ws) (some_without (numbered n) go ws none))))
    (λ e. rw (g, e) (first_without n go ws p.1)))
    (λ g. bool_cases (numbered n w) (λ e. rw (g, e) (same refl)) (λ e. rw (g, e) (first_without n go ws p.1)))

-- no row passes a test, and one is stored that does not
none_stored : (p : Row → Bool) (new : Row) (ws : List Row) → p new ≡ false → some p ws ≡ false → some p (stored new ws) ≡ false
unfolding some stored
none_stored p new [] e h = rw e
none_stored p new (w ∷ ws) e h =
    let here = or_left (p w) (some p ws) h in
    let more = or_right (p w) (some p ws) h in
    bool_cases (numbered_as new w) (λ f. rw (f, e, more)) (λ f. rw (f, here, none_stored p new ws e more))

-- ---- a sender without a row of its own may do less

owner_stays : (h : Head) (new old : Row) → Stays new old → some_security (is_owner h old) ≡ false → some_security (is_owner h new) ≡ false
unfolding some_security entry_of is_owner
owner_stays h new old (same e) n = rw e n
owner_stays h new old (removed e) n = rw e

fits_less : (w : Row) (c : ℕ) (a : Row) → may_fit w c a ≡ false → may_fit [] c a ≡ false
unfolding may_fit subject_is
fits_less w c a h = bool_cases (eqb (ace_kind a) 0) (λ e. rw e) (λ e. rw e (rw e at h))

alters_stays : (new old : Row) (c : ℕ) (ws : List Row) → Stays new old → some (lets_alter old c) ws ≡ false → some (lets_alter new c) ws ≡ false
unfolding some
alters_stays new old c ws (same e) h = rw e h
alters_stays new old c [] (removed e) h = refl
alters_stays new old c (a ∷ ws) (removed e) h =
    let here = or_left (lets_alter old c a) _ h in
    let more = alters_stays new old c ws (removed e) (or_right (lets_alter old c a) _ h) in
    or_neither (lets_alter new c a) _
    (bool_cases (row_alters a)
    (λ r. rw (e, fits_less old c a (bool_cases (may_fit old c a) (λ m. contradiction (and_both (may_fit old c a) (row_alters a) m r) here) (λ m. m))))
    (λ r. rw (r, and-false))) more

-- ---- tables that change

module _ (chosen : Sender → Bool) (t : Tables) (safe : Harmless chosen t) where
  -- the credential rows, where no chosen sender gets another row
  creds_changed : (ws : List Row) → SoundRows Creds ws → ((s : Sender) → chosen s ≡ true → Stays (sender_row_in ws s) (sender_row t s))
      → Harmless chosen (with_rows Creds t ws)
  unfolding names_owner is_owner row_owner may_alter
  creds_changed ws x stays =
      let is = rows_with Creds t ws x.few x.stores in
      record {
        has_owner = safe.has_owner;
        not_owner = λ s c. rw is (owner_stays (head_of t) _ _ (stays s c) (safe.not_owner s c));
        not_granted = λ s c. rw is (alters_stays _ _ _ (rows Aces t) (stays s c) (safe.not_granted s c));
      }

  -- the access rows, where none comes that alters
  aces_changed : (ws : List Row) → SoundRows Aces ws
      → ((p : Row → Bool) → ((a : Row) → row_alters a ≡ false → p a ≡ false) → some p (rows Aces t) ≡ false → some p ws ≡ false)
      → Harmless chosen (with_rows Aces t ws)
  unfolding names_owner is_owner row_owner may_alter
  aces_changed ws x none =
      let is = rows_with Aces t ws x.few x.stores in
      record {
        has_owner = safe.has_owner;
        not_owner = safe.not_owner;
        not_granted = λ s c. rw is (none _ (λ a r. rw (r, and-false)) (safe.not_granted s c));
      }

-- ---- a record

module _ (d : Defaults) (chosen : Sender → Bool) (small : SmallNumbers chosen) where
  -- a row whose number no chosen partner has
  other_number : (n m : ℕ) (new : Row) → chosen (Partner n) ≡ true → row_number new ≡ m → chosen (Partner m) ≡ false → numbered n new ≡ false
  other_number n m new c is o =
      bool_cases (numbered n new)
      (λ e.
      let n-is : m ≡ n = sym is ∙ number_is new n (small n c) (numbered_two n new e) in
      contradiction c (ap (λ (k : ℕ). chosen (Partner k)) (sym n-is) ∙ o))
      (λ e. e)

  -- is stored
  other_stored : (m : ℕ) (new : Row) (ws : List Row) → row_number new ≡ m → chosen (Partner m) ≡ false
      → (s : Sender) → chosen s ≡ true → Stays (sender_row_in (stored new ws) s) (sender_row_in ws s)
  other_stored m new ws is o Unauthenticated c = same refl
  other_stored m new ws is o (Partner n) c = same (first_stored n new ws (other_number n m new c is o))

  some_removed : (go : Row → Bool) (ws : List Row) → distinct_numbers ws ≡ true
      → (s : Sender) → chosen s ≡ true → Stays (sender_row_in (without go ws) s) (sender_row_in ws s)
  some_removed go ws distinct Unauthenticated c = same refl
  some_removed go ws distinct (Partner n) c = first_without n go ws distinct

  module _ (t : Tables) (q : Request) (h : sound t ≡ true) (safe : Harmless chosen t) where
    -- of somebody else, permitted
    effect_harmless : (a : Action) → chosen (sender q.bytes) ≡ false → Passed t q a → endangers chosen (body q.bytes) a ≡ false
        → Harmless chosen (effect_by d t q a)
    unfolding entered names_owner is_owner row_owner may_alter
    effect_harmless Serve o x e = safe
    effect_harmless Read o x e = safe
    effect_harmless (SetRowOwner n) o x e = contradiction refl e
    effect_harmless (SetOwner owned) o x e = contradiction refl e
    effect_harmless (SetState target) o x e =
        cond_cases (Harmless chosen) (eqb target 0) (λ z. contradiction z e)
        (λ _. record { has_owner = safe.has_owner; not_owner = safe.not_owner; not_granted = safe.not_granted })
    effect_harmless (Store Creds) o x e =
        creds_changed chosen t safe _ (stored_sound Creds t q h x) (other_stored _ (row_of Creds (body q.bytes)) _ refl e)
    effect_harmless (Store Aces) o x e =
        aces_changed chosen t safe _ (stored_sound Aces t q h x) (λ p less none. none_stored p (row_of Aces (body q.bytes)) _ (less _ e) none)
    effect_harmless (Remove Creds key) o x e =
        creds_changed chosen t safe _ (removed_sound Creds t (goes key (body q.bytes)) h) (some_removed _ _ (table_parts Creds t h).distinct)
    effect_harmless (Remove Aces key) o x e =
        aces_changed chosen t safe _ (removed_sound Aces t (goes key (body q.bytes)) h) (λ p less none. some_without p _ _ none)
    effect_harmless (Assert k) o x e =
        let a = asserts t q.bytes k x.valid x.allowed x.long x.known in
        let number = number_is _ a.number a.small (asserted_two t q.bytes h a q.clock (body q.bytes)) in
        creds_changed chosen t safe _ (asserted_sound k t q h x) (other_stored a.number _ _ number (ap chosen (sym a.is) ∙ o))
    effect_harmless Malformed o x e = safe

    others_harmless : chosen (sender q.bytes) ≡ false
        → (eqb (response_to d t q).answer 0 && endangers chosen (body q.bytes) (action q.bytes)) ≡ false → Harmless chosen (tables_after d t q)
    unfolding outcome outcome_at
    others_harmless o e =
        let p = permission q.clock t q.bytes in
        check_cases (verdict (checks t p q))
        (λ v. rw (v, tables_after) (effect_harmless (action q.bytes) o (passed_all t p q v) (rw (v, response_to) at e)))
        (λ n v. rw (v, tables_after) safe)

    -- of a chosen sender: except for its asserted roles the tables are as they were
    own_harmless : chosen (sender q.bytes) ≡ true → Harmless chosen (tables_after d t q)
    own_harmless o =
        let e = silent d chosen t t q (rw o) (λ _. safe) (record { same = refl; sound = refl }) in
        let after = sound_kept d t q h in
        harmless_alike chosen (tables_after d t q) t (sym (compared_at chosen (tables_after d t q) after) ∙ e.same ∙ compared_at chosen t h) after h safe

    -- of anybody
    pub harmless_kept :
        (chosen (sender q.bytes) ≡ false → (eqb (response_to d t q).answer 0 && endangers chosen (body q.bytes) (action q.bytes)) ≡ false)
        → Harmless chosen (tables_after d t q)
    harmless_kept e = bool_cases (chosen (sender q.bytes)) own_harmless (λ o. others_harmless o (e o))
