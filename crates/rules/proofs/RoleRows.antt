-- Theorems, U11: a permitted UPDATE of roles alters the roles of the sender's own credential row, and nothing else in the tables.
-- Which roles are in force then, at every clock; and 22 exactly where both places hold other roles. For any row, clock, buffer and default lists.
use Rattle.rows.proofs.Prelude.{◌≡◌, refl, sym, ap, ◌∙◌, Bool, true, false, cond, List, [], ◌∷◌, ◌++◌, map, ℕ, length, take}
use Rattle.rows.proofs.Prelude.{replicate, drop_at, eqb, not-false, bool_cases, contradiction}
use Rattle.rows.specs.Rows.{Row, packed, same, numbered_as, has_key, some, without, first_row, stored, distinct_numbers}
use Rattle.rows.proofs.Kept.{same_true, same_refl, distinct_parts}
use Rattle.rules.specs.declared.Tables.{Tables}
use Rattle.rules.specs.declared.Table.TheVariants.{Creds}
use Rattle.rules.specs.declared.Action.TheVariants.{Assert}
use Rattle.rules.specs.declared.Check.TheVariants.{Pass}
use Rattle.rules.specs.Bits.{bit, bits, be16}
use Rattle.rules.specs.Directory.{entry_of, roles}
use Rattle.rules.specs.Record.{Request, header_of, sender, verb, resource, connection, body}
use Rattle.rules.specs.Roles.{no_role, free, body_of, roles_in_force, with_role, both_taken, asserted}
use Rattle.rules.specs.Tables.{rows, with_rows, sound}
use Rattle.rules.specs.Defaults.{Defaults}
use Rattle.rules.specs.Permission.{permission, numbered, sender_row}
use Rattle.rules.specs.Action.{if_allowed, update_roles, update_action, security_action, action_of, action}
use Rattle.rules.specs.Reading.{reply_of, reads}
use Rattle.rules.specs.Checks.{checks, verdict, number_of, is_malformed}
use Rattle.rules.specs.Promises.Groups.{row_checks, capacity_checks}
use Rattle.rules.specs.Outcome.{Outcome, effect_by, response_to, tables_after}
use Rattle.rules.specs.Verdicts.{none_applies, earlier}
use Rattle.rules.specs.Asserted.{Held, RoleAsserted, instead_of}
use Rattle.rules.proofs.Answers.{passed, table_parts, no_reply_fits}
use Rattle.rules.proofs.CheckLaws.{skip_all}
use Rattle.rules.proofs.TableLaws.{rows_with}
use Rattle.rules.proofs.RoleLaws.{body_long, few_in_force, few_with_role, slots_in, few_slots, asserted_body}
use Rattle.rules.proofs.OwnRow.{asserts, own_held, own_two, asserted_two, asserted_number}
use Rattle.rules.proofs.SoundKept.{Passed, passed_all, asserted_sound}
use Rattle.rules.proofs.Refusals.{none_permitted, permitted_passes, permitted_outcome, answer_is}
use Rattle.rules.specs.Sizes.{cred_body_size, role_slot_size, roles_size}

-- ---- a row stored instead of the one with its number

none_instead : (own new : Row) (ws : List Row) → some (numbered_as own) ws ≡ false → map (instead_of own new) ws ≡ ws
unfolding some instead_of
none_instead own new [] h = refl
none_instead own new (w ∷ ws) h =
    bool_cases (numbered_as own w) (λ e. contradiction refl (rw e at h)) (λ e. rw (e, none_instead own new ws (rw e at h)))

-- rows with the same two bytes have the same number
same_numbered : (own new : Row) → take 2 own ≡ take 2 new → numbered_as own ≡ numbered_as new
unfolding numbered_as
same_numbered own new e = ap (λ (k : List ℕ). λ (w : Row). same (take 2 w) k) e

module _ (new : Row) where
  numbered_two : (w : Row) → numbered_as new w ≡ true → take 2 w ≡ take 2 new
  unfolding numbered_as
  numbered_two w e = same_true (take 2 w) (take 2 new) e

  stored_own : (ws : List Row) → some (numbered_as new) ws ≡ true → distinct_numbers ws ≡ true → stored new ws ≡ map (instead_of new new) ws
  unfolding some stored instead_of
  stored_own [] h a = contradiction h refl
  stored_own (w ∷ ws) h a =
      let parts = distinct_parts w ws a in
      bool_cases (numbered_as new w)
      (λ e. let none = none_instead new new ws (ap (λ (p : Row → Bool). some p ws) (sym (same_numbered w new (numbered_two w e))) ∙ parts.0) in rw (e, none))
      (λ e. rw (e, stored_own ws (rw e at h) parts.1))

  stored_instead : (own : Row) → take 2 own ≡ take 2 new → (ws : List Row) → some (numbered_as new) ws ≡ true → distinct_numbers ws ≡ true
      → stored new ws ≡ map (instead_of own new) ws
  unfolding instead_of
  stored_instead own e ws h a =
      stored_own ws h a ∙ ap (λ (p : Row → Bool). map (λ (v : Row). cond (p v) new v) ws) (sym (same_numbered own new e))

  own_number : numbered_as new new ≡ true
  unfolding numbered_as
  own_number = same_refl (take 2 new)

  first_own : (ws : List Row) → first_row (numbered_as new) (stored new ws) ≡ new
  unfolding first_row stored
  first_own [] = rw own_number
  first_own (w ∷ ws) = bool_cases (numbered_as new w) (λ e. rw (e, own_number)) (λ e. rw (e, e, first_own ws))

  stored_first : (n : ℕ) → take 2 new ≡ be16 n → (ws : List Row) → first_row (numbered n) (stored new ws) ≡ new
  unfolding numbered_as has_key be16
  stored_first n e ws = ap (λ (k : List ℕ). first_row (λ w. same (take 2 w) k) (stored new ws)) (sym e) ∙ first_own ws

-- ---- the roles in force in a row with these roles in its places

-- an unused place is free
zeros_free : (later : ℕ) → free later (replicate role_slot_size 0) ≡ true
unfolding free no_role bits bit
zeros_free later = refl

slots_in_force : (later : ℕ) (h x : List ℕ) → length h ≡ cred_body_size → roles_in_force later (h ++ x) ≡ without (free later) (slots_in x)
unfolding roles_in_force
slots_in_force later h x l = ap (λ (y : List ℕ). without (free later) (slots_in y)) (drop_at h x cred_body_size l)

asserted_in_force : (clock later : ℕ) (b : List ℕ) (w : Row) → Held w → length b ≡ role_slot_size → no_role b ≡ false → both_taken b (roles_in_force clock w) ≡ false
    → roles_in_force later (asserted clock b w) ≡ without (free later) (with_role b (roles_in_force clock w))
unfolding asserted
asserted_in_force clock later b w p l v n =
    slots_in_force later (body_of w) (packed roles_size (with_role b (roles_in_force clock w))) (body_long w p.long)
    ∙ few_slots (free later) (zeros_free later) (with_role b (roles_in_force clock w))
    (few_with_role b l v (roles_in_force clock w) (few_in_force clock w p) n)

-- ---- what an UPDATE of roles asks for

roles_action : (r : List ℕ) → verb r ≡ 2 → resource r ≡ roles → action r ≡ update_roles (connection r) (body r)
unfolding entry_of action_of security_action update_action
roles_action r v n = rw (v, n)

asserts_role : (c : ℕ) (b : List ℕ) → is_malformed (update_roles c b) ≡ false → update_roles c b ≡ Assert c
unfolding update_roles if_allowed
asserts_role c b m =
    bool_cases (eqb (length b) 8)
    (λ e. bool_cases (no_role b) (λ f. contradiction refl (rw (e, f) at m)) (λ f. rw (e, f)))
    (λ e. contradiction refl (rw e at m))

-- ---- of a record

module _ (d : Defaults) (t : Tables) (q : Request) (updates : verb q.bytes ≡ 2) (on : resource q.bytes ≡ roles) where
  abbrev own : Row
  own = sender_row t (sender q.bytes)

  abbrev new : Row
  new = asserted q.clock (body q.bytes) own

  pub role_asserted : (response_to d t q).answer ≡ 0 → RoleAsserted q.clock (body q.bytes) (sender q.bytes) t (tables_after d t q)
  role_asserted z =
      let r = q.bytes in
      let b = body r in
      let c = connection r in
      let p = permission q.clock t r in
      let e = permitted_passes d t q z in
      let asked = roles_action r updates on in
      let is : action r ≡ Assert c = asked ∙ asserts_role c b (ap is_malformed (sym asked) ∙ passed (checks t p q) e 10) in
      let x : Passed t q (Assert c) = rw is at (passed_all t p q e) in
      let h = not-false (sound t) (passed (checks t p q) e 1) in
      let a = asserts t r c x.valid x.allowed x.long x.known in
      let w = own_held t r h a in
      let ws = stored new (rows Creds t) in
      let s = asserted_sound c t q h x in
      let tables : tables_after d t q ≡ with_rows Creds t ws = ap (λ (o : Outcome). o.tables) (permitted_outcome d t q z) ∙ ap (effect_by d t q) is in
      let are : rows Creds (tables_after d t q) ≡ ws = ap (rows Creds) tables ∙ rows_with Creds t ws s.few s.stores in
      let two = asserted_two t r h a q.clock b in
      let own_is : sender_row (tables_after d t q) (sender r) ≡ new =
      ap (sender_row (tables_after d t q)) a.is ∙ ap (first_row (numbered a.number)) are ∙ stored_first new a.number two (rows Creds t) in
      record {
        rows_left = are ∙ stored_instead new own (own_two t r h a ∙ sym two) (rows Creds t) (asserted_number t r h a q.clock b) (table_parts Creds t h).distinct
            ∙ ap (λ (v : Row). map (instead_of own v) (rows Creds t)) (sym own_is);
        own_body = ap body_of own_is ∙ asserted_body q.clock b own w;
        own_roles_lem = λ later. ap (roles_in_force later) own_is ∙ asserted_in_force q.clock later b own w x.valid.1 x.valid.2 x.placed;
        others = tables ∙ ap (with_rows Creds t) (sym are);
      }

  -- where the checks before 13 pass: 22 where both places hold other roles in force, and else 0
  pub role_answer : none_applies (earlier t (permission q.clock t q.bytes) q.bytes) ≡ true
      → (response_to d t q).answer ≡ cond (both_taken (body q.bytes) (roles_in_force q.clock (sender_row t (sender q.bytes)))) 22 0
  unfolding reads verdict
  role_answer h =
      let r = q.bytes in
      let b = body r in
      let c = connection r in
      let p = permission q.clock t r in
      let e : verdict (earlier t p r) ≡ Pass = none_permitted (earlier t p r) h in
      let unread : reads (header_of r) ≡ false = rw updates in
      let asked = roles_action r updates on in
      let is : action r ≡ Assert c = asked ∙ asserts_role c b (ap is_malformed (sym asked) ∙ passed (earlier t p r) e 10) in
      answer_is d t q
      ∙ ap number_of (sym (skip_all (earlier t p r) (row_checks q.clock t own b (action r) ++ capacity_checks q.capacity (length (reply_of q.clock t r))) refl e refl))
      ∙ rw (is, no_reply_fits t q unread) (bool_cases (both_taken b (roles_in_force q.clock own)) (λ x. rw x) (λ x. rw x))
