-- Theorem, demand 3 over the rules: what the chosen senders send changes nothing for the
-- others, nor the tables at the end except for the roles that chosen partners asserted.
-- One claim over the whole list, from 'The others alone'; the premise is read along the others' run. Each request has its clock and its buffer's length.
use Rattle.rows.proofs.Prelude.{◌≡◌, refl, sym, ap, ◌∙◌, Bool, true, false, not, ◌||◌, List, ℕ, length, eqb, eqb-true, not-false, not-true, cond_cases}
use Rattle.rows.proofs.Prelude.{bool_cases, contradiction, or_left, or_right}
use Rattle.rows.specs.Rows.{stored}
use Rattle.rules.specs.declared.Tables.{Tables}
use Rattle.rules.specs.declared.Table.TheVariants.{Creds}
use Rattle.rules.specs.declared.Action.{Action}
use Rattle.rules.specs.declared.Action.TheVariants.{Assert}
use Rattle.rules.specs.Directory.{is_security, roles}
use Rattle.rules.specs.declared.Sender.{Sender}
use Rattle.rules.specs.declared.Sender.TheVariants.{Partner}
use Rattle.rules.specs.Record.{Request, verb, connection, resource, body, sender}
use Rattle.rules.specs.Roles.{no_role, asserted}
use Rattle.rules.specs.Tables.{rows, with_rows, sound}
use Rattle.rules.specs.Action.{action_of, security_action, if_allowed, update_roles, update_action, delete_action, read_action}
use Rattle.rules.specs.Checks.{checks, verdict, not_permitted}
use Rattle.rules.specs.Permission.{C, U, has, needed_bit, sender_row, permission, permission_of}
use Rattle.rules.specs.Outcome.{Outcome, outcome, outcome_at, effect_by, response_to, tables_after}
use Rattle.rules.specs.Run.{replies, final, Along, kept, kept_of}
use Rattle.rules.specs.Defaults.{Defaults}
use Rattle.rules.specs.Isolation.{Harmless, Premise, is_others, alters, redacted, redacted_in, compared}
use Rattle.rules.proofs.CheckLaws.{check_cases}
use Rattle.rules.proofs.Answers.{passed}
use Rattle.rules.proofs.PermissionLaws.{effective_lacks}
use Rattle.rules.proofs.RoleLaws.{asserted_without}
use Rattle.rules.proofs.RowMaps.{stored_over}
use Rattle.rules.proofs.OwnRow.{asserts, own_held, own_two, asserted_two, asserted_number, asserted_first}
use Rattle.rules.proofs.SoundKept.{Passed, passed_all, asserted_sound, sound_kept, sound_same}
use Rattle.rules.proofs.Alike.{hidden_body, hidden_at, hidden_with, compared_at, outcome_alike, harmless_alike}
use Rattle.rules.proofs.Refusals.{unsound_refused}
use Rattle.rules.proofs.Simulation.{simulation}

module _ (d : Defaults) (chosen : Sender → Bool) where
  -- ---- a record of the chosen
  module _ (t : Tables) (q : Request) (ours : chosen (sender q.bytes) ≡ true) (h : sound t ≡ true) where
    -- the action, where it passes, changes nothing but what is hidden
    abbrev Still : Action → Type 0
    Still a = Passed t q a → redacted_in chosen (effect_by d t q a) ≡ redacted_in chosen t

    -- what a chosen partner asserts is hidden
    assert_still : (c : ℕ) → Still (Assert c)
    assert_still c x =
        let r = q.bytes in
        let b = body r in
        let w = sender_row t (sender r) in
        let new = asserted q.clock b w in
        let a = asserts t r c x.valid x.allowed x.long x.known in
        let one : chosen (Partner a.number) ≡ true = ap chosen (sym a.is) ∙ ours in
        let same : redacted chosen new ≡ redacted chosen w =
        hidden_at chosen new a.number a.small (asserted_two t r h a q.clock b) one
        ∙ asserted_without q.clock b w (own_held t r h a) x.valid.1 x.valid.2 x.placed
        ∙ sym (hidden_at chosen w a.number a.small (own_two t r h a) one) in
        hidden_with chosen t (stored new (rows Creds t)) (asserted_sound c t q h x)
        ∙ ap (with_rows Creds t) (stored_over (redacted chosen) (hidden_body chosen) new (rows Creds t) (asserted_number t r h a q.clock b)
        (same ∙ ap (redacted chosen) (sym (asserted_first t r h a q.clock b))))

    read_still : (b : List ℕ) → Still (read_action b)
    unfolding read_action
    read_still b = cond_cases Still (eqb (length b) 0) (λ _ _. refl) (λ _ _. refl)

    -- on roles it is read, or asserts; on another security resource a permission that alters nothing permits neither UPDATE nor DELETE
    security_still : (v c n : ℕ) (b : List ℕ) (p : ℕ) → (eqb n roles ≡ false → alters p ≡ false) → has p (needed_bit v) ≡ true
        → Still (security_action v c n b)
    unfolding security_action update_action update_roles if_allowed delete_action
    security_still v c n b p lacks may =
        cond_cases Still (eqb v 1) (λ _. read_still b)
        (λ _. cond_cases Still (eqb v 2)
        (λ e. bool_cases (eqb n roles)
        (λ f. rw (eqb-true n roles f)
        (cond_cases Still (eqb (length b) 8) (λ _. cond_cases Still (not (no_role b)) (λ _. assert_still c) (λ _ _. refl)) (λ _ _. refl)))
        (λ f. contradiction (rw (eqb-true v 2 e) at may) (or_right (has p C) _ (or_left (has p C || has p U) _ (lacks f)))))
        (λ _. cond_cases Still (eqb v 3)
        (λ e. bool_cases (eqb n roles)
        (λ f. rw (eqb-true n roles f) (λ _. refl))
        (λ f. contradiction (rw (eqb-true v 3 e) at may) (or_right (has p C || has p U) _ (lacks f))))
        (λ _. cond_cases Still (eqb v 4) (λ _. read_still b) (λ _ _. refl))))

    -- sound tables are the same afterwards except for what is hidden
    unchanged : Harmless chosen t → redacted_in chosen (tables_after d t q) ≡ redacted_in chosen t
    unfolding outcome outcome_at permission_of not_permitted action_of
    unchanged safe =
        let r = q.bytes in
        let p = permission q.clock t r in
        check_cases (verdict (checks t p q))
        (λ e. rw (e, tables_after) (cond_cases Still (is_security (resource r))
        (λ sec. security_still (verb r) (connection r) (resource r) (body r) p
        (effective_lacks q.clock chosen t (sender r) (resource r) safe ours sec) (not-false _ (passed (checks t p q) e 8)))
        (λ _ _. refl) (passed_all t p q e)))
        (λ n e. rw (e, tables_after))

  -- ---- the two sides: what is compared is the same, and both are sound or neither is

  pub record Related (s b : Tables) : Type 0 where
    pub same : compared chosen s ≡ compared chosen b
    pub sound : sound s ≡ sound b

  -- sound tables
  module _ (s b : Tables) (e : Related s b) (h : sound s ≡ true) where
    others_sound : sound b ≡ true
    others_sound = sym e.sound ∙ h

    hidden_same : redacted_in chosen s ≡ redacted_in chosen b
    hidden_same = sym (compared_at chosen s h) ∙ e.same ∙ compared_at chosen b others_sound

  compared_after : (t u : Tables) (q : Request) → sound t ≡ true → sound u ≡ true → redacted_in chosen (tables_after d t q) ≡ redacted_in chosen u
      → compared chosen (tables_after d t q) ≡ compared chosen u
  compared_after t u q h k e = compared_at chosen (tables_after d t q) (sound_kept d t q h) ∙ e ∙ sym (compared_at chosen u k)

  pub silent : (s b : Tables) (q : Request) → is_others chosen q ≡ false → Premise chosen b → Related s b → Related (tables_after d s q) b
  silent s b q o p e = record {
    same =
        bool_cases (sound s)
        (λ h.
        let k = others_sound s b e h in
        let u = unchanged s q (not-false (chosen (sender q.bytes)) o) h (harmless_alike chosen s b (hidden_same s b e h) h k (p k)) in
        compared_after s b q h k (u ∙ hidden_same s b e h))
        (λ h. ap (λ (x : Outcome). compared chosen x.tables) (unsound_refused d s q h) ∙ e.same);
    sound = sound_same d s q ∙ e.sound;
  }

  pub congruent : (s b : Tables) (q : Request) → is_others chosen q ≡ true → Premise chosen b → Related s b
      → (response_to d s q ≡ response_to d b q) × Related (tables_after d s q) (tables_after d b q)
  congruent s b q o p e =
      let sounds : sound (tables_after d s q) ≡ sound (tables_after d b q) = sound_same d s q ∙ e.sound ∙ sym (sound_same d b q) in
      bool_cases (sound s)
      (λ h.
      let k = others_sound s b e h in
      let both = outcome_alike chosen s b (hidden_same s b e h) h k d q (not-true (chosen (sender q.bytes)) o) in
      (both.0, record { same = compared_after s (tables_after d b q) q h (sound_kept d b q k) both.1; sound = sounds }))
      -- tables that are not sound are the same
      (λ h.
      let same : s ≡ b = sym (compared_at chosen s h) ∙ e.same ∙ compared_at chosen b (sym e.sound ∙ h) in
      (rw same, record { same = rw same; sound = sounds }))

  -- demand 3
  pub isolation :
      (t : Tables) (qs : List Request)
      → Along (tables_after d) (Premise chosen) t (kept (is_others chosen) qs)
      → (kept_of (is_others chosen) qs (replies (response_to d) (tables_after d) t qs) ≡ replies (response_to d) (tables_after d) t (kept (is_others chosen) qs))
      × (compared chosen (final (tables_after d) t qs) ≡ compared chosen (final (tables_after d) t (kept (is_others chosen) qs)))
  isolation t qs premise =
      let both = simulation (response_to d) (tables_after d) (is_others chosen) (Premise chosen)
      Related silent congruent t t qs premise (record { same = refl; sound = refl }) in
      (both.0, both.1.same)
