-- Theorem: only an UPDATE of doxm, pstat, cred or acl2 endangers. No DELETE does, no assertion of a role, and no record for an application.
use Rattle.rows.proofs.Prelude.{◌≡◌, refl, Bool, true, false, ◌&&◌, List, [], ◌∷◌, ℕ, ◌≤◌, arith, length, eqb, eq-eqb, eqb-true, le-leb}
use Rattle.rows.proofs.Prelude.{cond_cases, bool_cases, contradiction, and_left, and_right, or_left, or_right, or_neither, and_both}
use Rattle.rules.specs.declared.Action.{Action}
use Rattle.rules.specs.declared.Sender.{Sender}
use Rattle.rules.specs.Directory.{is_security, doxm, pstat, cred, acl2, roles}
use Rattle.rules.specs.Record.{retrieve, update, delete, observe, verb, connection, resource, body}
use Rattle.rules.specs.Action.{if_allowed, update_roles, update_action, delete_number, delete_aces, delete_creds, delete_action}
use Rattle.rules.specs.Action.{read_action, security_action, action_of, action}
use Rattle.rules_terminal.specs.Inputs.{Turn, bytes_of}
use Rattle.rules_isolation.specs.Service.{endangers, was_permitted, endangering, updating, some_turn}

module _ (chosen : Sender → Bool) (v c n : ℕ) (b : List ℕ) where
  -- an action that endangers is of such a record
  abbrev Tells : Action → Type 0
  Tells a = endangers chosen b a ≡ true → (v ≡ update) × (n ≤ acl2)

  read_tells : Tells (read_action b)
  unfolding read_action
  read_tells = cond_cases Tells (eqb (length b) 0) (λ _ h. contradiction h refl) (λ _ h. contradiction h refl)

  allowed_tells : (test : Bool) (a : Action) → Tells a → Tells (if_allowed test a)
  unfolding if_allowed
  allowed_tells test a f = cond_cases Tells test (λ _. f) (λ _ h. contradiction h refl)

  delete_tells : Tells (delete_action n b)
  unfolding delete_action delete_creds delete_aces delete_number
  delete_tells =
      cond_cases Tells (eqb n cred)
      (λ _. cond_cases Tells (eqb (length b) 0) (λ _ h. contradiction h refl)
      (λ _. cond_cases Tells (eqb (length b) 2) (λ _. allowed_tells _ _ (λ h. contradiction h refl))
      (λ _. cond_cases Tells (eqb (length b) 16) (λ _. allowed_tells _ _ (λ h. contradiction h refl)) (λ _ h. contradiction h refl))))
      (λ _. cond_cases Tells (eqb n acl2)
      (λ _. cond_cases Tells (eqb (length b) 0) (λ _ h. contradiction h refl)
      (λ _. cond_cases Tells (eqb (length b) 2) (λ _. allowed_tells _ _ (λ h. contradiction h refl)) (λ _ h. contradiction h refl)))
      (λ _ h. contradiction h refl))

  update_tells : v ≡ update → Tells (update_action c n b)
  unfolding update_action update_roles
  update_tells e =
      cond_cases Tells (eqb n doxm) (λ f _. (e, omega (arith, eqb-true n doxm f)))
      (λ _. cond_cases Tells (eqb n pstat) (λ f _. (e, omega (arith, eqb-true n pstat f)))
      (λ _. cond_cases Tells (eqb n cred) (λ f _. (e, omega (arith, eqb-true n cred f)))
      (λ _. cond_cases Tells (eqb n acl2) (λ f _. (e, omega (arith, eqb-true n acl2 f)))
      (λ _. cond_cases Tells (eqb n roles)
      (λ _. cond_cases Tells (eqb (length b) 8) (λ _. allowed_tells _ _ (λ h. contradiction h refl)) (λ _ h. contradiction h refl))
      (λ _ h. contradiction h refl)))))

  security_tells : Tells (security_action v c n b)
  unfolding security_action
  security_tells =
      cond_cases Tells (eqb v retrieve) (λ _. read_tells)
      (λ _. cond_cases Tells (eqb v update) (λ e. update_tells (eqb-true v update e))
      (λ _. cond_cases Tells (eqb v delete) (λ _. delete_tells)
      (λ _. cond_cases Tells (eqb v observe) (λ _. read_tells) (λ _ h. contradiction h refl))))

pub only_updates : (chosen : Sender → Bool) (r : List ℕ) → endangers chosen (body r) (action r) ≡ true → (verb r ≡ update) × (resource r ≤ acl2)
unfolding action_of
only_updates chosen r =
    cond_cases (Tells chosen (verb r) (connection r) (resource r) (body r)) (is_security (resource r))
    (λ _. security_tells chosen (verb r) (connection r) (resource r) (body r))
    (λ _ h. contradiction h refl)

-- a record that is no such UPDATE does not endanger
not_updating : (chosen : Sender → Bool) (u : Turn) → updating u ≡ false → endangering chosen u ≡ false
unfolding updating endangering
not_updating chosen u h =
    bool_cases (endangering chosen u)
    (λ e.
    let yes = and_left (was_permitted u) _ e in
    let is = only_updates chosen (bytes_of u) (and_right (was_permitted u) _ e) in
    contradiction
    (and_both (was_permitted u && eqb (verb (bytes_of u)) update) _
    (and_both (was_permitted u) _ yes (eq-eqb (verb (bytes_of u)) update is.0)) (le-leb (resource (bytes_of u)) acl2 is.1)) h)
    (λ e. e)

-- nor does a list of records without one
pub no_updates : (chosen : Sender → Bool) (us : List Turn) → some_turn updating us ≡ false → some_turn (endangering chosen) us ≡ false
no_updates chosen [] h = refl
no_updates chosen (u ∷ us) h =
    or_neither (endangering chosen u) _ (not_updating chosen u (or_left (updating u) _ h)) (no_updates chosen us (or_right (updating u) _ h))
