-- Demand 3 is not empty: a run for which the premise of 'The others alone' holds, though the chosen senders do write.
-- What everybody is answered, and what the theorem says of it.
use Rattle.rows.proofs.Prelude.{◌≡◌, refl, Bool, true, false, not, ◌&&◌, List, [], ◌∷◌, map, eqb, eqb-true, not-true, and_left, and_right}
use Rattle.rules.specs.declared.Tables.{Tables}
use Rattle.rules.specs.Directory.{some_security}
use Rattle.rules.specs.declared.Sender.{Sender}
use Rattle.rules.specs.declared.Sender.TheVariants.{Unauthenticated, Partner}
use Rattle.rules.specs.Record.{Request}
use Rattle.rules.specs.Defaults.{no_defaults}
use Rattle.rules.specs.Outcome.{response_to, tables_after}
use Rattle.rules.specs.Run.{replies, final, Along, kept, kept_of}
use Rattle.rules.specs.Isolation.{Harmless, Premise, is_others, names_owner, row_alters, may_fit, may_alter, compared}
use Rattle.rules.proofs.Samples.{samples, lent, cred_row, ace_row, weight, haulier, yard}
use Rattle.rules.proofs.Isolated.{isolation}

-- ---- demand 3 is not empty: partner 7, a haulier who may read resource 8, is chosen, and the unauthenticated senders with it

unfoldable pub chosen7 : Sender → Bool
chosen7 Unauthenticated = true
chosen7 (Partner n) = eqb n 7

-- the chosen try to write, and read resource 8; the owner, partner 5, goes to state 2, stores a credential and goes back to state 3
pub yard_run : List Request
yard_run =
    map lent
    ((0x50 ∷ 0xc0 ∷ 0x00 ∷ 0x07 ∷ ace_row 9 0 31 0 weight haulier)
    ∷ (0x50 ∷ 0x40 ∷ 0x00 ∷ 0x05 ∷ 0x40 ∷ [])
    ∷ (0x60 ∷ 0x80 ∷ 0x00 ∷ 0x00 ∷ [])
    ∷ (0x50 ∷ 0x80 ∷ 0x00 ∷ 0x05 ∷ cred_row 9)
    ∷ (0x50 ∷ 0x80 ∷ 0x00 ∷ 0x07 ∷ cred_row 9)
    ∷ (0x50 ∷ 0x40 ∷ 0x00 ∷ 0x05 ∷ 0x60 ∷ [])
    ∷ (0x32 ∷ 0x00 ∷ 0x00 ∷ 0x07 ∷ 0x01 ∷ [])
    ∷ [])

-- everybody's answers: the chosen get 8 for each write, and their read is served
pub yard_answers : replies (λ t q. (response_to no_defaults t q).answer) (tables_after no_defaults) yard yard_run ≡ 8 ∷ 0 ∷ 8 ∷ 0 ∷ 8 ∷ 0 ∷ 0 ∷ []
unfolding samples yard_run
yard_answers = refl

-- the premise for these two senders, as a test
unfoldable pub calm : Tables → Bool
calm t =
    not (eqb t.owned 0) && not (names_owner t Unauthenticated) && not (names_owner t (Partner 7))
    && not (may_alter t Unauthenticated) && not (may_alter t (Partner 7))

record Calm (t : Tables) : Type 0 where
  owned : not (eqb t.owned 0) ≡ true
  stranger_owner : not (names_owner t Unauthenticated) ≡ true
  haulier_owner : not (names_owner t (Partner 7)) ≡ true
  stranger_alters : not (may_alter t Unauthenticated) ≡ true
  haulier_alters : not (may_alter t (Partner 7)) ≡ true

calm_parts : (t : Tables) → calm t ≡ true → Calm t
unfolding calm
calm_parts t h = search (and_left, and_right)

pub calm_harmless : (t : Tables) → calm t ≡ true → Harmless chosen7 t
unfolding chosen7
calm_harmless t h = let p = calm_parts t h in record { has_owner = λ s c. not-true _ p.owned; not_owner = owner p; not_granted = granted p }
  where
    owner : Calm t → (s : Sender) → chosen7 s ≡ true → names_owner t s ≡ false
    owner p Unauthenticated c = not-true _ p.stranger_owner
    owner p (Partner n) c = rw (eqb-true n 7 c) (not-true _ p.haulier_owner)

    granted : Calm t → (s : Sender) → chosen7 s ≡ true → may_alter t s ≡ false
    granted p Unauthenticated c = not-true _ p.stranger_alters
    granted p (Partner n) c = rw (eqb-true n 7 c) (not-true _ p.haulier_alters)

pub yard_premise : Along (tables_after no_defaults) (Premise chosen7) yard (kept (is_others chosen7) yard_run)
unfolding samples calm names_owner row_alters may_fit may_alter some_security yard_run chosen7
yard_premise = (λ _. calm_harmless _ refl, (λ _. calm_harmless _ refl, (λ _. calm_harmless _ refl, λ _. calm_harmless _ refl)))

-- so the owner's answers, and the tables at the end, are those of the owner's records alone
pub yard_isolated :
    (kept_of (is_others chosen7) yard_run (replies (response_to no_defaults) (tables_after no_defaults) yard yard_run)
    ≡ replies (response_to no_defaults) (tables_after no_defaults) yard (kept (is_others chosen7) yard_run))
    × (compared chosen7 (final (tables_after no_defaults) yard yard_run)
    ≡ compared chosen7 (final (tables_after no_defaults) yard (kept (is_others chosen7) yard_run)))
yard_isolated = isolation no_defaults chosen7 yard yard_run yard_premise
