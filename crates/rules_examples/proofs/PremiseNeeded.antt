-- Theorems: each part of the premise of 'The others alone' is needed. For each part a run, and tables in which it alone fails:
-- what is compared of the tables at the end is then not the same.
use Rattle.rows.proofs.Prelude.{◌≡◌, refl, ap, Bool, true, false, not, false≢true, List, [], ◌∷◌, map, ℕ, ◌≤◌, arith, replicate, eqb, eqb-true, not-true}
use Rattle.rules.specs.declared.Tables.{Tables}
use Rattle.rules.specs.declared.Table.TheVariants.{Aces}
use Rattle.rules.specs.Directory.{some_security}
use Rattle.rules.specs.declared.Sender.{Sender}
use Rattle.rules.specs.declared.Sender.TheVariants.{Unauthenticated, Partner}
use Rattle.rules.specs.Record.{Request, received}
use Rattle.rules.specs.Tables.{sound, with_rows, with_row_owner}
use Rattle.rules.specs.Defaults.{no_defaults, fresh}
use Rattle.rules.specs.Outcome.{response_to, tables_after}
use Rattle.rules.specs.Run.{replies, final, Along, kept}
use Rattle.rules.specs.Isolation.{Harmless, is_others, names_owner, row_alters, may_fit, may_alter, compared}
use Rattle.rules.proofs.Samples.{samples, cred_row, with_creds, owned5, serving, ace_row, haulier_row, haulier}

-- ---- the premise, where partner 7 alone is chosen

unfoldable pub only7 : Sender → Bool
only7 Unauthenticated = false
only7 (Partner n) = eqb n 7

-- its parts as tests: there is an owner; the credential row of 7 names none; no access row that may fit 7 gives create, update or delete
unfoldable pub parts : Tables → List Bool
parts t = not (eqb t.owned 0) ∷ not (names_owner t (Partner 7)) ∷ not (may_alter t (Partner 7)) ∷ []

-- they are the premise
pub harmless_parts : (t : Tables) → Harmless only7 t → parts t ≡ true ∷ true ∷ true ∷ []
unfolding only7 parts
harmless_parts t h = rw (h.has_owner (Partner 7) refl, h.not_owner (Partner 7) refl, h.not_granted (Partner 7) refl)

pub parts_harmless : (t : Tables) → parts t ≡ true ∷ true ∷ true ∷ [] → Harmless only7 t
unfolding only7 parts
parts_harmless t e = record { has_owner = owned; not_owner = owner; not_granted = granted }
  where
    owned : (s : Sender) → only7 s ≡ true → eqb t.owned 0 ≡ false
    owned s c = not-true _ cc

    owner : (s : Sender) → only7 s ≡ true → names_owner t s ≡ false
    owner Unauthenticated c = absurd (false≢true c)
    owner (Partner n) c = rw (eqb-true n 7 c) (not-true _ cc)

    granted : (s : Sender) → only7 s ≡ true → may_alter t s ≡ false
    granted Unauthenticated c = absurd (false≢true c)
    granted (Partner n) c = rw (eqb-true n 7 c) (not-true _ cc)

-- ---- the runs: the owner, partner 5, reads pstat; partner 7 sends a record; partner 5 reads again

pub around : List ℕ → List Request
around r = let reads : List ℕ = 0x30 ∷ 0x40 ∷ 0x00 ∷ 0x05 ∷ [] in map (λ b. received 0 b 17) (reads ∷ r ∷ reads ∷ [])

-- partner 7 resets the terminal
pub reset_run : List Request
reset_run = around (0x50 ∷ 0x40 ∷ 0x00 ∷ 0x07 ∷ 0x00 ∷ [])

-- partner 7 deletes the owner's credential row
pub delete_run : List Request
delete_run = around (0x70 ∷ 0x80 ∷ 0x00 ∷ 0x07 ∷ 0x00 ∷ 0x05 ∷ [])

-- along the others' part of the run the tables are sound, and these parts of the premise hold; and yet the tables at the end differ
pub record Needed (run : List Request) (holds : List Bool) (t : Tables) : Type 0 where
  pub premise : Along (tables_after no_defaults) (λ (x : Tables). (sound x ∷ parts x) ≡ true ∷ holds) t (kept (is_others only7) run)
  pub differ :
      compared only7 (final (tables_after no_defaults) t run)
      ≡ compared only7 (final (tables_after no_defaults) t (kept (is_others only7) run))
      → ⊥

-- fewer credential rows than both
rows_gone : (a b : Tables) → a.ncreds ≤ 1 → b.ncreds ≡ 2 → a ≡ b → ⊥
rows_gone a b few two e = let z = ap (λ (x : Tables). x.ncreds) e in omega arith

-- everybody's answers
pub answers : List Request → Tables → List ℕ
answers run t = replies (λ x q. (response_to no_defaults x q).answer) (tables_after no_defaults) t run

-- `unfolding the_runs` opens all that these examples say
the_runs : Unit {0}
unfolding samples names_owner row_alters may_fit may_alter some_security compared only7 parts around reset_run delete_run answers
the_runs = tt

-- ---- no owner: RFOTM, a credential row for each

pub unowned : Tables
unowned = with_creds (fresh no_defaults) (cred_row 5 ∷ haulier_row 7 ∷ [])

pub owner_needed : Needed reset_run (false ∷ true ∷ true ∷ []) unowned
unfolding the_runs unowned
owner_needed = record { premise = (refl, (refl, refl)); differ = rows_gone _ _ (omega arith) refl }

-- ---- a chosen partner's credential row names an owner, in RFNOP: the device owner; the row owner of pstat

pub deputy : Tables
deputy = with_creds (serving []) (cred_row 5 ∷ cred_row 7 ∷ [])

pub device_owner_needed : Needed reset_run (true ∷ false ∷ true ∷ []) deputy
unfolding the_runs deputy
device_owner_needed = record { premise = (refl, (refl, refl)); differ = rows_gone _ _ (omega arith) refl }

pub caretaker : Tables
caretaker = with_row_owner (with_creds (serving []) (cred_row 5 ∷ haulier_row 7 ∷ [])) 1 haulier

pub row_owner_needed : Needed reset_run (true ∷ false ∷ true ∷ []) caretaker
unfolding the_runs caretaker
row_owner_needed = record { premise = (refl, (refl, refl)); differ = rows_gone _ _ (omega arith) refl }

-- ---- an access row gives a chosen partner update on pstat, in RFNOP

pub granted : Tables
granted = with_creds (serving (ace_row 1 0 4 0 (0x40 ∷ replicate 7 0) haulier ∷ [])) (cred_row 5 ∷ haulier_row 7 ∷ [])

pub grant_needed : Needed reset_run (true ∷ true ∷ false ∷ []) granted
unfolding the_runs granted
grant_needed = record { premise = (refl, (refl, refl)); differ = rows_gone _ _ (omega arith) refl }

-- ---- an access row gives a chosen partner delete on cred, in RFPRO

pub deleting : Tables
deleting = with_creds (with_rows Aces owned5 (ace_row 1 0 8 0 (0x20 ∷ replicate 7 0) haulier ∷ [])) (cred_row 5 ∷ haulier_row 7 ∷ [])

pub delete_needed : Needed delete_run (true ∷ true ∷ false ∷ []) deleting
unfolding the_runs deleting
delete_needed = record { premise = (refl, (refl, refl)); differ = rows_gone _ _ (omega arith) refl }

-- ---- in each the record is permitted, and the owner is then unknown; where no part fails it is refused

pub calm : Tables
calm = with_creds (serving []) (cred_row 5 ∷ haulier_row 7 ∷ [])

pub calm_rfpro : Tables
calm_rfpro = with_creds owned5 (cred_row 5 ∷ haulier_row 7 ∷ [])

pub reset_answers :
    map (answers reset_run) (unowned ∷ deputy ∷ caretaker ∷ granted ∷ calm ∷ [])
    ≡ (0 ∷ 0 ∷ 7 ∷ []) ∷ (0 ∷ 0 ∷ 7 ∷ []) ∷ (0 ∷ 0 ∷ 7 ∷ []) ∷ (0 ∷ 0 ∷ 7 ∷ []) ∷ (0 ∷ 8 ∷ 0 ∷ []) ∷ []
unfolding the_runs unowned deputy caretaker granted calm
reset_answers = refl

pub delete_answers : map (answers delete_run) (deleting ∷ calm_rfpro ∷ []) ≡ (0 ∷ 0 ∷ 7 ∷ []) ∷ (0 ∷ 8 ∷ 0 ∷ []) ∷ []
unfolding the_runs deleting calm_rfpro
delete_answers = refl
