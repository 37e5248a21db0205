-- Theorem, U10 with U13: an accepted list is loaded through hand-ins and takes, each record handed in and then taken.
-- From a sound terminal in which nothing waits: each record is kept, each is permitted, and then the access rows are the list's.
use Rattle.rows.proofs.Prelude.{◌≡◌, refl, ap, ◌∙◌, true, List, [], ◌∷◌, map, ℕ, length, bool_cases}
use Rattle.rows.specs.Rows.{Row}
use Rattle.rows.proofs.Kept.{AllLong, every_long}
use Rattle.rules.specs.declared.Tables.{Tables}
use Rattle.rules.specs.declared.Table.TheVariants.{Creds, Aces}
use Rattle.rules.specs.Bits.{bit, bits, be16}
use Rattle.rules.specs.Directory.{entry_of}
use Rattle.rules.specs.Record.{Request}
use Rattle.rules.specs.Tables.{storable, row_of, rows, with_rows, sound}
use Rattle.rules.specs.Defaults.{Defaults}
use Rattle.rules.specs.Permission.{permission}
use Rattle.rules.specs.Action.{if_allowed, store_row, update_rows, update_action, security_action, action_of, action}
use Rattle.rules.specs.Checks.{checks, verdict}
use Rattle.rules.specs.Outcome.{Response, outcome, outcome_at, tables_after}
use Rattle.rules.proofs.CheckLaws.{check_cases}
use Rattle.rules.proofs.BodyLaws.{sized}
use Rattle.rules_terminal.specs.Terminal.{Terminal, sound_terminal}
use Rattle.rules_terminal.specs.Inputs.{records_in}
use Rattle.rules_terminal.specs.CallRun.{Call, Built, handed_back, all_shown}
use Rattle.rules_runs.specs.Events.{gathered}
use Rattle.rules_runs.specs.Isolation.{all_responses}
use Rattle.rules_runs.specs.Waits.{record_kept}
use Rattle.rules_runs.specs.OneByOne.{one_by_one, AllPass}
use Rattle.rules_runs.proofs.Calls.{built_one_by_one}
use Rattle.rules_lists.specs.Lists.{listed, list_tested}
use Rattle.rules_lists.specs.Loading.{storing, Stores, Ready}
use Rattle.rules_lists.proofs.Exact.{accepted_faultless}
use Rattle.rules_lists.proofs.Loaded.{owner_passes, built_loaded}
use Rattle.rules.specs.Sizes.{ace_row_size}

-- a record that stores a row asks for that, or is malformed
storing_action : (n : ℕ) (w : Row) → length w ≡ ace_row_size → action (storing n w) ≡ store_row Aces w
unfolding storing be16 bits bit entry_of action_of security_action update_action update_rows
storing_action n w l = rw l

-- so it leaves the credential rows, whatever its answer
creds_stay : (d : Defaults) (t : Tables) (q : Request) (w : Row) → action q.bytes ≡ store_row Aces w → rows Creds (tables_after d t q) ≡ rows Creds t
unfolding outcome outcome_at store_row if_allowed
creds_stay d t q w e =
    check_cases (verdict (checks t (permission q.clock t q.bytes) q))
    (λ f. rw (f, tables_after, e) (bool_cases (storable Aces (row_of Aces w)) (λ g. rw g) (λ g. rw g)))
    (λ n f. rw (f, tables_after))

-- each record passes 2 to 7 in the tables u that it meets, which have the credential rows of t
all_pass : (d : Defaults) (t u : Tables) → sound t ≡ true → rows Creds u ≡ rows Creds t → (ws : List Row) (qs : List Request) → AllLong ace_row_size ws
    → Stores t qs ws → AllPass d u qs
all_pass d t u h same [] [] l e = tt
all_pass d t u h same [] (q ∷ qs) l e = absurd e
all_pass d t u h same (w ∷ ws) [] l e = absurd e
all_pass d t u h same (w ∷ ws) (q ∷ qs) l e =
    let o = e.0 in (
      rw (same, o.stores) (owner_passes t o.number h o.owner o.small w l.0),
      all_pass d t (tables_after d u q) h (creds_stay d u q w (ap action o.stores ∙ storing_action o.number w l.0) ∙ same) ws qs l.1 e.1,
    )

pub turns_loaded : (d : Defaults) (x : Terminal) (b : List ℕ) (qs : List Request) (cs : List Call) → Built d x (one_by_one qs) cs
    → (list_tested b).answer ≡ 0 → sound_terminal x ≡ true → records_in x ≡ [] → Ready x.tables → Stores x.tables qs (listed b)
    → (gathered record_kept (one_by_one qs) (all_shown (one_by_one qs) cs) ≡ map (λ (q : Request). q.bytes) qs)
    × (map (λ (p : Response). p.answer) (all_responses (one_by_one qs) (all_shown (one_by_one qs) cs)) ≡ map (λ (q : Request). 0) qs)
    × (rows Aces (handed_back x cs).tables ≡ listed b)
    × (with_rows Aces (handed_back x cs).tables [] ≡ with_rows Aces x.tables [])
turns_loaded d x b qs cs built a h none ready e =
    let long = every_long ace_row_size (storable Aces) (sized Aces) (listed b) (accepted_faultless b a).clean.stores in
    let all = built_one_by_one d x qs cs built h none (all_pass d x.tables x.tables ready.is_sound refl (listed b) qs long e) in
    let l = built_loaded d x b (one_by_one qs) cs built a ready (rw all.1 e) in
    (all.0, rw all.1 at l.0, l.1, l.2)
