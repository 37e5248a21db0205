-- Theorem over the definitions: from a sound terminal in which nothing waits, records handed in and taken one by one are all kept,
-- and judged in their order as they are. Each must pass 2 to 7 in the tables that it meets.
use Rattle.rows.proofs.Prelude.{◌≡◌, refl, sym, ap, ap₂, ◌∙◌, true, List, [], ◌∷◌, map, ℕ, arith, length, length-map, eqb, eq-eqb, or-false, cond_cases}
use Rattle.rows.specs.Rows.{Row, same, some, without}
use Rattle.rows.proofs.Kept.{same_true, same_refl}
use Rattle.rules.specs.declared.Tables.{Tables}
use Rattle.rules.specs.declared.Table.TheVariants.{Creds}
use Rattle.rules.specs.declared.Check.{Check}
use Rattle.rules.specs.declared.Check.TheVariants.{Pass}
use Rattle.rules.specs.Record.{Request, received, credential}
use Rattle.rules.specs.Tables.{rows}
use Rattle.rules.specs.Defaults.{Defaults}
use Rattle.rules.specs.Checks.{verdict}
use Rattle.rules.specs.Promises.Groups.{sender_checks}
use Rattle.rules.specs.Outcome.{tables_after}
use Rattle.rules.proofs.Answers.{passed}
use Rattle.rules.proofs.CheckLaws.{check_cases}
use Rattle.rules_terminal.specs.Slots.{record_of, waiting}
use Rattle.rules_terminal.specs.Round.{occupied}
use Rattle.rules_terminal.specs.Terminal.{Terminal, sound_terminal, hand_in_checks, handed_in, take_checks, due, take_of, taken}
use Rattle.rules_terminal.specs.Inputs.{hand_in, take_at, transition, all_judged, request_of, records_in, all_kept}
use Rattle.rules_terminal.proofs.Sound.{sound_next}
use Rattle.rules_terminal.proofs.Refused.{take_ready}
use Rattle.rules_terminal.proofs.Origin.{handed_records, taken_came}
use Rattle.rules_runs.specs.Events.{sent_by}
use Rattle.rules_runs.specs.Waits.{record_taken, resets, is_removed}
use Rattle.rules_runs.specs.OneByOne.{one_by_one, AllPass}
use Rattle.rules_runs.proofs.Seen.{taken_seen}
use Rattle.rules_runs.proofs.Waits.{waits_seen}

-- nothing waits, by the records and by the slots
no_slots : (ws : List Row) → map record_of ws ≡ [] → ws ≡ []
no_slots [] e = refl
no_slots (w ∷ ws) e = absurd (omega (arith, ap length e))

-- a record leaves the queue with its own take
own_removed : (t : Tables) (r : List ℕ) → is_removed (r ∷ []) t r ≡ true
unfolding is_removed sent_by some
own_removed t r = rw (eq-eqb (credential r) (credential r) refl)

hand_tables : (x : Terminal) (r : List ℕ) → (handed_in x r).terminal.tables ≡ x.tables
unfolding handed_in
hand_tables x r = check_cases (verdict (hand_in_checks x r)) (λ e. rw e) (λ n e. rw e)

-- ---- one record, handed in and taken

module _ (d : Defaults) (x : Terminal) (q : Request) (h : sound_terminal x ≡ true) (none : records_in x ≡ [])
    (passes : verdict (sender_checks (rows Creds x.tables) q.bytes) ≡ Pass) where
  abbrev y : Terminal
  y = (handed_in x q.bytes).terminal

  -- it is kept, and no other waits
  one_kept : verdict (hand_in_checks x q.bytes) ≡ Pass
  unfolding verdict occupied some
  one_kept =
      let by = passed (sender_checks (rows Creds x.tables) q.bytes) passes in
      rw (h, by 2, by 3, by 4, by 5, by 6, by 7, no_slots (waiting x.queue) none)

  y_sound : sound_terminal y ≡ true
  y_sound = sound_next d x (hand_in q.bytes) h

  one_waits : records_in y ≡ q.bytes ∷ []
  one_waits = handed_records x q.bytes h ∙ rw (none, one_kept)

  y_ready : verdict (take_checks y) ≡ Pass
  y_ready = take_ready y y_sound (ap (λ (n : ℕ). eqb n 0) (sym (length-map (waiting y.queue) record_of) ∙ ap length one_waits))

  -- so it is due
  due_is : due y ≡ q.bytes
  unfolding some
  due_is =
      let came = taken_came d y (take_at q.clock q.capacity ∷ []) (due y) (rw (y_ready, same_refl (due y))) in
      same_true (due y) q.bytes (sym (or-false (same (due y) q.bytes)) ∙ rw one_waits at came)

  abbrev z : Terminal
  z = (taken d y q.clock q.capacity).terminal

  -- and then nothing waits
  none_left : records_in z ≡ []
  unfolding without
  none_left =
      let i = take_at q.clock q.capacity in
      let orphaned : record_taken i (transition d y i) ≡ q.bytes ∷ [] = taken_seen d y i ∙ rw (y_ready, due_is) in
      waits_seen d y i y_sound
      ∙ rw (orphaned, one_waits, own_removed z.tables q.bytes)
      (cond_cases (λ (rs : List (List ℕ)). rs ≡ []) (resets i (transition d y i)) (λ _. refl) (λ _. refl))

  tables_are : z.tables ≡ tables_after d x.tables q
  unfolding taken
  tables_are =
      ap (λ (c : Check). (take_of d y (received q.clock (due y) q.capacity) c).terminal.tables) y_ready
      ∙ ap₂ (λ (t : Tables) (r : List ℕ). tables_after d t (received q.clock r q.capacity)) (hand_tables x q.bytes) due_is

-- ---- all of them

module _ (d : Defaults) where
  pub one_by_one_lem : (x : Terminal) (qs : List Request) → sound_terminal x ≡ true → records_in x ≡ [] → AllPass d x.tables qs
      → (all_kept d x (one_by_one qs) ≡ map (λ (q : Request). q.bytes) qs) × (map request_of (all_judged d x (one_by_one qs)) ≡ qs)
  one_by_one_lem x [] h none p = (refl, refl)
  one_by_one_lem x (q ∷ qs) h none p =
      let v = y d x q h none p.0 in
      let w = z d x q h none p.0 in
      let more = one_by_one_lem w qs (sound_next d v (take_at q.clock q.capacity) (y_sound d x q h none p.0)) (none_left d x q h none p.0)
      (rw (tables_are d x q h none p.0) p.1) in
      (rw (one_kept d x q h none p.0, more.0), rw (y_ready d x q h none p.0, due_is d x q h none p.0, more.1))
