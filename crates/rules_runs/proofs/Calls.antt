-- The theorems of any calls that meet the contracts of `hand_in`, `take` and `judge`, and of `payload` after the last two, each on the tables
-- and the memory returned last. The calls show what the definitions answer, so that each theorem is the one over the definitions.
use Rattle.rows.proofs.Prelude.{◌≡◌, sym, ap, ◌∙◌, Bool, true, List, [], ◌∷◌, ◌++◌, map, ℕ, ◌+◌, ◌≤◌}
use Rattle.rows.specs.Rows.{same, some}
use Rattle.rules.specs.declared.Sender.{Sender}
use Rattle.rules.specs.Record.{Request}
use Rattle.rules.specs.Defaults.{Defaults}
use Rattle.rules.specs.Promises.Results.{Result}
use Rattle.rules.specs.Run.{final}
use Rattle.rules_terminal.specs.Terminal.{Terminal, Transition, sound_terminal, handed_in}
use Rattle.rules_terminal.specs.Inputs.{Input, hand_in, next, takes, records_in, kept_at, count_of}
use Rattle.rules_terminal.specs.CallRun.{Call, left, Built, handed_back, all_shown}
use Rattle.rules_terminal.proofs.Built.{call_left}
use Rattle.rules_terminal.proofs.Shown.{built_shown}
use Rattle.rules_runs.specs.Events.{gathered}
use Rattle.rules_runs.specs.Isolation.{requests_of, all_responses, AsRules, BookPremise, Isolated, answers_to}
use Rattle.rules_runs.specs.Waits.{record_kept, record_taken, Quiet, QuietFor, FreshAfterReset, waits_at_end, round_in, round_at_end, TakenInTurn}
use Rattle.rules_runs.specs.OneByOne.{one_by_one, AllPass}
use Rattle.rules_runs.proofs.Seen.{kept_seen, gathered_is}
use Rattle.rules_runs.proofs.Isolation.{requests_are, isolated_handed, rules_handed}
use Rattle.rules_runs.proofs.Served.{waiting_served, kept_served, none_lost_seen, came_seen}
use Rattle.rules_runs.proofs.Waits.{waits_at_end_lem, round_at_end_lem, fresh_after_reset}
use Rattle.rules_runs.proofs.InTurn.{taken_in_turn}
use Rattle.rules_runs.proofs.OneByOne.{one_by_one_lem}

module _ (d : Defaults) (x : Terminal) (is : List Input) (cs : List Call) (b : Built d x is cs) where
  -- what holds of the answers of the definitions, and of the terminal at the end
  pub of_calls : (P : List Transition → Terminal → Type 0) → P (answers_to d x is) (final (next d) x is) → P (all_shown is cs) (handed_back x cs)
  of_calls P p = let s = built_shown d x is cs b in rw (s.0, s.1) p

  -- demand 3: the book is fed the others' records, byte for byte as they were handed in or waited at the start
  pub handed_isolation : (chosen : Sender → Bool) → BookPremise d chosen x is (all_shown is cs) → Isolated d chosen x is (all_shown is cs) (handed_back x cs)
  handed_isolation chosen =
      of_calls (λ answers end. BookPremise d chosen x is answers → Isolated d chosen x is answers end) (isolated_handed d chosen x is)

  -- all records judged, so fed, are judged as the rules judge them one after the other
  pub built_rules : AsRules d x.tables (requests_of x is (all_shown is cs)) (all_responses is (all_shown is cs)) (handed_back x cs).tables
  built_rules = of_calls (λ answers end. AsRules d x.tables (requests_of x is answers) (all_responses is answers) end.tables) (rules_handed d x is)

  -- a record given out waited at the start or was kept
  pub built_came : (r : List ℕ) → some (same r) (gathered record_taken is (all_shown is cs)) ≡ true
      → some (same r) (records_in x ++ gathered record_kept is (all_shown is cs)) ≡ true
  built_came r =
      of_calls
      (λ answers end. some (same r) (gathered record_taken is answers) ≡ true → some (same r) (records_in x ++ gathered record_kept is answers) ≡ true)
      (came_seen d x is r)

  -- a record that enters RESET, at a take or directly, leaves fresh tables, nothing that waits and the round again
  pub built_resets : FreshAfterReset d is (all_shown is cs)
  built_resets = of_calls (λ answers end. FreshAfterReset d is answers) (fresh_after_reset d x is)

  module _ (h : sound_terminal x ≡ true) where
    -- a waiting record is given out within 25 takes, while it waits and no credential row comes or goes and the tables are not cleared
    pub built_served : (r : List ℕ) → some (same r) (records_in x) ≡ true → QuietFor r x is (all_shown is cs) → 25 ≤ takes is
        → some (same r) (gathered record_taken is (all_shown is cs)) ≡ true
    built_served r =
        of_calls
        (λ answers end. some (same r) (records_in x) ≡ true → QuietFor r x is answers → 25 ≤ takes is → some (same r) (gathered record_taken is answers) ≡ true)
        (λ w q l. waiting_served d x is r h w q l)

    -- none is lost: of the records that pass any test, as many are given out or wait at the end as waited at the start or were kept
    pub built_none_lost : (p : List ℕ → Bool) → Quiet x is (all_shown is cs)
        → count_of p (gathered record_taken is (all_shown is cs)) + count_of p (records_in (handed_back x cs))
        ≡ count_of p (records_in x) + count_of p (gathered record_kept is (all_shown is cs))
    built_none_lost p =
        of_calls
        (λ answers end. Quiet x is answers → count_of p (gathered record_taken is answers) + count_of p (records_in end)
        ≡ count_of p (records_in x) + count_of p (gathered record_kept is answers))
        (none_lost_seen d p x is h)

    -- the records that wait at the end, whatever happened
    pub built_waits : records_in (handed_back x cs) ≡ waits_at_end (records_in x) is (all_shown is cs)
    built_waits = of_calls (λ answers end. records_in end ≡ waits_at_end (records_in x) is answers) (waits_at_end_lem d x is h)

    -- where the round is at the end
    pub built_round : round_in (handed_back x cs) ≡ round_at_end (round_in x) is (all_shown is cs)
    built_round = of_calls (λ answers end. round_in end ≡ round_at_end (round_in x) is answers) (round_at_end_lem d x is h)

    -- each take gives out the record of the first seat in turn for which one waits
    pub built_turns : TakenInTurn x.tables (round_in x) (records_in x) is (all_shown is cs)
    built_turns = of_calls (λ answers end. TakenInTurn x.tables (round_in x) (records_in x) is answers) (taken_in_turn d x is h)

-- a record that was answered with 0 at hand-in is given out within 25 takes after it
pub built_kept_served :
    (d : Defaults) (x : Terminal) (r : List ℕ) (c : Call) (is : List Input) (cs : List Call)
    → Built d x (hand_in r ∷ is) (c ∷ cs)
    → c.judgement.answer ≡ 0
    → QuietFor r (left c) is (all_shown is cs)
    → 25 ≤ takes is
    → some (same r) (gathered record_taken is (all_shown is cs)) ≡ true
built_kept_served d x r c is cs b a q l =
    let e : left c ≡ (handed_in x r).terminal = call_left d x (hand_in r) c b.0 in
    let s = (built_shown d (left c) is cs b.1).0 in
    rw (s, e) (kept_served d x is r (sym (ap (λ (j : Result). j.answer) b.0.says) ∙ a) (rw (s, e) at q) l)

-- records handed in and taken one by one, where nothing else waits: all are kept, and judged in their order as they are
pub built_one_by_one :
    (d : Defaults) (x : Terminal) (qs : List Request) (cs : List Call)
    → Built d x (one_by_one qs) cs
    → sound_terminal x ≡ true
    → records_in x ≡ []
    → AllPass d x.tables qs
    → (gathered record_kept (one_by_one qs) (all_shown (one_by_one qs) cs) ≡ map (λ (q : Request). q.bytes) qs)
    × (requests_of x (one_by_one qs) (all_shown (one_by_one qs) cs) ≡ qs)
built_one_by_one d x qs cs b h none p =
    let all = one_by_one_lem d x qs h none p in
    let is = one_by_one qs in
    rw (built_shown d x is cs b).0 (gathered_is d record_kept (kept_at d) (kept_seen d) x is ∙ all.0, requests_are d x is ∙ all.1)
