-- Theorems of C calls: demand 3 with the book fed what was handed in, within 25 takes, none lost, the queue, the round, whose turn it is.
-- The C calls are calls (`c_built`), so each theorem is the one over calls (rules_runs/proofs/Calls.antt).
use Rattle.rows.proofs.Prelude.{◌≡◌, Bool, true, List, ◌++◌, ℕ, ◌+◌, ◌≤◌}
use Rattle.rows.specs.Rows.{same, some}
use Rattle.rules.specs.declared.Sender.{Sender}
use Rattle.rules.specs.Defaults.{Defaults}
use Rattle.rules_terminal.specs.Terminal.{sound_terminal}
use Rattle.rules_terminal.specs.Inputs.{Input, takes, records_in, count_of}
use Rattle.rules_runs.specs.Events.{gathered}
use Rattle.rules_runs.specs.Isolation.{requests_of, all_responses, AsRules, BookPremise, Isolated}
use Rattle.rules_runs.specs.Waits.{record_kept, record_taken, Quiet, QuietFor, FreshAfterReset, waits_at_end, round_in, round_at_end, TakenInTurn}
use Rattle.rules_runs.proofs.Calls.{handed_isolation, built_rules, built_came, built_resets, built_served}
use Rattle.rules_runs.proofs.Calls.{built_none_lost, built_waits, built_round, built_turns}
use Rattle.rules_interface.specs.Memory.{Memory, terminal_at}
use Rattle.rules_interface.specs.Calls.{CCall, CBuilt}
use Rattle.rules_interface.specs.CallRun.{calls_of, shown_by, left_by}
use Rattle.rules_interface.proofs.CCalls.{c_built}

module _ (d : Defaults) (m : Memory) (is : List Input) (cs : List CCall) (b : CBuilt d m is cs) where
  -- demand 3: the book is fed the others' records, byte for byte as they were handed in or waited at the start
  pub c_handed_isolation : (chosen : Sender → Bool) → BookPremise d chosen (terminal_at m) is (shown_by is cs)
      → Isolated d chosen (terminal_at m) is (shown_by is cs) (left_by m is cs)
  c_handed_isolation = handed_isolation d (terminal_at m) is (calls_of is cs) (c_built d m is cs b)

  -- all records judged, so fed, are judged as the rules judge them one after the other
  pub c_rules : AsRules d (terminal_at m).tables (requests_of (terminal_at m) is (shown_by is cs)) (all_responses is (shown_by is cs))
      (left_by m is cs).tables
  c_rules = built_rules d (terminal_at m) is (calls_of is cs) (c_built d m is cs b)

  -- a record given out waited at the start or was kept
  pub c_came : (r : List ℕ) → some (same r) (gathered record_taken is (shown_by is cs)) ≡ true
      → some (same r) (records_in (terminal_at m) ++ gathered record_kept is (shown_by is cs)) ≡ true
  c_came = built_came d (terminal_at m) is (calls_of is cs) (c_built d m is cs b)

  -- RESET, at a take or directly, leaves the fresh terminal
  pub c_resets : FreshAfterReset d is (shown_by is cs)
  c_resets = built_resets d (terminal_at m) is (calls_of is cs) (c_built d m is cs b)

  module _ (h : sound_terminal (terminal_at m) ≡ true) where
    -- a waiting record is given out within 25 takes, while it waits and no credential row comes or goes and the tables are not cleared
    pub c_served : (r : List ℕ) → some (same r) (records_in (terminal_at m)) ≡ true → QuietFor r (terminal_at m) is (shown_by is cs) → 25 ≤ takes is
        → some (same r) (gathered record_taken is (shown_by is cs)) ≡ true
    c_served = built_served d (terminal_at m) is (calls_of is cs) (c_built d m is cs b) h

    -- none is lost: as many are given out or wait at the end as waited at the start or were kept
    pub c_none_lost : (p : List ℕ → Bool) → Quiet (terminal_at m) is (shown_by is cs)
        → count_of p (gathered record_taken is (shown_by is cs)) + count_of p (records_in (left_by m is cs))
        ≡ count_of p (records_in (terminal_at m)) + count_of p (gathered record_kept is (shown_by is cs))
    c_none_lost = built_none_lost d (terminal_at m) is (calls_of is cs) (c_built d m is cs b) h

    -- the records that wait at the end
    pub c_waits : records_in (left_by m is cs) ≡ waits_at_end (records_in (terminal_at m)) is (shown_by is cs)
    c_waits = built_waits d (terminal_at m) is (calls_of is cs) (c_built d m is cs b) h

    -- where the round is at the end
    pub c_round : round_in (left_by m is cs) ≡ round_at_end (round_in (terminal_at m)) is (shown_by is cs)
    c_round = built_round d (terminal_at m) is (calls_of is cs) (c_built d m is cs b) h

    -- each take gives out the record of the first seat in turn for which one waits
    pub c_turns : TakenInTurn (terminal_at m).tables (round_in (terminal_at m)) (records_in (terminal_at m)) is (shown_by is cs)
    c_turns = built_turns d (terminal_at m) is (calls_of is cs) (c_built d m is cs b) h
