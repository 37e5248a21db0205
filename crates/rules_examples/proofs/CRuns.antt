-- C calls at the yard: what the theorems over them suppose is there, and each thing that they suppose is needed.
-- The calls are those of `calls_on`, which give just what the C functions promise.
use Rattle.rows.proofs.Prelude.{◌≡◌, refl, false, List, [], ◌∷◌, map, ℕ, replicate}
use Rattle.rules.specs.Record.{received}
use Rattle.rules.specs.Tables.{sound, with_state}
use Rattle.rules.specs.Defaults.{no_defaults}
use Rattle.rules.specs.Outcome.{response_to}
use Rattle.rules.proofs.Samples.{yard}
use Rattle.rules_terminal.specs.Slots.{empty_queue}
use Rattle.rules_terminal.specs.Terminal.{Terminal, terminal}
use Rattle.rules_terminal.specs.Inputs.{Input, hand_in, take_at, direct, records_in}
use Rattle.rules_terminal.specs.CallRun.{Call, response_of, all_shown}
use Rattle.rules_terminal.proofs.Direct.{fresh_whole}
use Rattle.rules_runs.specs.Events.{sent_by, newest_of, gathered}
use Rattle.rules_runs.specs.Waits.{record_taken}
use Rattle.rules_runs.specs.Made.{calls_at}
use Rattle.rules_power.specs.Kept.{nothing_waits}
use Rattle.rules_power.specs.Stretches.{shown_across, requests_across}
use Rattle.rules_interface.specs.Memory.{memory_of}
use Rattle.rules_interface.specs.Calls.{CCall}
use Rattle.rules_interface.specs.CallRun.{calls_of, left_by}
use Rattle.rules_interface.specs.Made.{calls_on}
use Rattle.rules_interface.specs.Direct.{DirectIsolated}
use Rattle.rules_interface.specs.Judged.{answer_told}
use Rattle.rules_interface.proofs.CCalls.{c_direct_isolation}
use Rattle.rules_interface.proofs.CExists.{c_calls_built}
use Rattle.rules_examples.proofs.Isolation.{chosen7, yard_run, yard_premise}
use Rattle.rules_examples.proofs.Waiting.{waiting_definitions, quiet, closed, ask}

-- the answers of C calls that are made one after the other on the memory of a terminal
abbrev pub answers_on : Terminal → List Input → List ℕ
answers_on x is = map answer_told (calls_on no_defaults (memory_of x) is)

-- ---- records judged directly

-- the run of Isolation, through C: the owner is told what the book answers, though the chosen write
abbrev pub yard_calls : List CCall
yard_calls = calls_on no_defaults (memory_of (terminal yard empty_queue)) (map direct yard_run)

pub yard_direct : DirectIsolated no_defaults chosen7 yard yard_run (map response_of (calls_of (map direct yard_run) yard_calls))
    (left_by (memory_of (terminal yard empty_queue)) (map direct yard_run) yard_calls).tables
yard_direct =
    c_direct_isolation no_defaults chosen7 (memory_of (terminal yard empty_queue)) yard_run yard_calls
    (c_calls_built no_defaults (memory_of (terminal yard empty_queue)) (map direct yard_run)) (fresh_whole yard) yard_premise

-- the memory has to be sound where the tables are: beside a count of 26 records the owner gets 1, and from the book 0
unfoldable pub spoilt : Terminal
spoilt = terminal yard (26 ∷ replicate 6503 0)

pub whole_needed : (answers_on spoilt (direct (received 0 (ask 0x22 0) 0) ∷ []) ≡ 1 ∷ []) × ((response_to no_defaults yard (received 0 (ask 0x22 0) 0)).answer ≡ 0)
unfolding waiting_definitions spoilt ask
whole_needed = (refl, refl)

-- tables that are not sound: each record gets 1
unfoldable pub unsound_yard : Terminal
unsound_yard = terminal (with_state yard 9) empty_queue

pub unsound_ones : (sound (with_state yard 9) ≡ false)
    × (answers_on unsound_yard (direct (received 0 (ask 0x22 0) 0) ∷ direct (received 0 (ask 0x32 7) 0) ∷ []) ≡ 1 ∷ 1 ∷ [])
unfolding waiting_definitions unsound_yard ask
unsound_ones = (refl, refl)

-- ---- the same start: in state 2 the same record gets another answer

pub start_needed : (answers_on quiet (direct (received 0 (ask 0x32 7) 0) ∷ []) ≡ 0 ∷ []) × (answers_on closed (direct (received 0 (ask 0x32 7) 0) ∷ []) ≡ 11 ∷ [])
unfolding waiting_definitions quiet closed ask
start_needed = (refl, refl)

-- ---- a take that is not answered with 1 or 27 judges; one that is judges nothing, and gives out 256 zeros

pub takes_answered_lem :
    map {B = ℕ × List ℕ} (λ (c : CCall). (answer_told c, c.size)) (calls_on no_defaults (memory_of quiet) (hand_in (ask 0x32 7) ∷ take_at 0 0 ∷ take_at 0 0 ∷ []))
    ≡ (0, []) ∷ (0, 4 ∷ []) ∷ (27, 0 ∷ []) ∷ []
unfolding waiting_definitions quiet ask
takes_answered_lem = refl

-- ---- restarts, where only the tables are stored

-- 7 hands in, and the program starts again: nothing waits, and 25 takes hand nothing out. So the 25 takes have to be those of one stretch
unfoldable pub before : List Input
before = hand_in (ask 0x32 7) ∷ []

unfoldable pub behind : List Input
behind = replicate 25 (take_at 0 0)

pub restart_drops :
    (records_in (left_by (memory_of quiet) before (calls_on no_defaults (memory_of quiet) before)) ≡ ask 0x32 7 ∷ [])
    × (gathered record_taken behind (all_shown behind (calls_at no_defaults (nothing_waits quiet) behind)) ≡ [])
unfolding waiting_definitions quiet ask before behind
restart_drops = (refl, refl)

-- a record is judged in the stretch in which it was handed in, and in no other
unfoldable pub days : List (List Input)
days = (hand_in (ask 0x32 7) ∷ take_at 10 0 ∷ hand_in (ask 0x32 5) ∷ []) ∷ (take_at 20 0 ∷ hand_in (ask 0x22 0) ∷ take_at 30 0 ∷ []) ∷ []

unfoldable pub day_calls : List (List Call)
day_calls = map (calls_at no_defaults quiet) days

pub restart_requests : requests_across [] days (shown_across days day_calls) ≡ received 10 (ask 0x32 7) 0 ∷ received 30 (ask 0x22 0) 0 ∷ []
unfolding waiting_definitions quiet ask days day_calls sent_by newest_of
restart_requests = refl
