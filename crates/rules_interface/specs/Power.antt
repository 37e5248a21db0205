-- A day with power cuts, of C calls: each is on the bytes that the one before left or, after a cut, on those that the store held.
use Rattle.std.specs.Prelude.{ℕ, ◌≤◌, ◌≡◌, Bool, true, List, [], ◌∷◌, map, get_or}
use Rattle.rows.specs.Rows.{same, some}
use Rattle.rules.specs.declared.Sender.{Sender}
use Rattle.rules.specs.Defaults.{Defaults}
use Rattle.rules_interface.specs.CallRun.{call_of, result_in}
use Rattle.rules_interface.specs.Calls.{CCall, PromisedBy}
use Rattle.rules_interface.specs.Memory.{Memory, terminal_at}
use Rattle.rules_power.specs.Day.{Event, event_of}
use Rattle.rules_power.specs.Kept.{Act, clear, input, takes_answered, AsCalls}
use Rattle.rules_power.specs.Stretches.{AsStretches, shown_across, PremiseAcross, IsolatedAcross, ServesAcross}
use Rattle.rules_runs.specs.Events.{gathered}
use Rattle.rules_runs.specs.Isolation.{BookPremise, Isolated}
use Rattle.rules_runs.specs.Waits.{record_taken, QuietFor}
use Rattle.rules_terminal.specs.CallRun.{Call, all_shown}
use Rattle.rules_terminal.specs.Inputs.{records_in}
use Rattle.rules_terminal.specs.Terminal.{Terminal, sound_terminal}

-- a C call on memory that is read as the one terminal, which leaves memory that is read as the other
pub data CGives (d : Defaults) : Terminal → Act → CCall → Terminal → Type 0 where
  gives : (m : Memory) (act : Act) (c : CCall) → PromisedBy d m act c → CGives d (terminal_at m) act c (terminal_at c.memory)

-- a C call as a call. Of tillerclover_clear_at and tillerclover_fresh_at only the memory counts
abbrev pub call_at : Act → CCall → Call
call_at (input i) c = call_of i c
call_at clear c = record {
  judgement = result_in c.words (terminal_at c.memory).tables;
  queue = c.memory.queue;
  lent = c.lent;
  buffer = c.buffer;
  payload = [];
  size = get_or c.size 0 0;
  bytes = c.bytes;
}

-- a day of C calls as a day of calls
abbrev pub seen : List (Event Act CCall) → List (Event Act Call)
seen = map (event_of call_at)

-- several C calls are made, and then stored and answered: a round
abbrev pub calls_at : List Act → List CCall → List Call
calls_at [] cs = []
calls_at (act ∷ acts) [] = []
calls_at (act ∷ acts) (c ∷ cs) = call_at act c ∷ calls_at acts cs

abbrev pub seen_rounds : List (Event (List Act) (List CCall)) → List (Event (List Act) (List Call))
seen_rounds = map (event_of calls_at)

-- ---- what holds of a day on which the clear button is not pressed

-- the queue is stored with the tables: the day is a run of calls, of which demand 3 and 'within 25 takes that are answered' hold
pub record CDay (d : Defaults) (x : Terminal) (es : List (Event Act CCall)) (z : Terminal) : Type 0 where
  pub run : AsCalls d x (seen es) z
  pub isolated : (chosen : Sender → Bool) → BookPremise d chosen x run.inputs (all_shown run.inputs run.calls)
      → Isolated d chosen x run.inputs (all_shown run.inputs run.calls) z
  pub served : sound_terminal x ≡ true → (r : List ℕ) → some (same r) (records_in x) ≡ true
      → QuietFor r x run.inputs (all_shown run.inputs run.calls) → 25 ≤ takes_answered (seen es)
      → some (same r) (gathered record_taken run.inputs (all_shown run.inputs run.calls)) ≡ true

-- only the tables are stored, in rounds: the day is stretches of calls with restarts between them. Demand 3 holds across the restarts, and in
-- each stretch a waiting record is given out within 25 takes
pub record CTablesDay (d : Defaults) (x : Terminal) (es : List (Event (List Act) (List CCall))) (z : Terminal) : Type 0 where
  pub run : AsStretches d x (seen_rounds es) z
  pub isolated : (chosen : Sender → Bool)
      → PremiseAcross d chosen x (run.inputs ∷ run.later) (shown_across (run.inputs ∷ run.later) (run.calls ∷ run.later_calls))
      → IsolatedAcross d chosen x (run.inputs ∷ run.later) (shown_across (run.inputs ∷ run.later) (run.calls ∷ run.later_calls)) z
  pub served : sound_terminal x ≡ true → ServesAcross x (run.inputs ∷ run.later) (run.calls ∷ run.later_calls)
