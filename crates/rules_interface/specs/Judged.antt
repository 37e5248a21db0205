-- One C call that judges a record: at once, or at a take that is not answered with 1 or 27.
-- What it is judged as, and what its sender is told in words and bytes.
use Rattle.std.specs.Prelude.{ℕ, ◌≡◌, false, ◌||◌, List, eqb, take, get_or}
use Rattle.rules.specs.declared.Tables.{Tables}
use Rattle.rules.specs.Record.{Request, received}
use Rattle.rules.specs.Defaults.{Defaults}
use Rattle.rules.specs.Outcome.{Response, response_to, tables_after}
use Rattle.rules_terminal.specs.Inputs.{take_at, direct}
use Rattle.rules_interface.specs.Memory.{Memory, terminal_at}
use Rattle.rules_interface.specs.Calls.{CCall, Promised}
use Rattle.rules_interface.specs.CallRun.{payload_in}

-- the tables in the memory
abbrev pub tables_on : Memory → Tables
tables_on m = (terminal_at m).tables

-- the answer that C is told
abbrev pub answer_told : CCall → ℕ
answer_told c = get_or c.words 0 0

-- the record that a take gives out
abbrev pub record_out : CCall → List ℕ
record_out c = take (get_or c.size 0 0) c.bytes

-- the call on the memory m judges this record, at this clock and with a buffer of this length
pub data JudgesOn (d : Defaults) (m : Memory) (c : CCall) : Request → Type 0 where
  at_once : (q : Request) → Promised d m (direct q) c → eqb (answer_told c) 1 ≡ false → JudgesOn d m c q
  at_take : (clock capacity : ℕ) → Promised d m (take_at clock capacity) c → (eqb (answer_told c) 1 || eqb (answer_told c) 27) ≡ false
      → JudgesOn d m c (received clock (record_out c) capacity)

-- the sender of the record r is told the words in their order, the payload as a part of r, and the reply in the buffer
abbrev pub told_on : CCall → List ℕ → Response
told_on c r = record {
  answer = get_or c.words 0 0;
  permission = get_or c.words 1 0;
  payload = payload_in c.words r;
  contents = take (get_or c.words 4 0) c.buffer;
  store = record { first = get_or c.words 5 0; count = get_or c.words 6 0 };
  links = record { set = get_or c.words 7 0; size = get_or c.words 8 0 };
}

-- that is the outcome of the rules on the tables in the memory
pub record OutcomeOn (d : Defaults) (m : Memory) (c : CCall) (q : Request) : Type 0 where
  pub responses_same : told_on c q.bytes ≡ response_to d (tables_on m) q
  pub tables_same : tables_on c.memory ≡ tables_after d (tables_on m) q
