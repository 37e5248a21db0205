-- C calls as calls: the words read in their order, the payload at its offset and length, the terminal in the bytes.
-- What the calls of a run show, and the terminal that they leave.
use Rattle.std.specs.Prelude.{drop, get_or, take, List, [], ◌∷◌}
use Rattle.rules.specs.Promises.Results.{Result}
use Rattle.rules.specs.declared.Tables.{Tables}
use Rattle.rules_interface.specs.Calls.{CCall}
use Rattle.rules_interface.specs.Memory.{Memory, Words, terminal_at}
use Rattle.rules_terminal.specs.CallRun.{Call, handed_back, all_shown}
use Rattle.rules_terminal.specs.Terminal.{Terminal, Transition}
use Rattle.rules_terminal.specs.Inputs.{Input, direct, hand_in, take_at}
use Rattle.rules.specs.Types.{Bytes, Offset, Size}

-- the part at this offset, of this length
abbrev pub part_at : Offset → Size → Bytes → Bytes
part_at offset n r = take n (drop offset r)

-- the part that the words name
abbrev pub payload_in : Words → Bytes → Bytes
payload_in words r = part_at (get_or words 2 0) (get_or words 3 0) r

-- the words, read in their order
abbrev pub result_in : Words → Tables → Result
result_in words t = record {
  answer = get_or words 0 0;
  permission = get_or words 1 0;
  payload = get_or words 3 0;
  reply = get_or words 4 0;
  store = record { first = get_or words 5 0; count = get_or words 6 0 };
  links = record { set = get_or words 7 0; size = get_or words 8 0 };
  tables = t;
}

-- the record whose part the payload is; a hand-in has none
abbrev pub record_in : Input → CCall → Bytes
record_in (hand_in r) c = []
record_in (take_at clock capacity) c = take (get_or c.size 0 0) c.bytes
record_in (direct q) c = q.bytes

-- the call
abbrev pub call_of : Input → CCall → Call
call_of i c = record {
  judgement = result_in c.words (terminal_at c.memory).tables;
  queue = c.memory.queue;
  lent = c.lent;
  buffer = c.buffer;
  payload = payload_in c.words (record_in i c);
  size = get_or c.size 0 0;
  bytes = c.bytes;
}

abbrev pub calls_of : List Input → List CCall → List Call
calls_of [] cs = []
calls_of (i ∷ is) [] = []
calls_of (i ∷ is) (c ∷ cs) = call_of i c ∷ calls_of is cs

-- ---- a run

-- what the calls show, an answer for each input
abbrev pub shown_by : List Input → List CCall → List Transition
shown_by is cs = all_shown is (calls_of is cs)

-- the terminal that they leave, from the memory m
abbrev pub left_by : Memory → List Input → List CCall → Terminal
left_by m is cs = handed_back (terminal_at m) (calls_of is cs)
