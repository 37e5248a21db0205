-- A run of calls: what each call gave, and which calls a run is made of. The theorems over any calls suppose `Built` and nothing else:
-- each call meets the contract of `hand_in`, `take` or `judge`, and of `payload` after the last two, on what was returned last.
use Rattle.std.specs.Prelude.{ℕ, eqb, length, take, ◌||◌, cond, List, [], ◌++◌, ◌∷◌, ◌≡◌}
use Rattle.rules.specs.Defaults.{Defaults}
use Rattle.rules.specs.Outcome.{Response}
use Rattle.rules.specs.Promises.Results.{Result, payload_part}
use Rattle.rules.specs.Record.{received}
use Rattle.rules_terminal.specs.Calls.{HandsIn, Judges, Takes}
use Rattle.rules_terminal.specs.Inputs.{Input, Turn, direct, hand_in, take_at}
use Rattle.rules_terminal.specs.Terminal.{Terminal, terminal, Transition}

-- ---- what the calls of a run gave

-- a call's judgement and the memory that it left; of a take and of a record judged directly also the buffer as it was passed in and as it was left,
-- and the payload; of a take also the record
pub record Call : Type 0 where
  pub judgement : Result
  pub queue : List ℕ
  pub lent : List ℕ
  pub buffer : List ℕ
  pub payload : List ℕ
  pub size : ℕ
  pub bytes : List ℕ

-- what the sender gets
abbrev pub response_of : Call → Response
response_of c = record {
  answer = c.judgement.answer;
  permission = c.judgement.permission;
  payload = c.payload;
  contents = take c.judgement.reply c.buffer;
  store = c.judgement.store;
  links = c.judgement.links;
}

-- the record that a take gave out
abbrev pub record_given : Call → List ℕ
record_given c = take c.size c.bytes

-- a buffer of the length that was passed in, and the payload as the part of the record r that the call's judgement names
pub record Lends (capacity : ℕ) (r : List ℕ) (c : Call) : Type 0 where
  pub sized : length c.lent ≡ capacity
  pub passes : c.payload ≡ payload_part c.judgement.payload r

-- what a call meets, on the terminal x, for the input
abbrev pub Meets : Defaults → Terminal → Input → Call → Type 0
Meets d x (hand_in r) c = HandsIn x r c.judgement c.queue
Meets d x (take_at clock capacity) c =
    Takes d x clock capacity (record { judgement = c.judgement; size = c.size; bytes = c.bytes }) c.lent c.queue c.buffer
    × Lends capacity (record_given c) c
Meets d x (direct q) c = Judges d x q c.judgement c.lent c.queue c.buffer × Lends q.capacity q.bytes c

-- the terminal that a call returns
abbrev pub left : Call → Terminal
left c = terminal c.judgement.tables c.queue

-- the first call on the terminal x, and each later one on what was returned last
abbrev pub Built : Defaults → Terminal → List Input → List Call → Type 0
Built d x [] [] = Unit {0}
Built d x [] (c ∷ cs) = ⊥
Built d x (i ∷ is) [] = ⊥
Built d x (i ∷ is) (c ∷ cs) = Meets d x i c × Built d (left c) is cs

-- what was returned last
abbrev pub handed_back : Terminal → List Call → Terminal
handed_back x [] = x
handed_back x (c ∷ cs) = handed_back (left c) cs

-- ---- the records judged, as the calls show them: a take answered with 1 or 27 has none, nor has a record judged directly that gets 1

abbrev pub turn_of : Input → Call → List Turn
turn_of (hand_in r) c = []
turn_of (take_at clock capacity) c =
    cond (eqb c.judgement.answer 1 || eqb c.judgement.answer 27) [] (record { request = received clock (record_given c) capacity; response = response_of c } ∷ [])
turn_of (direct q) c = cond (eqb c.judgement.answer 1) [] (record { request = q; response = response_of c } ∷ [])

abbrev pub call_turns : List Input → List Call → List Turn
call_turns [] cs = []
call_turns (i ∷ is) [] = []
call_turns (i ∷ is) (c ∷ cs) = turn_of i c ++ call_turns is cs

-- ---- the answers

-- what a call shows; of a hand-in that is the judgement, since it passes no buffer and judges no record
abbrev pub shown : Input → Call → Transition
shown (hand_in r) c =
    let j = c.judgement in
    record {
      bytes = [];
      response = record { answer = j.answer; permission = j.permission; payload = []; contents = []; store = j.store; links = j.links };
      terminal = left c;
    }
shown (take_at clock capacity) c = record { bytes = record_given c; response = response_of c; terminal = left c }
shown (direct q) c = record { bytes = []; response = response_of c; terminal = left c }

abbrev pub all_shown : List Input → List Call → List Transition
all_shown [] cs = []
all_shown (i ∷ is) [] = []
all_shown (i ∷ is) (c ∷ cs) = shown i c ∷ all_shown is cs
