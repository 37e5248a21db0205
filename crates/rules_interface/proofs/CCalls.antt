-- Theorem, demand 3 of C calls: what the C functions promise (`Promised`, specs/Calls.antt), with the payload read at its offset and length,
-- are calls as `built_isolation` takes them (rules_terminal/proofs/Built.antt), each on the bytes that the one before left.
use Rattle.rows.proofs.Prelude.{◌≡◌, ap, ◌∙◌, Bool, false, List, [], ◌∷◌, map, ℕ, length, get_or, contradiction}
use Rattle.rules.specs.declared.Tables.{Tables}
use Rattle.rules.specs.declared.Sender.{Sender}
use Rattle.rules.specs.Defaults.{Defaults}
use Rattle.rules.specs.Checks.{verdict}
use Rattle.rules.specs.Record.{Request}
use Rattle.rules.specs.Tables.{sound}
use Rattle.rules.specs.Outcome.{Outcome, tables_after}
use Rattle.rules.specs.Promises.Results.{payload_part}
use Rattle.rules.specs.Run.{Along, kept}
use Rattle.rules.specs.Isolation.{Premise, is_others}
use Rattle.rules.proofs.CheckLaws.{check_cases}
use Rattle.rules.proofs.Refusals.{unsound_refused}
use Rattle.rules_terminal.specs.Slots.{padded}
use Rattle.rules_terminal.specs.Terminal.{Terminal, Transition, hand_in_checks, handed_in, taken, judged, transition_result, handed_out}
use Rattle.rules_terminal.specs.Inputs.{Input, hand_in, take_at, direct, others_turn}
use Rattle.rules_terminal.specs.CallRun.{response_of, Meets, Built, handed_back, call_turns}
use Rattle.rules_terminal.specs.Isolation.{Premises, AsTheBook}
use Rattle.rules_terminal.specs.Direct.{Whole}
use Rattle.rules_terminal.proofs.Built.{built_isolation, direct_isolation}
use Rattle.rules_interface.specs.Memory.{Memory, terminal_at, memory_of}
use Rattle.rules_interface.specs.Interface.{words_of}
use Rattle.rules_interface.specs.Calls.{CCall, Promised, CBuilt}
use Rattle.rules_interface.specs.CallRun.{payload_in, call_of, calls_of, result_in, left_by}
use Rattle.rules_interface.specs.Direct.{DirectIsolated}
use Rattle.rules_interface.proofs.Payload.{part_found}

-- ---- a C call as a call

-- ---- each call meets what demand 3 asks for

-- what is reported, in words, with the tables that are left
result_back : (a : Transition) (words : List ℕ) (t : Tables) → words ≡ words_of a → t ≡ a.terminal.tables → result_in words t ≡ transition_result a
result_back a words t w e = rw (w, e)

-- the bytes of a terminal, read, are the terminal
tables_left : (x : Terminal) (m : Memory) → m ≡ memory_of x → terminal_at m ≡ x
tables_left x m e = ap terminal_at e

-- of a take with the record
handed_back_lem : (a : Transition) (words size bytes : List ℕ) (t : Tables) → words ≡ words_of a → size ≡ length a.bytes ∷ [] → bytes ≡ padded a.bytes
    → t ≡ a.terminal.tables → record { judgement = result_in words t; size = get_or size 0 0; bytes = bytes } ≡ handed_out a
handed_back_lem a words size bytes t w n b e = rw (w, n, b, e)

-- a hand-in leaves the tables
hand_in_tables : (x : Terminal) (r : List ℕ) → x.tables ≡ (handed_in x r).terminal.tables
unfolding handed_in
hand_in_tables x r = check_cases (verdict (hand_in_checks x r)) (λ e. rw e) (λ n e. rw e)

passes : (a : Transition) (words r : List ℕ) → words ≡ words_of a → payload_in words r ≡ payload_part (get_or words 3 0) r
passes a words r w = rw w (part_found (transition_result a).payload r)

module _ (d : Defaults) (m : Memory) where
  pub c_meets : (i : Input) (c : CCall) → Promised d m i c → Meets d (terminal_at m) i (call_of i c)
  c_meets (hand_in r) c p =
      let x = terminal_at m in
      record {
        says = result_back (handed_in x r) c.words _ p.0.says (ap (λ (n : Memory). (terminal_at n).tables) p.1 ∙ hand_in_tables x r);
        keeps = p.0.keeps;
      }
  c_meets (take_at clock capacity) c p =
      let a = taken d (terminal_at m) clock capacity in
      let x = tables_left a.terminal c.memory p.0.keeps in (
        record {
          hands = handed_back_lem a c.words c.size c.bytes _ p.0.says p.0.sized p.0.hands (ap (λ (y : Terminal). y.tables) x);
          leaves = record { keeps = ap (λ (y : Terminal). y.queue) x; fills = p.0.fills };
        },
        record { sized = p.1; passes = passes a c.words _ p.0.says },
      )
  c_meets (direct q) c p =
      let a = judged d (terminal_at m) q in
      let x = tables_left a.terminal c.memory p.0.keeps in (
        record {
          says = result_back a c.words _ p.0.says (ap (λ (y : Terminal). y.tables) x);
          leaves = record { keeps = ap (λ (y : Terminal). y.queue) x; fills = p.0.fills };
        },
        record { sized = p.1; passes = passes a c.words _ p.0.says },
      )

-- ---- the run

pub c_built : (d : Defaults) (m : Memory) (is : List Input) (cs : List CCall) → CBuilt d m is cs → Built d (terminal_at m) is (calls_of is cs)
c_built d m [] [] b = b
c_built d m [] (c ∷ cs) b = absurd b
c_built d m (i ∷ is) [] b = absurd b
c_built d m (i ∷ is) (c ∷ cs) b = (c_meets d m i c b.0, c_built d c.memory is cs b.1)

-- demand 3: what the others' records are told that the C calls show as judged, and the tables left last
pub c_isolation :
    (d : Defaults) (chosen : Sender → Bool) (m : Memory) (is : List Input) (cs : List CCall)
    → CBuilt d m is cs
    → Premises d chosen (terminal_at m) (kept (others_turn chosen) (call_turns is (calls_of is cs)))
    → AsTheBook d chosen (terminal_at m) (kept (others_turn chosen) (call_turns is (calls_of is cs))) (handed_back (terminal_at m) (calls_of is cs)).tables
c_isolation d chosen m is cs b = built_isolation d chosen (terminal_at m) is (calls_of is cs) (c_built d m is cs b)

-- ---- records judged directly alone

-- demand 3 over a list of them: each of the others' is told what the book answers
pub c_direct_isolation :
    (d : Defaults) (chosen : Sender → Bool) (m : Memory) (qs : List Request) (cs : List CCall)
    → CBuilt d m (map direct qs) cs
    → Whole (terminal_at m)
    → Along (tables_after d) (Premise chosen) (terminal_at m).tables (kept (is_others chosen) qs)
    → DirectIsolated d chosen (terminal_at m).tables qs (map response_of (calls_of (map direct qs) cs)) (left_by m (map direct qs) cs).tables
c_direct_isolation d chosen m qs cs b whole premise =
    let both = direct_isolation d chosen (terminal_at m) qs (calls_of (map direct qs) cs) (c_built d m (map direct qs) cs b) whole premise in
    record { responses_same = both.0; tables_same = both.1 }

-- tables that are not sound stay as they are
unsound_along : (d : Defaults) (chosen : Sender → Bool) (t : Tables) (qs : List Request) → sound t ≡ false → Along (tables_after d) (Premise chosen) t qs
unsound_along d chosen t [] e = λ h. contradiction h e
unsound_along d chosen t (q ∷ qs) e =
    let stays : tables_after d t q ≡ t = ap (λ (o : Outcome). o.tables) (unsound_refused d t q e) in
    (λ h. contradiction h e, rw stays (unsound_along d chosen t qs e))

-- tables that are not sound need no premise: each record gets 1, from the terminal and from the book
pub c_direct_unsound :
    (d : Defaults) (chosen : Sender → Bool) (m : Memory) (qs : List Request) (cs : List CCall)
    → CBuilt d m (map direct qs) cs
    → sound (terminal_at m).tables ≡ false
    → DirectIsolated d chosen (terminal_at m).tables qs (map response_of (calls_of (map direct qs) cs)) (left_by m (map direct qs) cs).tables
c_direct_unsound d chosen m qs cs b e =
    c_direct_isolation d chosen m qs cs b (λ h. contradiction h e) (unsound_along d chosen (terminal_at m).tables (kept (is_others chosen) qs) e)
