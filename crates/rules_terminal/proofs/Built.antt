-- Theorem, demand 3 whole: the built code on one side, the book of the rules on the other.
-- The built code is any calls that meet the contracts of `hand_in`, `take` and `judge` (HandsIn,
-- Takes and Judges, which these contracts cite), and of `payload` after the last two,
-- each on the tables and the memory returned last.
use Rattle.rows.proofs.Prelude.{◌≡◌, refl, sym, ap, ap₂, ◌∙◌, Bool, true, false, ◌||◌, List, [], ◌∷◌, map, ℕ, ◌-◌, length, take, drop, replicate}
use Rattle.rows.proofs.Prelude.{take_at as first_part, eqb, eqb-true, not-false, or-false, bool_cases, contradiction, or_left, or_not_left}
use Rattle.rules.specs.declared.Check.TheVariants.{Refuse}
use Rattle.rules.specs.declared.Sender.{Sender}
use Rattle.rules.specs.Record.{Request, received}
use Rattle.rules.specs.Defaults.{Defaults}
use Rattle.rules.specs.Reading.{filled}
use Rattle.rules.specs.Checks.{verdict}
use Rattle.rules.specs.Outcome.{Response, response_to, tables_after}
use Rattle.rules.specs.Promises.Results.{Result, payload_part}
use Rattle.rules.specs.Run.{replies, final, Along, kept, kept_of}
use Rattle.rules.specs.Isolation.{Premise, is_others, compared}
use Rattle.rules.proofs.Answers.{passed}
use Rattle.rules.proofs.Refusals.{payload_is}
use Rattle.rules.proofs.Isolated.{isolation}
use Rattle.rules_terminal.specs.Slots.{padded}
use Rattle.rules_terminal.specs.Terminal.{Terminal, terminal, Transition, sound_terminal, take_checks, due, taken, direct_checks, judged, transition_result, HandedOut}
use Rattle.rules_terminal.specs.Calls.{Leaves}
use Rattle.rules_terminal.specs.Inputs.{Input, hand_in, take_at, direct, next, judged_at, all_judged, others_turn}
use Rattle.rules.proofs.CheckLaws.{check_cases}
use Rattle.rules_terminal.specs.CallRun.{Built, Call, Lends, Meets, call_turns, handed_back, left, record_given, response_of, turn_of}
use Rattle.rules_terminal.specs.Isolation.{Premises, AsTheBook}
use Rattle.rules_terminal.specs.Direct.{Whole}
use Rattle.rules_terminal.proofs.Sound.{terminal_parts, take_passed}
use Rattle.rules_terminal.proofs.Refused.{refused_among, no_such}
use Rattle.rules_terminal.proofs.Isolated.{isolated}
use Rattle.rules_terminal.proofs.Direct.{direct_replies, direct_end, directs_same}

-- ---- each call

pub padded_back : (r : List ℕ) → take (length r) (padded r) ≡ r
unfolding padded
padded_back r = first_part r (replicate (256 - length r) 0) (length r) refl

-- a call tells what the answer says, where its payload is the record's
pub told_is : (a : Transition) (capacity : ℕ) (r : List ℕ) (c : Call) → c.judgement ≡ transition_result a → Leaves a c.lent c.queue c.buffer → Lends capacity r c
    → payload_part (length a.response.payload) r ≡ a.response.payload → response_of c ≡ a.response
unfolding filled
told_is a capacity r c j f l p =
    let reply = a.response.contents in rw (l.passes, f.fills, j, p, first_part reply (drop (length reply) c.lent) (length reply) refl)

-- the number of a refusal: at a take, and directly
pub refused_number : (x : Terminal) (n : ℕ) → verdict (take_checks x) ≡ Refuse n → (eqb n 1 || eqb n 27) ≡ true
refused_number x n e =
    bool_cases (eqb 1 n)
    (λ g. rw (sym (eqb-true 1 n g)))
    (λ g. rw (sym (eqb-true 27 n (sym (or-false (eqb 27 n)) ∙ or_not_left (eqb 1 n) _ (refused_among (take_checks x) n e) g))))

pub direct_number : (x : Terminal) (n : ℕ) → verdict (direct_checks x) ≡ Refuse n → eqb n 1 ≡ true
direct_number x n e =
    let f = refused_among (direct_checks x) n e in
    bool_cases (eqb 1 n) (λ g. rw (sym (eqb-true 1 n g))) (λ g. contradiction (or_not_left (eqb 1 n) _ f g) refl)

module _ (d : Defaults) (x : Terminal) where
  -- neither is the number of a record judged on a sound terminal
  pub judged_number : (q : Request) → sound_terminal x ≡ true → (eqb (response_to d x.tables q).answer 1 || eqb (response_to d x.tables q).answer 27) ≡ false
  judged_number q h =
      let n = (response_to d x.tables q).answer in
      bool_cases (eqb n 1 || eqb n 27) (λ e. absurd (no_such d x.tables q n (terminal_parts x h).tables e refl)) (λ e. e)

  -- a take shows the record that it gives out, and what is reported of it
  pub take_told : (clock capacity : ℕ) (c : Call) → Meets d x (take_at clock capacity) c
      → (record_given c ≡ (taken d x clock capacity).bytes) × (response_of c ≡ (taken d x clock capacity).response)
  unfolding taken
  take_told clock capacity c m =
      let q = received clock (due x) capacity in
      let a = taken d x clock capacity in
      let r : record_given c ≡ a.bytes = ap (λ (t : HandedOut). take t.size t.bytes) m.0.hands ∙ padded_back a.bytes in (
        r,
        told_is a capacity (record_given c) c (ap (λ (t : HandedOut). t.judgement) m.0.hands) m.0.leaves m.1
            (rw r (check_cases (verdict (take_checks x)) (λ e. rw e (payload_is d x.tables q)) (λ n e. rw e))),
      )

  pub direct_told : (q : Request) (c : Call) → Meets d x (direct q) c → response_of c ≡ (judged d x q).response
  unfolding judged
  direct_told q c m =
      told_is (judged d x q) q.capacity q.bytes c m.0.says m.0.leaves m.1
      (check_cases (verdict (direct_checks x)) (λ e. rw e (payload_is d x.tables q)) (λ n e. rw e))

  pub call_turn : (i : Input) (c : Call) → Meets d x i c → turn_of i c ≡ judged_at d x i
  unfolding taken judged
  call_turn (hand_in r) c m = refl
  call_turn (take_at clock capacity) c m =
      let s = take_told clock capacity c m in
      rw (s.0, s.1, ap (λ (y : Response). y.answer) s.1)
      (check_cases (verdict (take_checks x)) (λ e. rw (e, judged_number _ (take_passed x e).0)) (λ n e. rw (e, refused_number x n e)))
  call_turn (direct q) c m =
      let s = direct_told q c m in
      rw (s, ap (λ (y : Response). y.answer) s)
      (check_cases (verdict (direct_checks x))
      (λ e. rw (e, or_left (eqb (response_to d x.tables q).answer 1) _ (judged_number q (not-false _ (passed (direct_checks x) e 1)))))
      (λ n e. rw (e, direct_number x n e)))

  pub call_left : (i : Input) (c : Call) → Meets d x i c → left c ≡ next d x i
  call_left (hand_in r) c m = ap₂ (λ (j : Result) (b : List ℕ). terminal j.tables b) m.says m.keeps
  call_left (take_at clock capacity) c m = ap₂ (λ (t : HandedOut) (b : List ℕ). terminal t.judgement.tables b) m.0.hands m.0.leaves.keeps
  call_left (direct q) c m = ap₂ (λ (j : Result) (b : List ℕ). terminal j.tables b) m.0.says m.0.leaves.keeps

-- ---- the run

-- the calls show the records judged, and return the terminal
pub built_same : (d : Defaults) (x : Terminal) (is : List Input) (cs : List Call) → Built d x is cs
    → (call_turns is cs ≡ all_judged d x is) × (handed_back x cs ≡ final (next d) x is)
built_same d x [] [] b = (refl, refl)
built_same d x [] (c ∷ cs) b = absurd b
built_same d x (i ∷ is) [] b = absurd b
built_same d x (i ∷ is) (c ∷ cs) b =
    let l = call_left d x i c b.0 in
    let more = built_same d (left c) is cs b.1 in
    (rw (call_turn d x i c b.0, more.0, l), rw (more.1, l))

-- demand 3: what the others' records get that the calls show as judged, and the tables returned last
pub built_isolation :
    (d : Defaults) (chosen : Sender → Bool) (x : Terminal) (is : List Input) (cs : List Call)
    → Built d x is cs
    → Premises d chosen x (kept (others_turn chosen) (call_turns is cs))
    → AsTheBook d chosen x (kept (others_turn chosen) (call_turns is cs)) (handed_back x cs).tables
built_isolation d chosen x is cs built =
    let same = built_same d x is cs built in
    rw (same.0, same.1) (isolated d chosen x is)

-- ---- lists of records only judged directly: each of the others' gets what the book answers, 1 included

directs_built : (d : Defaults) (x : Terminal) (qs : List Request) (cs : List Call) → Built d x (map direct qs) cs
    → (map response_of cs ≡ direct_replies d x qs) × (handed_back x cs ≡ direct_end d x qs)
directs_built d x [] [] b = (refl, refl)
directs_built d x [] (c ∷ cs) b = absurd b
directs_built d x (q ∷ qs) [] b = absurd b
directs_built d x (q ∷ qs) (c ∷ cs) b =
    let l = call_left d x (direct q) c b.0 in
    let more = directs_built d (left c) qs cs b.1 in
    (rw (direct_told d x q c b.0, more.0, l), rw (more.1, l))

-- so are the tables returned, with memory that is sound where the tables are
pub directs_told : (d : Defaults) (x : Terminal) (qs : List Request) (cs : List Call) → Built d x (map direct qs) cs → Whole x
    → (map response_of cs ≡ replies (response_to d) (tables_after d) x.tables qs) × ((handed_back x cs).tables ≡ final (tables_after d) x.tables qs)
directs_told d x qs cs built whole =
    let calls = directs_built d x qs cs built in rw (calls.0, calls.1) (directs_same d x qs whole)

pub direct_isolation :
    (d : Defaults) (chosen : Sender → Bool) (x : Terminal) (qs : List Request) (cs : List Call)
    → Built d x (map direct qs) cs
    → Whole x
    → Along (tables_after d) (Premise chosen) x.tables (kept (is_others chosen) qs)
    → (kept_of (is_others chosen) qs (map response_of cs) ≡ replies (response_to d) (tables_after d) x.tables (kept (is_others chosen) qs))
    × (compared chosen (handed_back x cs).tables ≡ compared chosen (final (tables_after d) x.tables (kept (is_others chosen) qs)))
direct_isolation d chosen x qs cs built whole premise =
    let same = directs_told d x qs cs built whole in rw (same.0, same.1) (isolation d chosen x.tables qs premise)
