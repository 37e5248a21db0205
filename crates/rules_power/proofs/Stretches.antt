-- Theorems: a day on which only the tables are stored, as stretches of calls with a restart between each two of them.
-- All records judged are judged as the rules judge them one after the other, so demand 3 holds across restarts; and a waiting record is
-- given out within 25 takes, unless a restart comes first.
use Rattle.rows.proofs.Prelude.{◌≡◌, refl, sym, ap, ap₂, subst, ◌∙◌, Bool, true, List, [], ◌∷◌, ◌++◌, map, ℕ, arith, and_left, and_right, contradiction}
use mathlib.Core.List.{map-append}
use Rattle.rules.specs.declared.Tables.{Tables}
use Rattle.rules.specs.declared.Sender.{Sender}
use Rattle.rules.specs.Record.{Request}
use Rattle.rules.specs.Defaults.{Defaults}
use Rattle.rules.specs.Outcome.{Response, response_to, tables_after}
use Rattle.rules.specs.Run.{replies, final}
use Rattle.rules.proofs.Isolated.{isolation}
use Rattle.rules_terminal.specs.Slots.{anew}
use Rattle.rules_terminal.specs.Terminal.{Terminal, sound_terminal}
use Rattle.rules_terminal.specs.Inputs.{Input, hand_in, take_at, direct, records_in}
use Rattle.rules_terminal.specs.CallRun.{Call, left, Built, handed_back, shown, all_shown}
use Rattle.rules_terminal.proofs.SlotLaws.{waiting_back}
use Rattle.rules_terminal.proofs.Sound.{terminal_parts, sound_next, fresh_is}
use Rattle.rules_terminal.proofs.Direct.{fresh_whole}
use Rattle.rules_terminal.proofs.Built.{call_left}
use Rattle.rules_runs.specs.Isolation.{AsRules}
use Rattle.rules_runs.proofs.Calls.{built_rules, built_served}
use Rattle.rules_power.specs.Day as day
use Rattle.rules_power.specs.Day.{Machine, Event, Day, Restarts, Run, found, in_rounds}
use Rattle.rules_power.specs.Kept.{Act, input, clear, nothing_waits, tables_by_calls}
use Rattle.rules_power.specs.Stretches as across
use Rattle.rules_power.specs.Stretches.{BuiltAcross, left_across, shown_across, requests_across, responses_across, PremiseAcross, IsolatedAcross}
use Rattle.rules_power.specs.Stretches.{ServesAlways, ServesAcross, all_inputs, no_clear_in, AsStretches, alone}
use Rattle.rules_power.proofs.PowerCuts.{run_built}

-- ---- all records judged, as the rules judge them

none_waits : (x : Terminal) → records_in (nothing_waits x) ≡ []
none_waits x = rw (← fresh_is, waiting_back anew [] tt (omega arith) tt)

-- records after others
replies_append : (d : Defaults) (t : Tables) (qs rs : List Request)
    → replies (response_to d) (tables_after d) t (qs ++ rs)
    ≡ replies (response_to d) (tables_after d) t qs ++ replies (response_to d) (tables_after d) (final (tables_after d) t qs) rs
replies_append d t [] rs = refl
replies_append d t (q ∷ qs) rs = ap (λ (l : List Response). response_to d t q ∷ l) (replies_append d (tables_after d t q) qs rs)

final_append : (d : Defaults) (t : Tables) (qs rs : List Request) → final (tables_after d) t (qs ++ rs) ≡ final (tables_after d) (final (tables_after d) t qs) rs
final_append d t [] rs = refl
final_append d t (q ∷ qs) rs = final_append d (tables_after d t q) qs rs

rules_joined : (d : Defaults) (t u v : Tables) (qs rs : List Request) (xs ys : List Response) → AsRules d t qs xs u → AsRules d u rs ys v
    → AsRules d t (qs ++ rs) (xs ++ ys) v
rules_joined d t u v qs rs xs ys one two = record {
  responses_same =
      ap₂ (λ (k l : List Response). k ++ l) one.responses_same
      (two.responses_same ∙ ap (λ (w : Tables). replies (response_to d) (tables_after d) w rs) one.tables_same)
      ∙ sym (replies_append d t qs rs);
  tables_same =
      two.tables_same
      ∙ ap (λ (w : Tables). final (tables_after d) w rs) one.tables_same
      ∙ sym (final_append d t qs rs);
}

left_later : (x : Terminal) (cs : List Call) (css : List (List Call))
    → (left_across x (cs ∷ css)).tables ≡ (left_across (nothing_waits (handed_back x cs)) css).tables
left_later x cs [] = refl
left_later x cs (ds ∷ css) = refl

module _ (d : Defaults) where
  pub across_rules : (x : Terminal) (iss : List (List Input)) (css : List (List Call)) → BuiltAcross d x iss css
      → AsRules d x.tables (requests_across (records_in x) iss (shown_across iss css)) (responses_across iss (shown_across iss css)) (left_across x css).tables
  across_rules x [] [] b = record { responses_same = refl; tables_same = refl }
  across_rules x [] (cs ∷ css) b = absurd b
  across_rules x (is ∷ iss) [] b = absurd b
  across_rules x (is ∷ iss) (cs ∷ css) b =
      let y = nothing_waits (handed_back x cs) in
      let rest = rw (none_waits (handed_back x cs)) at (across_rules y iss css b.1) in
      rw (left_later x cs css)
      (rules_joined d x.tables y.tables (left_across y css).tables _ _ _ _ (built_rules d x is cs b.0) rest)

  -- demand 3 across restarts
  pub across_isolation : (x : Terminal) (iss : List (List Input)) (css : List (List Call)) → BuiltAcross d x iss css → (chosen : Sender → Bool)
      → PremiseAcross d chosen x iss (shown_across iss css) → IsolatedAcross d chosen x iss (shown_across iss css) (left_across x css)
  across_isolation x iss css b chosen premise =
      let r = across_rules x iss css b in
      let both = isolation d chosen x.tables (requests_across (records_in x) iss (shown_across iss css)) premise in
      record { responses_same = rw r.responses_same both.0; tables_same = rw r.tables_same both.1 }

  -- ---- within 25 takes

  shown_left : (i : Input) (c : Call) → (shown i c).terminal ≡ left c
  shown_left (hand_in r) c = refl
  shown_left (take_at clock capacity) c = refl
  shown_left (direct q) c = refl

  serves_always : (x : Terminal) (is : List Input) (cs : List Call) → Built d x is cs → sound_terminal x ≡ true → ServesAlways x is (all_shown is cs)
  serves_always x [] [] b h = tt
  serves_always x [] (c ∷ cs) b h = absurd b
  serves_always x (i ∷ is) [] b h = absurd b
  serves_always x (i ∷ is) (c ∷ cs) b h =
      let sound-left : sound_terminal (left c) ≡ true = rw (call_left d x i c b.0) (sound_next d x i h) in
      (built_served d x (i ∷ is) (c ∷ cs) b h, rw (shown_left i c) (serves_always (left c) is cs b.1 sound-left))

  built_sound : (x : Terminal) (is : List Input) (cs : List Call) → Built d x is cs → sound_terminal x ≡ true → sound_terminal (handed_back x cs) ≡ true
  built_sound x [] [] b h = h
  built_sound x [] (c ∷ cs) b h = absurd b
  built_sound x (i ∷ is) [] b h = absurd b
  built_sound x (i ∷ is) (c ∷ cs) b h = built_sound (left c) is cs b.1 (rw (call_left d x i c b.0) (sound_next d x i h))

  pub across_served : (x : Terminal) (iss : List (List Input)) (css : List (List Call)) → BuiltAcross d x iss css → sound_terminal x ≡ true
      → ServesAcross x iss css
  across_served x [] [] b h = tt
  across_served x [] (cs ∷ css) b h = absurd b
  across_served x (is ∷ iss) [] b h = absurd b
  across_served x (is ∷ iss) (cs ∷ css) b h =
      let y = handed_back x cs in
      let sound-y = built_sound x is cs b.0 h in (
        serves_always x is cs b.0 h,
        across_served (nothing_waits y) iss css b.1 (fresh_whole y.tables (terminal_parts y sound-y).tables),
      )

  -- ---- a day as stretches

  abbrev inputs_of : List Act → List Input
  inputs_of [] = []
  inputs_of (input i ∷ acts) = i ∷ inputs_of acts
  inputs_of (clear ∷ acts) = inputs_of acts

  inputs_back : (acts : List Act) → all_inputs acts ≡ true → map input (inputs_of acts) ≡ acts
  inputs_back [] h = refl
  inputs_back (input i ∷ acts) h = ap (λ (l : List Act). input i ∷ l) (inputs_back acts h)
  inputs_back (clear ∷ acts) h = contradiction h refl

  built_joined : (x : Terminal) (is js : List Input) (cs ds : List Call) → Built d x is cs → Built d (handed_back x cs) js ds → Built d x (is ++ js) (cs ++ ds)
  built_joined x [] js [] ds b e = e
  built_joined x [] js (c ∷ cs) ds b e = absurd b
  built_joined x (i ∷ is) js [] ds b e = absurd b
  built_joined x (i ∷ is) js (c ∷ cs) ds b e = (b.0, built_joined (left c) is js cs ds b.1 e)

  handed_joined : (x : Terminal) (cs ds : List Call) → handed_back x (cs ++ ds) ≡ handed_back (handed_back x cs) ds
  handed_joined x [] ds = refl
  handed_joined x (c ∷ cs) ds = handed_joined (left c) cs ds

  left_joined : (x : Terminal) (cs ds : List Call) (css : List (List Call)) → left_across x ((cs ++ ds) ∷ css) ≡ left_across (handed_back x cs) (ds ∷ css)
  left_joined x cs ds [] = handed_joined x cs ds
  left_joined x cs ds (es ∷ css) = ap (λ (y : Terminal). left_across (nothing_waits y) (es ∷ css)) (handed_joined x cs ds)

  -- a round is calls
  round_built : (x y : Terminal) (round : List Act) (cs : List Call) → all_inputs round ≡ true → Run (tables_by_calls d) x round cs y
      → Built d x (inputs_of round) cs × (y ≡ handed_back x cs)
  round_built x y round cs h r = run_built d (tables_by_calls d) (λ x y act c g. g) x y (inputs_of round) cs (rw (inputs_back round h) r)

  pub as_stretches : (x z : Terminal) (es : List (Event (List Act) (List Call))) → Restarts (in_rounds (tables_by_calls d)) x es z → no_clear_in es ≡ true
      → AsStretches d x es z
  as_stretches x z es day.ends h =
      record { inputs = []; calls = []; later = []; later_calls = []; built = (tt, tt); ends = refl; seen = across.none }
  as_stretches x z es (day.answers {y = y} {es = more} round cs g rest) h =
      let all = and_left (all_inputs round) (no_clear_in more) h in
      let b = round_built x y round cs all g in
      let r = as_stretches y z more rest (and_right (all_inputs round) (no_clear_in more) h) in
      let is = inputs_of round in
      let acts : map input (is ++ r.inputs) ≡ round ++ map input r.inputs =
      map-append input is r.inputs ∙ ap (λ (l : List Act). l ++ map input r.inputs) (inputs_back round all) in
      record {
        inputs = is ++ r.inputs;
        calls = cs ++ r.calls;
        later = r.later;
        later_calls = r.later_calls;
        built = (
          built_joined x is r.inputs cs r.calls b.0 (subst (λ (v : Terminal). Built d v r.inputs r.calls) b.1 r.built.0),
          rw (handed_joined x cs r.calls, ← b.1) r.built.1,
        );
        ends = r.ends ∙ ap (λ (v : Terminal). left_across v (r.calls ∷ r.later_calls)) b.1 ∙ sym (left_joined x cs r.calls r.later_calls);
        seen = rw acts (across.answered round cs r.seen);
      }
  as_stretches x z es (day.counts {y = y} {es = more} round cs g rest) h =
      let all = and_left (all_inputs round) (no_clear_in more) h in
      let b = round_built x y round cs all g in
      let r = as_stretches (nothing_waits y) z more rest (and_right (all_inputs round) (no_clear_in more) h) in
      record {
        inputs = inputs_of round;
        calls = cs;
        later = r.inputs ∷ r.later;
        later_calls = r.calls ∷ r.later_calls;
        built = (b.0, rw (← b.1) r.built);
        ends = r.ends ∙ ap (λ (v : Terminal). left_across (nothing_waits v) (r.calls ∷ r.later_calls)) b.1;
        seen = rw (inputs_back round all) (across.counted round cs r.seen);
      }
  as_stretches x z es (day.leaves_out {es = more} round rest) h =
      let r = as_stretches (nothing_waits x) z more rest (and_right (all_inputs round) (no_clear_in more) h) in
      record {
        inputs = [];
        calls = [];
        later = r.inputs ∷ r.later;
        later_calls = r.calls ∷ r.later_calls;
        built = (tt, r.built);
        ends = r.ends;
        seen = across.left_out round r.seen;
      }
  as_stretches x z es (day.idles {es = more} rest) h =
      let r = as_stretches (nothing_waits x) z more rest h in
      record {
        inputs = [];
        calls = [];
        later = r.inputs ∷ r.later;
        later_calls = r.calls ∷ r.later_calls;
        built = (tt, r.built);
        ends = r.ends;
        seen = across.unseen r.seen;
      }

-- ---- inputs that are stored and answered one by one

module _ {State Input Answer : Type 0} (m : Machine State Input Answer) where
  -- a day of them is a day of rounds
  pub day_alone : (x z : State) (s end : List ℕ) (es : List (Event Input Answer)) → Day m x s es z end → Day (in_rounds m) x s (map alone es) z end
  unfolding found
  day_alone x z s end es day.ends = day.ends
  day_alone x z s end es (day.answers {y = y} {t = t} {es = more} i a g w from e rest) =
      day.answers (i ∷ []) (a ∷ []) (day.more i a g day.none) w from e (day_alone y z t end more rest)
  day_alone x z s end es (day.cuts {y = y} {t = t} {es = more} i a g w rest) =
      day.cuts (i ∷ []) (a ∷ []) (day.more i a g day.none) w (day_alone (found m t) z t end more rest)
  day_alone x z s end es (day.idles {es = more} rest) = day.idles (day_alone (found m s) z s end more rest)
