-- Theorems over the definitions: demand 3 as U13 words it, and that all records judged in a run are judged as the rules judge them one by one.
-- In both the bytes of the records are those of the hand-ins and of the queue at the start.
use Rattle.rows.proofs.Prelude.{◌≡◌, refl, sym, ap, ap₂, ◌∙◌, Bool, List, [], ◌∷◌, map, bool_cases}
use mathlib.Core.List.{map-append}
use Rattle.rules.specs.declared.Tables.{Tables}
use Rattle.rules.specs.declared.Check.TheVariants.{Pass}
use Rattle.rules.specs.declared.Sender.{Sender}
use Rattle.rules.specs.Record.{Request, received}
use Rattle.rules.specs.Defaults.{Defaults}
use Rattle.rules.specs.Checks.{verdict}
use Rattle.rules.specs.Outcome.{Response, response_to, tables_after}
use Rattle.rules.specs.Run.{final, kept, kept_of}
use Rattle.rules.specs.Isolation.{is_others}
use Rattle.rules.proofs.CheckLaws.{check_cases}
use Rattle.rules_terminal.specs.Terminal.{Terminal, terminal, hand_in_checks, with_record, handed_in, take_checks, due, take_of, taken, direct_checks}
use Rattle.rules_terminal.specs.Terminal.{direct_of, judged}
use Rattle.rules_terminal.specs.Inputs.{Input, hand_in, take_at, direct, next, Turn, judged_at, all_judged, request_of, turn_response}
use Rattle.rules_terminal.specs.Inputs.{others_turn, records_in}
use Rattle.rules_terminal.proofs.Lockstep.{collected_through}
use Rattle.rules_terminal.proofs.Isolated.{isolated}
use Rattle.rules_runs.specs.Events.{requests, event_of, responses_of, event_at}
use Rattle.rules_runs.specs.Isolation.{requests_of, all_responses, AsRules, others_of, BookPremise, Isolated, answers_to}
use Rattle.rules_runs.proofs.Judged.{judged_handed}
use Rattle.rules_runs.proofs.Seen.{event_seen, answered_seen, gathered_is}

module _ (d : Defaults) (x : Terminal) (is : List Input) where
  -- the records judged are those of the hand-ins
  pub requests_are : requests_of x is (answers_to d x is) ≡ map request_of (all_judged d x is)
  requests_are = ap (requests (records_in x)) (gathered_is d event_of event_at (event_seen d) x is) ∙ judged_handed d x is

  pub told_are : all_responses is (answers_to d x is) ≡ map turn_response (all_judged d x is)
  told_are =
      gathered_is d responses_of (λ x i. map turn_response (judged_at d x i)) (answered_seen d) x is
      ∙ collected_through (next d) (judged_at d) (map turn_response) refl (map-append turn_response) x is

-- ---- demand 3

-- of the records judged, those of the others
module _ (chosen : Sender → Bool) where
  others_requests : (us : List Turn) → map request_of (kept (others_turn chosen) us) ≡ kept (is_others chosen) (map request_of us)
  others_requests [] = refl
  others_requests (u ∷ us) = bool_cases (is_others chosen u.request) (λ e. rw (e, others_requests us)) (λ e. rw (e, others_requests us))

  others_responses : (us : List Turn) → map turn_response (kept (others_turn chosen) us) ≡ kept_of (is_others chosen) (map request_of us) (map turn_response us)
  others_responses [] = refl
  others_responses (u ∷ us) = bool_cases (is_others chosen u.request) (λ e. rw (e, others_responses us)) (λ e. rw (e, others_responses us))

-- the book is fed the records of the others that are judged
pub others_are : (d : Defaults) (chosen : Sender → Bool) (x : Terminal) (is : List Input)
    → others_of d chosen x is (answers_to d x is) ≡ map request_of (kept (others_turn chosen) (all_judged d x is))
others_are d chosen x is = ap (kept (is_others chosen)) (requests_are d x is) ∙ sym (others_requests chosen (all_judged d x is))

pub isolated_handed : (d : Defaults) (chosen : Sender → Bool) (x : Terminal) (is : List Input)
    → BookPremise d chosen x is (answers_to d x is) → Isolated d chosen x is (answers_to d x is) (final (next d) x is)
isolated_handed d chosen x is premise =
    let us = all_judged d x is in
    let fed = others_are d chosen x is in
    let told : kept_of (is_others chosen) (requests_of x is (answers_to d x is)) (all_responses is (answers_to d x is)) ≡ map turn_response (kept (others_turn chosen) us) =
    ap₂ (kept_of (is_others chosen)) (requests_are d x is) (told_are d x is) ∙ sym (others_responses chosen us) in
    let both = isolated d chosen x is (rw fed at premise) in
    record { responses_same = rw (told, fed) both.0; tables_same = rw fed both.1 }

-- ---- all records

module _ (d : Defaults) where
  -- one record more, judged first
  one_more : (t : Tables) (q : Request) (us : List Turn) (t' : Tables) → AsRules d (tables_after d t q) (map request_of us) (map turn_response us) t'
      → AsRules d t (q ∷ map request_of us) (response_to d t q ∷ map turn_response us) t'
  one_more t q us t' m = record { responses_same = ap (λ (ys : List Response). response_to d t q ∷ ys) m.responses_same; tables_same = m.tables_same }

  by_rules_lem : (x : Terminal) (is : List Input)
      → AsRules d x.tables (map request_of (all_judged d x is)) (map turn_response (all_judged d x is)) (final (next d) x is).tables
  unfolding handed_in taken judged
  by_rules_lem x [] = record { responses_same = refl; tables_same = refl }
  by_rules_lem x (hand_in r ∷ is) =
      check_cases (verdict (hand_in_checks x r))
      (λ e. rw (e, next, final) (by_rules_lem (terminal x.tables (with_record r x.queue)) is))
      (λ n e. rw (e, next, final) (by_rules_lem x is))
  by_rules_lem x (take_at clock capacity ∷ is) =
      let q = received clock (due x) capacity in
      check_cases (verdict (take_checks x))
      (λ e. let y = (take_of d x q Pass).terminal in rw (e, next, final) (one_more x.tables q (all_judged d y is) _ (by_rules_lem y is)))
      (λ n e. rw (e, next, final) (by_rules_lem x is))
  by_rules_lem x (direct q ∷ is) =
      check_cases (verdict (direct_checks x))
      (λ e. let y = (direct_of d x q Pass).terminal in rw (e, next, final) (one_more x.tables q (all_judged d y is) _ (by_rules_lem y is)))
      (λ n e. rw (e, next, final) (by_rules_lem x is))

  -- the records of a run, with the bytes of the hand-ins, get what the rules give them one after the other
  pub rules_handed : (x : Terminal) (is : List Input)
      → AsRules d x.tables (requests_of x is (answers_to d x is)) (all_responses is (answers_to d x is)) (final (next d) x is).tables
  rules_handed x is = rw (requests_are d x is, told_are d x is) (by_rules_lem x is)
