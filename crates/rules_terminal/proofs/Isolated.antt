-- Theorem, demand 3 with waiting records: over a whole list of hand-ins, takes and records judged directly, refused ones included,
-- the others' records that are judged get what the book of 01 gives them, fed byte for byte in the
-- order of their takes, each at its take's clock and with its reply buffer's length.
-- The book holds tables only, so seats and round are left out of what is compared.
use Rattle.rows.proofs.Prelude.{◌≡◌, refl, ap, Bool, true, false≢true, List, [], ◌∷◌, ◌++◌, map, cond_cases, bool_cases}
use Rattle.rules.specs.declared.Tables.{Tables}
use Rattle.rules.specs.declared.Check.TheVariants.{Pass}
use Rattle.rules.specs.declared.Sender.{Sender}
use Rattle.rules.specs.Record.{Request, received}
use Rattle.rules.specs.Defaults.{Defaults}
use Rattle.rules.specs.Checks.{verdict}
use Rattle.rules.specs.Outcome.{Response, response_to, tables_after}
use Rattle.rules.specs.Run.{replies, final, Along, kept}
use Rattle.rules.specs.Isolation.{Premise, is_others}
use Rattle.rules.proofs.Isolated.{Related, silent, congruent}
use Rattle.rules_terminal.specs.Terminal.{Terminal, sound_terminal, hand_in_checks, handed_in, take_checks, due, taken, direct_checks, judged}
use Rattle.rules_terminal.specs.Inputs.{Input, hand_in, take_at, direct, next, Turn, turn_if, turns, judged_at, all_judged, others_turn, request_of, turn_response}
use Rattle.rules_terminal.specs.Inputs.{none_direct}
use Rattle.rules.proofs.CheckLaws.{check_cases}
use Rattle.rules_terminal.specs.Isolation.{AsTheBook, Premises, others}
use Rattle.rules_terminal.proofs.Refused.{unsound_run}
use Rattle.rules_terminal.proofs.Lockstep.{along_first, collected_through, mapped_append, lockstep}

module _ (d : Defaults) (chosen : Sender → Bool) where
  -- ---- one record on the tables s of the terminal and b of the book

  -- what the book answers to these turns, and where both sides are then
  abbrev Step : Tables → Tables → List Turn → Type 0
  Step s b us = (map turn_response us ≡ replies (response_to d) (tables_after d) b (map request_of us)) × Related d chosen s (final (tables_after d) b (map request_of us))

  turn_step : (x : Terminal) (b : Tables) (q : Request) → Premise chosen b → Related d chosen x.tables b
      → Step (tables_after d x.tables q) b (kept (others_turn chosen) (turn_if d x q Pass))
  turn_step x b q p e =
      cond_cases (λ (us : List Turn). Step (tables_after d x.tables q) b us) (is_others chosen q)
      (λ o. let both = congruent d chosen x.tables b q o p e in (ap (λ (a : Response). a ∷ []) both.0, both.1))
      (λ o. (refl, silent d chosen x.tables b q o p e))

  -- ---- one input

  -- what the book is fed, and what the others get
  abbrev fed : Terminal → Input → List Request
  fed x i = map request_of (kept (others_turn chosen) (judged_at d x i))

  abbrev told : Terminal → Input → List Response
  told x i = map turn_response (kept (others_turn chosen) (judged_at d x i))

  one : (x : Terminal) (b : Tables) (i : Input) → Along (tables_after d) (Premise chosen) b (fed x i) → Related d chosen x.tables b
      → (told x i ≡ replies (response_to d) (tables_after d) b (fed x i)) × Related d chosen (next d x i).tables (final (tables_after d) b (fed x i))
  unfolding handed_in taken judged
  one x b (hand_in r) a e = (refl, check_cases (verdict (hand_in_checks x r)) (λ f. rw (f, next) e) (λ n f. rw (f, next) e))
  one x b (take_at clock capacity) a e =
      check_cases (verdict (take_checks x))
      (λ f. rw (f, next) (turn_step x b (received clock (due x) capacity) (along_first (tables_after d) (Premise chosen) b (fed x (take_at clock capacity)) a) e))
      (λ n f. rw (f, next) (refl, e))
  one x b (direct q) a e =
      check_cases (verdict (direct_checks x))
      (λ f. rw (f, next) (turn_step x b q (along_first (tables_after d) (Premise chosen) b (fed x (direct q)) a) e))
      (λ n f. rw (f, next) (refl, e))

  -- ---- the whole list

  isolated_from : (x : Terminal) (is : List Input) → Along (tables_after d) (Premise chosen) x.tables (map request_of (others d chosen x is))
      → AsTheBook d chosen x (others d chosen x is) (final (next d) x is).tables
  isolated_from x is premise =
      let a = collected_through (next d) (judged_at d) (λ us. map request_of (kept (others_turn chosen) us))
      refl (mapped_append (others_turn chosen) request_of) x is in
      let b = collected_through (next d) (judged_at d) (λ us. map turn_response (kept (others_turn chosen) us))
      refl (mapped_append (others_turn chosen) turn_response) x is in
      let both = lockstep (next d) told fed (response_to d) (tables_after d) (Premise chosen) (λ y t. Related d chosen y.tables t)
      one x x.tables is (rw a premise) (record { same = refl; sound = refl }) in
      (rw (← a, ← b) both.0, rw (← a) both.1.same)

  -- demand 3; a terminal that is not sound, be it only in the queue, needs no premise
  pub isolated : (x : Terminal) (is : List Input) → Premises d chosen x (others d chosen x is)
      → AsTheBook d chosen x (others d chosen x is) (final (next d) x is).tables
  isolated x is premise =
      bool_cases (sound_terminal x)
      (λ h. isolated_from x is (premise h))
      (λ e. let u = unsound_run d x is e in rw (u.0, u.1) (refl, refl))

  -- ---- as U13 words it: only hand-ins and takes

  judged_taken : (x : Terminal) (is : List Input) → none_direct is ≡ true → all_judged d x is ≡ turns d x is
  judged_taken x [] n = refl
  judged_taken x (hand_in r ∷ is) n = judged_taken (next d x (hand_in r)) is n
  judged_taken x (take_at clock capacity ∷ is) n = ap (λ (us : List Turn). judged_at d x (take_at clock capacity) ++ us) (judged_taken (next d x (take_at clock capacity)) is n)
  judged_taken x (direct q ∷ is) n = absurd (false≢true n)

  -- the others' records taken
  pub turns_isolated : (x : Terminal) (is : List Input) → none_direct is ≡ true → Premises d chosen x (kept (others_turn chosen) (turns d x is))
      → AsTheBook d chosen x (kept (others_turn chosen) (turns d x is)) (final (next d) x is).tables
  turns_isolated x is n = rw (← judged_taken x is n) (isolated x is)
