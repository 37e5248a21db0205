-- Theorems, demand 3 in service: the question is asked of the terminal, and not of the book. It is asked at the start,
-- and again after each permitted record of somebody else that endangers the chosen senders.
-- Then each part of them, a yard with its hauliers or one haulier, changes nothing for all others.
use Rattle.rows.proofs.Prelude.{◌≡◌, refl, sym, ap, ap₂, ◌∙◌, Bool, true, false, List, [], ◌∷◌, ◌++◌, map, ℕ, ◌<◌, bool_cases, contradiction}
use Rattle.rows.proofs.Prelude.{subst, cond_cases, or_left, or_right, append-nil, append_cancel_left}
use mathlib.Core.List.{map-append}
use Rattle.rows.specs.Rows.{Row, some, without}
use Rattle.rules.specs.declared.Tables.{Tables}
use Rattle.rules.specs.declared.Check.TheVariants.{Pass}
use Rattle.rules.specs.declared.Sender.{Sender}
use Rattle.rules.specs.declared.Sender.TheVariants.{Partner}
use Rattle.rules.specs.Record.{Request, received, sender}
use Rattle.rules.specs.Tables.{sound}
use Rattle.rules.specs.Defaults.{Defaults}
use Rattle.rules.specs.Checks.{verdict}
use Rattle.rules.specs.Outcome.{response_to, tables_after}
use Rattle.rules.specs.Run.{final, Along, kept}
use Rattle.rules.specs.Isolation.{Harmless, Premise}
use Rattle.rules.proofs.BitLaws.{bits_small}
use Rattle.rules.proofs.CheckLaws.{check_cases}
use Rattle.rules.proofs.SoundKept.{sound_same}
use Rattle.rules.proofs.Alike.{Small, compared_at, harmless_alike}
use Rattle.rules.proofs.Isolated.{Related, silent, congruent}
use Rattle.rules_terminal.specs.Terminal.{Terminal, hand_in_checks, handed_in, take_checks, due, taken, direct_checks, judged}
use Rattle.rules_terminal.specs.Inputs.{Input, hand_in, take_at, direct, transition, next, Turn, turn_if, judged_at, all_judged, request_of, turn_response, bytes_of}
use Rattle.rules_terminal.specs.Inputs.{others_turn, records_in}
use Rattle.rules_runs.specs.Events.{Event, enqueued, dequeued, immediate, sent_by, newest_of, requests, records_after, event_of, responses_of, event_at, events}
use Rattle.rules_runs.specs.Isolation as handed
use Rattle.rules_runs.specs.Isolation.{answers_to}
use Rattle.rules_runs.proofs.Judged.{judged_handed}
use Rattle.rules_runs.proofs.Seen.{event_seen, answered_seen}
use Rattle.rules_runs.proofs.Isolation.{requests_are, told_are, others_are, isolated_handed}
use Rattle.rules_isolation.specs.declared.Isolation.TheVariants.{Isolated}
use Rattle.rules_isolation.specs.Question.{entries, anonymous, sender_of, same_sender, chosen_by, isolation_of}
use Rattle.rules_isolation.specs.Service.{endangering, others_endanger, paired, turns_handed, Again, Within, SmallNumbers}
use Rattle.rules_isolation.proofs.Exact.{same_sender_lem, isolated_harmless}
use Rattle.rules_isolation.proofs.Kept.{harmless_kept}
use Rattle.rules_terminal.specs.Isolation.{others}

-- ---- one input: it judges a record, or leaves only the tables

data Moves (d : Defaults) (x : Terminal) (i : Input) : Type 0 where
  idle : judged_at d x i ≡ [] → (next d x i).tables ≡ x.tables → Moves d x i
  judges : (q : Request) → judged_at d x i ≡ turn_if d x q Pass → (next d x i).tables ≡ tables_after d x.tables q → Moves d x i

moves : (d : Defaults) (x : Terminal) (i : Input) → Moves d x i
unfolding handed_in taken judged
moves d x (hand_in r) = idle refl (check_cases (verdict (hand_in_checks x r)) (λ e. rw (e, next)) (λ n e. rw (e, next)))
moves d x (take_at clock capacity) =
    check_cases (verdict (take_checks x))
    (λ e. judges (received clock (due x) capacity) (rw e) (rw (e, next)))
    (λ n e. idle (rw e) (rw (e, next)))
moves d x (direct q) = check_cases (verdict (direct_checks x)) (λ e. judges q (rw e) (rw (e, next))) (λ n e. idle (rw e) (rw (e, next)))

-- ---- what is asked again: over the definitions

-- after each input by which somebody else endangers the chosen, the tables are such
abbrev pub AgainAt : Defaults → (Sender → Bool) → (Tables → Type 0) → Terminal → List Input → Type 0
AgainAt d chosen Such x [] = Unit {0}
AgainAt d chosen Such x (i ∷ is) = (others_endanger chosen (judged_at d x i) ≡ true → Such (next d x i).tables) × AgainAt d chosen Such (next d x i) is

-- ---- sets of senders

pub harmless_within : (part chosen : Sender → Bool) (t : Tables) → Within part chosen → Harmless chosen t → Harmless part t
harmless_within part chosen t within safe = record {
  has_owner = λ s c. safe.has_owner s (within s c);
  not_owner = λ s c. safe.not_owner s (within s c);
  not_granted = λ s c. safe.not_granted s (within s c);
}

-- ---- the run

module _ (d : Defaults) (chosen : Sender → Bool) (small : SmallNumbers chosen) (part : Sender → Bool) (within : Within part chosen) where
  -- what is harmless in the terminal's tables is so in the book's
  premise_of : (s b : Tables) → Premise chosen s → Related d part s b → Premise part b
  premise_of s b p e k =
      let h : sound s ≡ true = e.sound ∙ k in
      harmless_alike part b s (sym (compared_at part b k) ∙ sym e.same ∙ compared_at part s h) k h (harmless_within part chosen s within (p h))

  -- the premise of the part, along the book's run
  abbrev Held : Tables → List Turn → Type 0
  Held b us = Along (tables_after d) (Premise part) b (map request_of (kept (others_turn part) us))

  premise_kept : (t : Tables) (q : Request) → Premise chosen t
      → (chosen (sender q.bytes) ≡ false → endangering chosen (record { request = q; response = response_to d t q }) ≡ false)
      → Premise chosen (tables_after d t q)
  unfolding endangering
  premise_kept t q p e k = let h : sound t ≡ true = sym (sound_same d t q) ∙ k in harmless_kept d chosen small t q h (p h) e

  -- from these tables on, whatever the book's
  abbrev Holds : Tables → List Turn → Type 0
  Holds t us = (b : Tables) → Premise chosen t → Related d part t b → Held b us

  held_step : (x : Terminal) (i : Input) (us : List Turn) → Moves d x i
      → (others_endanger chosen (judged_at d x i) ≡ true → Premise chosen (next d x i).tables)
      → Holds (next d x i).tables us → Holds x.tables (judged_at d x i ++ us)
  held_step x i us (idle j t) again more b p e = rw j (more b (rw t p) (rw t e))
  held_step x i us (judges q j t) again more b p e =
      let u : Turn = record { request = q; response = response_to d x.tables q } in
      let now = premise_of x.tables b p e in
      let later : Premise chosen (next d x i).tables =
      bool_cases (endangering chosen u)
      (λ f. bool_cases (chosen (sender q.bytes))
      (λ o. rw t (premise_kept x.tables q p (λ n. contradiction o n)))
      (λ o. again (rw (j, o, f))))
      (λ f. rw t (premise_kept x.tables q p (λ _. f))) in
      rw j
      (bool_cases (part (sender q.bytes))
      (λ o. rw o (more b later (rw t (silent d part x.tables b q (rw o) now e))))
      (λ o. rw o (now, more (tables_after d b q) later (rw t (congruent d part x.tables b q (rw o) now e).1))))

  held_along : (x : Terminal) (is : List Input) → AgainAt d chosen (Premise chosen) x is → Holds x.tables (all_judged d x is)
  held_along x [] a = premise_of x.tables
  held_along x (i ∷ is) a = held_step x i (all_judged d (next d x i) is) (moves d x i) a.0 (held_along (next d x i) is a.1)

  -- the premise of demand 3 for the part
  pub service : (x : Terminal) (is : List Input) → Premise chosen x.tables → AgainAt d chosen (Premise chosen) x is
      → Along (tables_after d) (Premise part) x.tables (map request_of (others d part x is))
  service x is p a = held_along x is a x.tables p (record { same = refl; sound = refl })

-- ---- nothing is asked again

module _ (d : Defaults) (chosen : Sender → Bool) where
  endanger_parts : (us vs : List Turn) → others_endanger chosen (us ++ vs) ≡ false
      → (others_endanger chosen us ≡ false) × (others_endanger chosen vs ≡ false)
  endanger_parts [] vs n = (refl, n)
  endanger_parts (u ∷ us) vs n =
      bool_cases (chosen (sender (bytes_of u)))
      (λ o. rw o (endanger_parts us vs (rw o at n)))
      (λ o.
      let m = rw o at n in
      let more = endanger_parts us vs (or_right (endangering chosen u) _ m) in
      rw o (rw (or_left (endangering chosen u) (others_endanger chosen (us ++ vs)) m) more.0, more.1))

  -- where nobody else endangers the chosen, nothing is asked again
  pub never_again : (Such : Tables → Type 0) (x : Terminal) (is : List Input) → others_endanger chosen (all_judged d x is) ≡ false
      → AgainAt d chosen Such x is
  never_again Such x [] n = tt
  never_again Such x (i ∷ is) n =
      let both = endanger_parts (judged_at d x i) (all_judged d (next d x i) is) n in
      ((λ e. contradiction e both.0), never_again Such (next d x i) is both.1)

  pub again_map : (Such Other : Tables → Type 0) → ((t : Tables) → Such t → Other t) → (x : Terminal) (is : List Input)
      → AgainAt d chosen Such x is → AgainAt d chosen Other x is
  again_map Such Other f x [] a = tt
  again_map Such Other f x (i ∷ is) a = ((λ e. f (next d x i).tables (a.0 e)), again_map Such Other f (next d x i) is a.1)

-- ---- what the answers show

pub paired_turns : (us : List Turn) → paired (map request_of us) (map turn_response us) ≡ us
paired_turns [] = refl
paired_turns (u ∷ us) = ap (λ (vs : List Turn). u ∷ vs) (paired_turns us)

-- the records judged are those that were handed in
pub turns_handed_lem : (d : Defaults) (x : Terminal) (is : List Input) → turns_handed x is (answers_to d x is) ≡ all_judged d x is
turns_handed_lem d x is = ap₂ paired (requests_are d x is) (told_are d x is) ∙ paired_turns (all_judged d x is)

requests_append : (rs : List (List ℕ)) (es fs : List Event) → requests rs (es ++ fs) ≡ requests rs es ++ requests (records_after rs es) fs
requests_append rs [] fs = refl
requests_append rs (enqueued r ∷ es) fs = requests_append (r ∷ rs) es fs
requests_append rs (dequeued n clock capacity ∷ es) fs =
    ap (λ (qs : List Request). received clock (newest_of n rs) capacity ∷ qs) (requests_append (without (sent_by n) rs) es fs)
requests_append rs (immediate q ∷ es) fs = ap (λ (qs : List Request). q ∷ qs) (requests_append rs es fs)

module _ (d : Defaults) (chosen : Sender → Bool) (Such : Tables → Type 0) where
  -- the requests found with the records rs are those that are judged, whatever comes
  abbrev Found : Terminal → List (List ℕ) → Type 0
  Found x rs = (is : List Input) → requests rs (events d x is) ≡ map request_of (all_judged d x is)

  found_here : (x : Terminal) (rs : List (List ℕ)) (i : Input) → Found x rs → requests rs (event_at x i) ≡ map request_of (judged_at d x i)
  found_here x rs i f = let e = f (i ∷ []) in rw (append-nil (event_at x i), append-nil (judged_at d x i)) at e

  found_next : (x : Terminal) (rs : List (List ℕ)) (i : Input) → Found x rs → Found (next d x i) (records_after rs (event_at x i))
  found_next x rs i f is =
      let after = records_after rs (event_at x i) in
      append_cancel_left (map request_of (judged_at d x i)) _ _
      (ap (λ (qs : List Request). qs ++ requests after (events d (next d x i) is)) (sym (found_here x rs i f))
      ∙ sym (requests_append rs (event_at x i) (events d (next d x i) is))
      ∙ f (i ∷ is)
      ∙ map-append request_of (judged_at d x i) (all_judged d (next d x i) is))

  again_found : (x : Terminal) (rs : List (List ℕ)) (is : List Input) → Found x rs → Again chosen Such rs is (answers_to d x is) → AgainAt d chosen Such x is
  again_found x rs [] f a = tt
  again_found x rs (i ∷ is) f a =
      let us = judged_at d x i in
      let turn : paired (requests rs (event_of i (transition d x i))) (responses_of i (transition d x i)) ≡ us =
      ap₂ paired (ap (requests rs) (event_seen d x i) ∙ found_here x rs i f) (answered_seen d x i) ∙ paired_turns us in
      let more = subst (λ (es : List Event). Again chosen Such (records_after rs es) is (answers_to d (next d x i) is)) (event_seen d x i) a.1 in
      ((rw turn at a.0), again_found (next d x i) _ is (found_next x rs i f) more)

  pub again_handed : (x : Terminal) (is : List Input) → Again chosen Such (records_in x) is (answers_to d x is) → AgainAt d chosen Such x is
  again_handed x is = again_found x (records_in x) is (judged_handed d x)

  pub never_handed : (x : Terminal) (is : List Input) → others_endanger chosen (turns_handed x is (answers_to d x is)) ≡ false → AgainAt d chosen Such x is
  never_handed x is n = never_again d chosen Such x is (rw (turns_handed_lem d x is) at n)

-- ---- the senders of a list

-- an entry's number has 16 bits
entry_small : (e : Row) (n : ℕ) → sender_of e ≡ Partner n → n < 65536
unfolding sender_of
entry_small e n is = subst Small is (cond_cases Small (anonymous e) (λ _. tt) (λ _. bits_small e 0 16))

some_small : (n : ℕ) (es : List Row) → some (λ e. same_sender (sender_of e) (Partner n)) es ≡ true → n < 65536
unfolding some
some_small n [] h = contradiction h refl
some_small n (e ∷ es) h =
    bool_cases (same_sender (sender_of e) (Partner n))
    (λ i. entry_small e n (same_sender_lem (sender_of e) (Partner n) i))
    (λ i. some_small n es (rw i at h))

pub list_small : (list : List ℕ) → SmallNumbers (chosen_by list)
unfolding chosen_by
list_small list n h = some_small n (entries list) h

module _ (d : Defaults) (list : List ℕ) (x : Terminal) (is : List Input) (asked : isolation_of x.tables list ≡ Isolated)
    (part : Sender → Bool) (within : Within part (chosen_by list)) where
  part_alone : AgainAt d (chosen_by list) (λ t. isolation_of t list ≡ Isolated) x is → handed.Isolated d part x is (answers_to d x is) (final (next d) x is)
  part_alone a =
      isolated_handed d part x is
      (λ _. rw (others_are d part x is)
      (service d (chosen_by list) (list_small list) part within x is (λ _. (isolated_harmless x.tables list asked).2)
      (again_map d (chosen_by list) _ (Premise (chosen_by list)) (λ t e _. (isolated_harmless t list e).2) x is a)))

  -- a list answered 'isolated', and again after each input by which somebody else endangers it: what any part of the list sends, all of it or
  -- one haulier, changes nothing for the others, the rest of the list among them. The book is fed what was handed in
  pub in_service : Again (chosen_by list) (λ t. isolation_of t list ≡ Isolated) (records_in x) is (answers_to d x is)
      → handed.Isolated d part x is (answers_to d x is) (final (next d) x is)
  in_service a = part_alone (again_handed d (chosen_by list) (λ t. isolation_of t list ≡ Isolated) x is a)

  -- or nobody else endangers it, and the question is asked once
  pub in_quiet_service : others_endanger (chosen_by list) (turns_handed x is (answers_to d x is)) ≡ false
      → handed.Isolated d part x is (answers_to d x is) (final (next d) x is)
  in_quiet_service n = part_alone (never_handed d (chosen_by list) (λ t. isolation_of t list ≡ Isolated) x is n)
