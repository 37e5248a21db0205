-- Theorem: the records judged in a run are, byte for byte, those that were handed in or waited at the start.
-- A take judges the record that its sender handed in last.
use Rattle.rows.proofs.Prelude.{◌≡◌, refl, sym, ap, ap₂, ◌∙◌, Bool, true, false, cond, List, [], ◌∷◌, map, ℕ, arith, length, take, eqb, eq-eqb, eqb-true}
use Rattle.rows.proofs.Prelude.{bool_cases, contradiction, and_left, and_right, and_both, or_left, or_right}
use Rattle.rows.specs.Rows.{Row, same, has_key, numbered_as, some, first_row, without, every, distinct_numbers}
use Rattle.rows.proofs.Laws.{every_append}
use Rattle.rows.proofs.Kept.{same_true, same_refl, every_without, distinct_without, distinct_parts}
use Rattle.rules.specs.declared.Tables.{Tables}
use Rattle.rules.specs.declared.Table.TheVariants.{Creds}
use Rattle.rules.specs.declared.Check.TheVariants.{Pass}
use Rattle.rules.specs.Bits.{be16}
use Rattle.rules.specs.Record.{Request, received, credential}
use Rattle.rules.specs.Tables.{rows, sound}
use Rattle.rules.specs.Defaults.{Defaults}
use Rattle.rules.specs.Checks.{verdict}
use Rattle.rules.specs.Outcome.{tables_after}
use Rattle.rules.proofs.CheckLaws.{check_cases}
use Rattle.rules.proofs.OwnRow.{first_passes, first_every}
use Rattle.rules_terminal.specs.Slots.{Seat, Round, anew, after_seat, seat_of, slot_of, record_of, round_of, waiting}
use Rattle.rules_terminal.specs.Round.{seats, occupied, orphaned}
use Rattle.rules_terminal.specs.Terminal.{Terminal, slot_sound, sound_terminal, hand_in_checks, with_record, handed_in, clears, queue_after, take_checks}
use Rattle.rules_terminal.specs.Terminal.{turn, due, take_of, taken, direct_of, judged}
use Rattle.rules_terminal.specs.Inputs.{Input, hand_in, take_at, direct, next, all_judged, request_of, records_in}
use Rattle.rules_terminal.proofs.SlotLaws.{TwoLong, waiting_back, record_back, short_record, slot_parts, slot_key, slot_seat}
use Rattle.rules_terminal.proofs.Sound.{terminal_parts, hand_passed, hand_free, turn_is, take_passed, sound_next, fresh_is}
use Rattle.rules_terminal.proofs.Stays.{direct_ready}
use Rattle.rules_terminal.proofs.Refused.{unsound_run}
use Rattle.rules_terminal.proofs.Served.{hand_queue, key_is}
use Rattle.rules_terminal.proofs.Origin.{after_waiting}
use Rattle.rules_runs.specs.Events.{sent_by, newest_of, requests, events}

-- ---- each slot keeps the newest record of its sender

unfoldable keeps_newest : List (List ℕ) → Row → Bool
keeps_newest rs w = same (newest_of (credential (record_of w)) rs) (record_of w)

-- the newest record of one sender, where the records of another are gone
newest_without : (n m : ℕ) → eqb n m ≡ false → (rs : List (List ℕ)) → newest_of m (without (sent_by n) rs) ≡ newest_of m rs
unfolding newest_of sent_by without first_row
newest_without n m e [] = refl
newest_without n m e (r ∷ rs) =
    bool_cases (eqb (credential r) n)
    (λ f. rw (f, eqb-true (credential r) n f, e) (newest_without n m e rs))
    (λ f. rw f (ap (λ (l : List ℕ). cond (eqb (credential r) m) r l) (newest_without n m e rs)))

module _ (t : Tables) where
  abbrev pub SlotIs : Row → Type 0
  SlotIs w = slot_sound (rows Creds t) w ≡ true

  abbrev pub SlotsAre : List Row → Type 0
  SlotsAre ws = every (slot_sound (rows Creds t)) ws ≡ true

  -- a slot of another seat keeps a record with another number
  pub other_number : (r : List ℕ) (w : Row) → SlotIs w → same (take 2 w) (seat_of r) ≡ false → eqb (credential r) (credential (record_of w)) ≡ false
  unfolding seat_of
  other_number r w h o =
      bool_cases (eqb (credential r) (credential (record_of w)))
      (λ e. contradiction (ap (λ (p : Seat). same p (seat_of r)) (slot_key t w h ∙ ap be16 (sym (eqb-true _ _ e))) ∙ same_refl (seat_of r)) o)
      (λ e. e)

  pub key_seat : (r : List ℕ) (w : Row) → has_key 0 (seat_of r) w ≡ same (take 2 w) (seat_of r)
  unfolding has_key seat_of be16
  key_seat r w = refl

  -- a record is enqueued whose seat is free
  newest_more : (r : List ℕ) (rs : List (List ℕ)) (ws : List Row) → SlotsAre ws → some (numbered_as (slot_of r)) ws ≡ false
      → every (keeps_newest rs) ws ≡ true → every (keeps_newest (r ∷ rs)) ws ≡ true
  unfolding every some numbered_as keeps_newest newest_of sent_by first_row
  newest_more r rs [] h f k = refl
  newest_more r rs (w ∷ ws) h f k =
      let other = ap (same (take 2 w)) (sym (slot_seat r)) ∙ or_left (same (take 2 w) (take 2 (slot_of r))) _ f in
      rw (other_number r w (and_left (slot_sound (rows Creds t) w) _ h) other)
      (and_both (keeps_newest rs w) _ (and_left (keeps_newest rs w) _ k)
      (newest_more r rs ws (and_right (slot_sound (rows Creds t) w) _ h) (or_right (same (take 2 w) (take 2 (slot_of r))) _ f)
      (and_right (keeps_newest rs w) _ k)))

  -- the record of one seat is dequeued
  newest_less : (r : List ℕ) (rs : List (List ℕ)) (ws : List Row) → SlotsAre ws
      → every (keeps_newest rs) ws ≡ true → every (keeps_newest (without (sent_by (credential r)) rs)) (without (has_key 0 (seat_of r)) ws) ≡ true
  unfolding every without keeps_newest
  newest_less r rs [] h k = refl
  newest_less r rs (w ∷ ws) h k =
      let rest = newest_less r rs ws (and_right (slot_sound (rows Creds t) w) _ h) (and_right (keeps_newest rs w) _ k) in
      bool_cases (has_key 0 (seat_of r) w)
      (λ e. rw e rest)
      (λ e. let other = other_number r w (and_left (slot_sound (rows Creds t) w) _ h) (sym (key_seat r w) ∙ e) in
      rw (e, newest_without (credential r) (credential (record_of w)) other rs)
      (and_both (keeps_newest rs w) _ (and_left (keeps_newest rs w) _ k) rest))

  -- at the start
  newest_start : (ws : List Row) → SlotsAre ws → distinct_numbers ws ≡ true → every (keeps_newest (map record_of ws)) ws ≡ true
  unfolding every keeps_newest newest_of sent_by first_row
  newest_start [] h a = refl
  newest_start (w ∷ ws) h a =
      let rest = and_right (slot_sound (rows Creds t) w) _ h in
      let distinct = distinct_parts w ws a in
      rw (eq-eqb (credential (record_of w)) (credential (record_of w)) refl, same_refl (record_of w))
      (newest_more (record_of w) (map record_of ws) ws rest
      (ap (λ (v : Row). some (numbered_as v) ws) (sym (slot_parts t w (and_left (slot_sound (rows Creds t) w) _ h)).is) ∙ distinct.0)
      (newest_start ws rest distinct.1))

-- ---- one input

-- the slots that a judged record leaves
newest_after : (d : Defaults) (t : Tables) (q : Request) (k : Round) (rs : List (List ℕ)) (ws : List Row) → sound t ≡ true → TwoLong k
    → SlotsAre t ws → distinct_numbers ws ≡ true → every (keeps_newest rs) ws ≡ true
    → every (keeps_newest rs) (waiting (queue_after d t q k ws)) ≡ true
unfolding queue_after every
newest_after d t q k rs ws s two h a l =
    bool_cases (clears d t q)
    (λ c. rw (c, ← fresh_is, waiting_back anew [] tt (omega arith) tt))
    (λ c. rw (after_waiting d t q k ws s two h a c) (every_without (keeps_newest rs) (orphaned (seats (tables_after d t q))) ws l))

-- the record due has the seat whose turn it is
pub due_seat : (x : Terminal) → sound_terminal x ≡ true → eqb (length (waiting x.queue)) 0 ≡ false → seat_of (due x) ≡ turn x
unfolding due occupied
due_seat x h n =
    let u = turn_is x h n in
    let ws = waiting x.queue in
    let t = x.tables in
    let p = has_key 0 (turn x) in
    sym (slot_key t (first_row p ws) (first_every p (slot_sound (rows Creds t)) ws u.waits (terminal_parts x h).keeps))
    ∙ key_is (turn x) (first_row p ws) u.two (first_passes p ws u.waits)

due_newest : (x : Terminal) (rs : List (List ℕ)) → sound_terminal x ≡ true → eqb (length (waiting x.queue)) 0 ≡ false
    → every (keeps_newest rs) (waiting x.queue) ≡ true → newest_of (credential (due x)) rs ≡ due x
unfolding due occupied keeps_newest
due_newest x rs h n l = same_true _ _ (first_every (has_key 0 (turn x)) (keeps_newest rs) (waiting x.queue) (turn_is x h n).waits l)

hand_newest : (x : Terminal) (r : List ℕ) (rs : List (List ℕ)) → sound_terminal x ≡ true → verdict (hand_in_checks x r) ≡ Pass
    → every (keeps_newest rs) (waiting x.queue) ≡ true → every (keeps_newest (r ∷ rs)) (waiting (with_record r x.queue)) ≡ true
unfolding every keeps_newest newest_of sent_by first_row
hand_newest x r rs h e l =
    rw ((hand_queue x r h e).0, every_append (keeps_newest (r ∷ rs)) (waiting x.queue) (slot_of r ∷ []))
    (and_both _ _
    (newest_more x.tables r rs (waiting x.queue) (terminal_parts x h).keeps (hand_free x r e) l)
    (rw (record_back r (short_record (rows Creds x.tables) r (hand_passed x r e)), eq-eqb (credential r) (credential r) refl, same_refl r)))

-- ---- a run

module _ (d : Defaults) where
  follows : (x : Terminal) (rs : List (List ℕ)) (is : List Input) → sound_terminal x ≡ true → every (keeps_newest rs) (waiting x.queue) ≡ true
      → requests rs (events d x is) ≡ map request_of (all_judged d x is)
  unfolding handed_in taken judged
  follows x rs [] h l = refl
  follows x rs (hand_in r ∷ is) h l =
      check_cases (verdict (hand_in_checks x r))
      (λ e. rw (e, next) (follows _ (r ∷ rs) is (rw (e, next) at (sound_next d x (hand_in r) h)) (hand_newest x r rs h e l)))
      (λ n e. rw (e, next) (follows x rs is h l))
  follows x rs (take_at clock capacity ∷ is) h l =
      let t = x.tables in
      let ws = waiting x.queue in
      let own = has_key 0 (turn x) in
      let q = received clock (due x) capacity in
      let s = terminal_parts x h in
      let left = without (sent_by (credential (due x))) rs in
      check_cases (verdict (take_checks x))
      (λ e. let waits = (take_passed x e).1 in
      rw (e, next)
      (ap₂ (λ (r : List ℕ) (qs : List Request). received clock r capacity ∷ qs) (due_newest x rs h waits l)
      (follows (take_of d x q Pass).terminal left is (rw (e, next) at (sound_next d x (take_at clock capacity) h))
      (newest_after d t q (after_seat (turn x)) left (without own ws) s.tables (turn_is x h waits).two
      (every_without (slot_sound (rows Creds t)) own ws s.keeps) (distinct_without own ws s.distinct)
      (rw (due_seat x h waits) at (newest_less t (due x) rs ws s.keeps l))))))
      (λ n e. rw (e, next) (follows x rs is h l))
  follows x rs (direct q ∷ is) h l =
      let s = terminal_parts x h in
      let ready = direct_ready x h in
      rw (ready, next)
      (ap (λ (qs : List Request). q ∷ qs)
      (follows (direct_of d x q Pass).terminal rs is (rw (ready, next) at (sound_next d x (direct q) h))
      (newest_after d x.tables q (round_of x.queue) rs (waiting x.queue) s.tables s.two s.keeps s.distinct l)))

  -- a terminal that is not sound has no event
  unsound_events : (x : Terminal) (is : List Input) → sound_terminal x ≡ false → events d x is ≡ []
  unfolding handed_in taken judged verdict
  unsound_events x [] e = refl
  unsound_events x (hand_in r ∷ is) e = rw (e, next) (unsound_events x is e)
  unsound_events x (take_at clock capacity ∷ is) e = rw (e, next) (unsound_events x is e)
  unsound_events x (direct q ∷ is) e = rw (e, next) (unsound_events x is e)

  -- from a terminal of any content
  pub judged_handed : (x : Terminal) (is : List Input) → requests (records_in x) (events d x is) ≡ map request_of (all_judged d x is)
  judged_handed x is =
      bool_cases (sound_terminal x)
      (λ h. let s = terminal_parts x h in follows x (records_in x) is h (newest_start x.tables (waiting x.queue) s.keeps s.distinct))
      (λ e. rw (unsound_events x is e, (unsound_run d x is e).0))
