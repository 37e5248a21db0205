-- Theorems: hand-ins, takes and records that are judged directly leave a sound terminal sound; so 1 is met only where a run began with it.
use Rattle.rows.proofs.Prelude.{◌≡◌, refl, sym, ap, ◌∙◌, Bool, true, false, not, List, [], ◌∷◌, ℕ, ◌+◌, ◌≤◌, ◌<◌, arith, length, take, eqb, not-false}
use Rattle.rows.proofs.Prelude.{cond_cases, contradiction, and_left, and_right, and_both}
use Rattle.rows.specs.Rows.{Row, same, has_key, numbered_as, some, every, without, stored, packed, joined, distinct_numbers}
use Rattle.rows.proofs.Laws.{numbered_key}
use Rattle.rows.proofs.Kept.{same_refl, every_stored, every_without, distinct_stored, distinct_without, length_stored}
use Rattle.rules.specs.declared.Tables.{Tables}
use Rattle.rules.specs.declared.Check.TheVariants.{Pass}
use Rattle.rules.specs.Record.{Request, received}
use Rattle.rules.specs.Tables.{rows, sound}
use Rattle.rules.specs.Defaults.{Defaults, fresh}
use Rattle.rules.specs.Checks.{verdict}
use Rattle.rules.specs.Promises.Groups.{sender_checks}
use Rattle.rules.specs.Outcome.{tables_after}
use Rattle.rules.specs.Run.{final}
use Rattle.rules.proofs.Answers.{passed}
use Rattle.rules.proofs.SoundKept.{sound_kept, fresh_sound}
use Rattle.rules_terminal.specs.Slots.{Round, anew, after_seat, slot_of, round_of, waiting, queue_of, empty_queue, slot_size}
use Rattle.rules_terminal.specs.Round.{seats, is_seat, occupied, in_turn, first_in_turn, same_seats, orphaned, valid_round}
use Rattle.rules_terminal.specs.Terminal.{Terminal, slot_sound, queue_sound, sound_terminal, fresh_terminal, hand_in_checks, with_record, handed_in, clears}
use Rattle.rules_terminal.specs.Terminal.{queue_after, take_checks, turn, due, taken, direct_checks, judged}
use Rattle.rules_terminal.specs.Inputs.{Input, hand_in, take_at, direct, next}
use Rattle.rules_terminal.proofs.SeatLaws.{first_passes, first_in, first_least, turn_in, turn_of}
use Rattle.rules.proofs.CheckLaws.{check_cases}
use Rattle.rules_terminal.proofs.SlotLaws.{TwoLong, waiting_back, slots_long, queue_parts, queue_sound_lem, round_two, slot_length, slot_made}
use Rattle.rules_terminal.proofs.SlotLaws.{slot_seat, slot_two}
use Rattle.rules_terminal.proofs.Held.{slot_held, slot_in_lem, seat_long, few_slots}
use Rattle.rules_terminal.proofs.RowsMoved.{seats_are}
use Rattle.rules.specs.declared.Table.TheVariants.{Creds}

pub record Sound (x : Terminal) : Type 0 where
  pub tables : sound x.tables ≡ true
  pub queue : queue_sound (rows Creds x.tables) x.queue ≡ true
  pub keeps : every (slot_sound (rows Creds x.tables)) (waiting x.queue) ≡ true
  pub distinct : distinct_numbers (waiting x.queue) ≡ true
  pub two : TwoLong (round_of x.queue)

pub terminal_parts : (x : Terminal) → sound_terminal x ≡ true → Sound x
unfolding sound_terminal
terminal_parts x h =
    let m = and_right (sound x.tables) _ h in
    let p = queue_parts x.tables x.queue m in
    record { tables = and_left _ _ h; queue = m; keeps = p.keeps; distinct = p.distinct; two = round_two x.tables x.queue m }

pub terminal_whole : (x : Terminal) → sound x.tables ≡ true → queue_sound (rows Creds x.tables) x.queue ≡ true → sound_terminal x ≡ true
unfolding sound_terminal
terminal_whole x h m = and_both _ _ h m

-- a memory with a round and slots that pass: it is sound, and they wait in it
module _ (t : Tables) (k : Round) (ws : List Row) (s : sound t ≡ true) (two : TwoLong k) (h : every (slot_sound (rows Creds t)) ws ≡ true)
    (d : distinct_numbers ws ≡ true) where
  made : queue_sound (rows Creds t) (queue_of k ws) ≡ true
  made = queue_sound_lem t k ws two (few_slots t ws s h d) h d

  pub made_waits : waiting (queue_of k ws) ≡ ws
  made_waits = waiting_back k ws two (few_slots t ws s h d) (slots_long t ws h)

-- ---- fresh

pub fresh_is : queue_of anew [] ≡ empty_queue
unfolding queue_of packed joined
fresh_is = refl

pub fresh_queue : (t : Tables) → sound t ≡ true → queue_sound (rows Creds t) empty_queue ≡ true
unfolding every distinct_numbers
fresh_queue t s = ap (queue_sound (rows Creds t)) (sym fresh_is) ∙ made t anew [] s tt refl refl

pub fresh_terminal_lem : (d : Defaults) → sound_terminal (fresh_terminal d) ≡ true
unfolding fresh_terminal
fresh_terminal_lem d = terminal_whole (fresh_terminal d) (fresh_sound d) (fresh_queue (fresh d) (fresh_sound d))

-- ---- hand-in

pub hand_passed : (x : Terminal) (r : List ℕ) → verdict (hand_in_checks x r) ≡ Pass → verdict (sender_checks (rows Creds x.tables) r) ≡ Pass
unfolding verdict
hand_passed x r e = let by = passed (hand_in_checks x r) e in rw (by 2, by 3, by 4, by 5, by 6, by 7)

-- a record that is kept finds its seat free
pub hand_free : (x : Terminal) (r : List ℕ) → verdict (hand_in_checks x r) ≡ Pass → some (numbered_as (slot_of r)) (waiting x.queue) ≡ false
unfolding occupied
hand_free x r e =
    ap (λ (p : Row → Bool). some p (waiting x.queue)) (sym (numbered_key (slot_of r) (slot_two r)) ∙ ap (has_key 0) (slot_seat r))
    ∙ passed (hand_in_checks x r) e 26

-- the slots with it are sound
pub hand_keeps : (x : Terminal) (r : List ℕ) → sound_terminal x ≡ true → verdict (hand_in_checks x r) ≡ Pass
    → (every (slot_sound (rows Creds x.tables)) (stored (slot_of r) (waiting x.queue)) ≡ true) × (length (stored (slot_of r) (waiting x.queue)) ≤ 25)
hand_keeps x r h e =
    let s = terminal_parts x h in
    let all = every_stored (slot_sound (rows Creds x.tables)) (slot_of r) (waiting x.queue) (slot_made x.tables r (hand_passed x r e)) s.keeps in
    (all, few_slots x.tables (stored (slot_of r) (waiting x.queue)) s.tables all (distinct_stored (slot_of r) (waiting x.queue) s.distinct))

-- there is room: it finds at most 24 others
pub hand_fits : (x : Terminal) (r : List ℕ) → verdict (hand_in_checks x r) ≡ Pass → length (waiting x.queue) < 25
hand_fits x r e =
    let more : length (stored (slot_of r) (waiting x.queue)) ≡ length (waiting x.queue) + 1 =
    length_stored (slot_of r) (waiting x.queue) ∙ rw (hand_free x r e) in
    omega (arith, (hand_keeps x r (not-false _ (passed (hand_in_checks x r) e 1)) e).1)

-- ---- the memory with the tables that a record leaves

pub every_staying : (t t' : Tables) (ws : List Row) → every (slot_sound (rows Creds t)) ws ≡ true → every (slot_sound (rows Creds t')) (without (orphaned (seats t')) ws) ≡ true
unfolding every without orphaned
every_staying t t' [] h = refl
every_staying t t' (w ∷ ws) h =
    cond_cases (λ (l : List Row). every (slot_sound (rows Creds t')) l ≡ true) (not (is_seat (seats t') (take 2 w)))
    (λ _. every_staying t t' ws (and_right (slot_sound (rows Creds t) w) _ h))
    (λ e. and_both _ _ (slot_in_lem t w (and_left (slot_sound (rows Creds t) w) _ h) t' (not-false _ e)) (every_staying t t' ws (and_right (slot_sound (rows Creds t) w) _ h)))

pub held_two : (t : Tables) (k : Round) → TwoLong k → TwoLong (valid_round (seats t) k)
held_two t anew h = tt
held_two t (after_seat p) h = cond_cases TwoLong (is_seat (seats t) p) (λ _. h) (λ _. tt)

-- seats that are the same hold the same slots
pub every_same : (t t' : Tables) (ws : List Row) → seats t' ≡ seats t → every (slot_sound (rows Creds t)) ws ≡ true → every (slot_sound (rows Creds t')) ws ≡ true
unfolding every is_seat
every_same t t' [] e h = refl
every_same t t' (w ∷ ws) e h =
    let f = and_left (slot_sound (rows Creds t) w) _ h in
    and_both _ _ (slot_in_lem t w f t' (ap (some (same (take 2 w))) e ∙ slot_held t w f)) (every_same t t' ws e (and_right (slot_sound (rows Creds t) w) _ h))

pub sound_after : (d : Defaults) (t : Tables) (q : Request) (k : Round) (ws : List Row) → sound t ≡ true → TwoLong k → every (slot_sound (rows Creds t)) ws ≡ true
    → distinct_numbers ws ≡ true → queue_sound (rows Creds (tables_after d t q)) (queue_after d t q k ws) ≡ true
unfolding queue_after
sound_after d t q k ws s two h a =
    let t' = tables_after d t q in
    let s' = sound_kept d t q s in
    let still = held_two t k two in
    cond_cases (λ (m : List ℕ). queue_sound (rows Creds t') m ≡ true) (clears d t q)
    (λ _. fresh_queue t' s')
    (λ _. cond_cases (λ (m : List ℕ). queue_sound (rows Creds t') m ≡ true) (same_seats (seats t) (seats t'))
    (λ e. made t' _ _ s' (search) (every_same t t' ws (sym (seats_are (seats t) (seats t') e)) h) a)
    (λ _. made t' _ _ s' (held_two t' (valid_round (seats t) k) still) (every_staying t t' ws h) (distinct_without _ ws a)))

-- ---- take

-- the seat whose turn it is
pub record Turn (x : Terminal) : Type 0 where
  pub waits : occupied (waiting x.queue) (turn x) ≡ true
  pub there : is_seat (seats x.tables) (turn x) ≡ true
  pub two : length (turn x) ≡ 2

-- a slot has its own seat's bytes, which is occupied
pub own_key : (w : Row) → 2 ≤ length w → has_key 0 (take 2 w) w ≡ true
unfolding numbered_as
own_key w l = ap (λ (p : Row → Bool). p w) (numbered_key w l) ∙ same_refl (take 2 w)

pub seat_found : (w : Row) (ws : List Row) → length w ≡ slot_size → occupied (w ∷ ws) (take 2 w) ≡ true
unfolding occupied some
seat_found w ws l = rw (own_key w (omega arith))

some_turn : (x : Terminal) → sound_terminal x ≡ true → (ws : List Row) → waiting x.queue ≡ ws → eqb (length ws) 0 ≡ false
    → some (occupied ws) (in_turn (round_of x.queue) (seats x.tables)) ≡ true
unfolding every is_seat
some_turn x h [] e n = contradiction refl n
some_turn x h (w ∷ ws) e n =
    let k = ap (every (slot_sound (rows Creds x.tables))) (sym e) ∙ (terminal_parts x h).keeps in
    let f = and_left (slot_sound (rows Creds x.tables) w) _ k in
    (first_least (occupied (w ∷ ws)) (take 2 w) (in_turn (round_of x.queue) (seats x.tables))
    (turn_in (take 2 w) (round_of x.queue) (seats x.tables) (slot_held x.tables w f))
    (seat_found w ws (slot_length x.tables w f))).0

pub turn_is : (x : Terminal) → sound_terminal x ≡ true → eqb (length (waiting x.queue)) 0 ≡ false → Turn x
unfolding turn first_in_turn is_seat
turn_is x h n =
    let ps = in_turn (round_of x.queue) (seats x.tables) in
    let f = some_turn x h (waiting x.queue) refl n in
    let there = turn_of (turn x) (round_of x.queue) (seats x.tables) (first_in (occupied (waiting x.queue)) ps f) in
    record {
      waits = first_passes (occupied (waiting x.queue)) ps f;
      there = there;
      two = seat_long x.tables (terminal_parts x h).tables (turn x) there;
    }

-- a take that finds a record
pub take_passed : (x : Terminal) → verdict (take_checks x) ≡ Pass → (sound_terminal x ≡ true) × (eqb (length (waiting x.queue)) 0 ≡ false)
take_passed x e = (not-false _ (passed (take_checks x) e 1), passed (take_checks x) e 27)

-- ---- a run

pub sound_next : (d : Defaults) (x : Terminal) (i : Input) → sound_terminal x ≡ true → sound_terminal (next d x i) ≡ true
unfolding handed_in with_record taken judged
sound_next d x (hand_in r) h =
    let s = terminal_parts x h in
    check_cases (verdict (hand_in_checks x r))
    (λ e. rw (e, next)
    (terminal_whole _ s.tables
    (made x.tables _ _ s.tables s.two (hand_keeps x r h e).0 (distinct_stored _ (waiting x.queue) s.distinct))))
    (λ n e. rw (e, next) h)
sound_next d x (take_at clock capacity) h =
    let s = terminal_parts x h in
    let q = received clock (due x) capacity in
    check_cases (verdict (take_checks x))
    (λ e. rw (e, next)
    (terminal_whole _ (sound_kept d x.tables q s.tables)
    (sound_after d x.tables q _ _ s.tables (turn_is x h (take_passed x e).1).two
    (every_without (slot_sound (rows Creds x.tables)) _ (waiting x.queue) s.keeps) (distinct_without _ (waiting x.queue) s.distinct))))
    (λ n e. rw (e, next) h)
sound_next d x (direct q) h =
    let s = terminal_parts x h in
    check_cases (verdict (direct_checks x))
    (λ e. rw (e, next)
    (terminal_whole _ (sound_kept d x.tables q s.tables)
    (sound_after d x.tables q _ _ s.tables s.two s.keeps s.distinct)))
    (λ n e. rw (e, next) h)

pub inputs_sound : (d : Defaults) (x : Terminal) (is : List Input) → sound_terminal x ≡ true → sound_terminal (final (next d) x is) ≡ true
inputs_sound d x [] h = h
inputs_sound d x (i ∷ is) h = inputs_sound d (next d x i) is (sound_next d x i h)
