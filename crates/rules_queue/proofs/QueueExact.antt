-- Theorem: a terminal of bytes is sound exactly where it is the written form of a sound typed terminal.
use Rattle.rows.proofs.Prelude.{◌≡◌, refl, sym, ap, ap₂, ◌∙◌, Bool, true, not, ◌&&◌, List, [], ◌∷◌, ◌++◌, map, ℕ, ◌≤◌, ◌<◌, arith, length, drop, get_or}
use Rattle.rows.proofs.Prelude.{eqb, eqb-true, bool_cases, and_left, and_right, and_both, cond_cases, length-map, min, not-true, lt-ltb, take_all}
use Rattle.rows.specs.Rows.{Row, same, every, distinct_numbers, packed}
use Rattle.rows.proofs.Kept.{same_refl, same_true}
use Rattle.rules.specs.declared.Sender.{Sender}
use Rattle.rules.specs.declared.Sender.TheVariants.{Unauthenticated, Partner}
use Rattle.rules.specs.declared.Tables.{Tables as ByteTables}
use Rattle.rules.specs.declared.Table.TheVariants.{Creds}
use Rattle.rules.specs.Bits.{bits, be16}
use Rattle.rules.specs.Tables.{rows}
use Rattle.rules.proofs.BitLaws.{bits_small}
use Rattle.rules_typed.specs.Lists.{just, when, all, distinct}
use Rattle.rules_typed.specs.Types.{Tables}
use Rattle.rules_typed.specs.Tables.{is_bytes, is_number, sound}
use Rattle.rules_typed.specs.Struct.{Given, IsStruct}
use Rattle.rules_typed.specs.Reading.{tables_of, same_tables}
use Rattle.rules_typed.specs.Writing.{written_tables}
use Rattle.rules_typed.proofs.ListLaws.{Each}
use Rattle.rules_typed.proofs.ByteLaws.{good_rows, bytes_take, bytes_drop, two_bytes}
use Rattle.rules_typed.proofs.RowWritten.{two_small, word_read, all_parts}
use Rattle.rules_typed.proofs.RowExact.{test_same}
use Rattle.rules_typed.proofs.RowsRead.{bytes_join}
use Rattle.rules_typed.proofs.StructKept.{bytes_packed}
use Rattle.rules_typed.proofs.SoundExact.{all_valid, distinct_read, sound_exact}
use Rattle.rules_terminal.specs.Slots.{Seat, Round as ByteRound, anew, after_seat, queue_of, round_of, waiting, slot_size, queue_capacity}
use Rattle.rules_terminal.specs.Slots.{round_bytes as byteRoundBytes}
use Rattle.rules_terminal.specs.Terminal.{Terminal as ByteTerminal, slot_sound, queue_sound, sound_terminal}
use Rattle.rules_terminal.proofs.SlotLaws.{TwoLong, slots_long, round_two, queue_parts, queue_is, queue_sound_lem, waiting_back, round_back}
use Rattle.rules_terminal.proofs.Held.{few_slots}
use Rattle.rules_terminal.proofs.Sound.{terminal_parts, terminal_whole}
use Rattle.rules_queue.specs.Queue.{Waiting, Round, Anew, After, Queue, Terminal, sender_number, valid_sender, valid_waiting, same_waiting}
use Rattle.rules_queue.specs.Queue.{valid_round, sound_queue}
use Rattle.rules_queue.specs.QueueBytes.{slot_bytes, round_bytes, queue_bytes, written_terminal, waiting_as, sender_at, round_as, queue_as, terminal_as}
use Rattle.rules_queue.specs.QueueBytes.{same_terminal}
use Rattle.rules_queue.specs.QueueBytes.{read_terminal}
use Rattle.rules_queue.proofs.RecordRead.{sender_small}
use Rattle.rules_queue.proofs.PlacesRead.{seat_bytes, seat_round}
use Rattle.rules_queue.proofs.SlotsRead.{Slot, slot_back, slot_is_valid, same_waiting_lem, slot_written, slot_again}

-- ---- the round

pub number_again : (s : Sender) → valid_sender s ≡ true → sender_at (sender_number s) ≡ s
unfolding is_number
number_again Unauthenticated v = refl
number_again (Partner n) v = rw (not-true (eqb n 0) (and_left _ _ v))

at_number : (n : ℕ) → sender_number (sender_at n) ≡ n
at_number n = bool_cases (eqb n 0) (λ e. rw e (sym (eqb-true n 0 e))) (λ e. rw e)

at_valid : (n : ℕ) → n < 65536 → valid_sender (sender_at n) ≡ true
unfolding is_number
at_valid n l = bool_cases (eqb n 0) (λ e. rw e) (λ e. rw e (and_both _ _ (ap not e) (lt-ltb n 65536 l)))

pub round_again : (k : Round) → valid_round k ≡ true → round_as (seat_round k) ≡ k
unfolding be16
round_again Anew v = refl
round_again (After s) v =
    let small = sender_small s v in
    ap (λ (n : ℕ). After (sender_at n)) (word_read (seat_bytes s) (two_small (sender_number s) small) 0 (sender_number s) (omega arith) refl)
    ∙ ap (λ (o : Sender). After o) (number_again s v)

abbrev RoundBytes : ByteRound → Type 0
RoundBytes anew = Unit {0}
RoundBytes (after_seat p) = is_bytes p ≡ true

-- the two bytes of a round are its place's
pub record IsRound (k : ByteRound) : Type 0 where
  pub is : seat_round (round_as k) ≡ k
  pub valid : valid_round (round_as k) ≡ true

is_round : (k : ByteRound) → TwoLong k → RoundBytes k → IsRound k
is_round anew two b = record { is = refl; valid = refl }
is_round (after_seat p) two b = record {
  is = ap (λ (q : Seat). after_seat q) (ap be16 (at_number (bits p 0 16)) ∙ sym (two_bytes p b (omega arith)) ∙ take_all 2 p (omega arith));
  valid = at_valid (bits p 0 16) (bits_small p 0 16);
}

round_bytes_lem : (m : List ℕ) → is_bytes m ≡ true → RoundBytes (round_of m)
unfolding round_of
round_bytes_lem m h = cond_cases RoundBytes (eqb (get_or m 1 0) 0) (λ _. tt) (λ _. bytes_take 2 (drop 2 m) (bytes_drop 2 m h))

pub two_long : (k : Round) → TwoLong (seat_round k)
unfolding be16
two_long Anew = tt
two_long (After s) = refl

round_same : (k : Round) → byteRoundBytes (seat_round k) ≡ round_bytes k
round_same Anew = refl
round_same (After s) = refl

-- ---- a queue of bytes that holds these slots, and the typed queue

slots_back : (t : ByteTables) (ws : List Row) → Each (Slot t) ws → map slot_bytes (map waiting_as ws) ≡ ws
slots_back t [] q = refl
slots_back t (w ∷ ws) q = ap₂ (λ (x : Row) (xs : List Row). x ∷ xs) (slot_back t w q.0) (slots_back t ws q.1)

every_good : (t : ByteTables) (ws : List Row) → Each (Slot t) ws → every (slot_sound (rows Creds t)) ws ≡ true
unfolding every
every_good t [] q = refl
every_good t (w ∷ ws) q = and_both _ _ q.0.0 (every_good t ws q.1)

-- slots that are sound beside some tables t
pub record Held (t : ByteTables) (m : List ℕ) (q : Queue) : Type 0 where
  pub slots : List Row
  pub good : Each (Slot t) slots
  pub few : length slots ≤ 25
  pub valid : valid_round q.round ≡ true
  pub reads : q.waiting ≡ map waiting_as slots
  pub is : m ≡ queue_of (seat_round q.round) slots

module _ (t : ByteTables) (m : List ℕ) (q : Queue) (h : Held t m q) where
  pub held_written : queue_bytes q ≡ m
  unfolding queue_bytes queue_of
  held_written =
      let ws = map slot_bytes q.waiting in
      let same : ws ≡ h.slots = ap (map slot_bytes) h.reads ∙ slots_back t h.slots h.good in
      ap₂ (λ (n : ℕ) (b : List ℕ). n ∷ b) (sym (length-map q.waiting slot_bytes) ∙ ap length same)
      (ap₂ (λ (a b : List ℕ). a ++ b) (sym (round_same q.round)) (ap (packed 6500) same))
      ∙ sym h.is

  pub held_read : queue_as m ≡ q
  held_read =
      let k = seat_round q.round in
      let two = two_long q.round in
      let w = ap waiting h.is ∙ waiting_back k h.slots two h.few (slots_long t h.slots (every_good t h.slots h.good)) in
      let waits = ap (map waiting_as) w ∙ sym h.reads in
      let round = ap round_as (ap round_of h.is ∙ round_back k h.slots two) ∙ round_again q.round h.valid in
      λ i. record { waiting = waits i; round = round i }

each_bytes : (t : ByteTables) (ws : List Row) → Each (Slot t) ws → Each (λ w. is_bytes w ≡ true) ws
each_bytes t [] q = tt
each_bytes t (w ∷ ws) q = (q.0.1, each_bytes t ws q.1)

round_good : (k : Round) → valid_round k ≡ true → is_bytes (round_bytes k) ≡ true
unfolding is_bytes
round_good Anew v = refl
round_good (After s) v = two_small (sender_number s) (sender_small s v)

-- these are bytes
pub held_bytes : (t : ByteTables) (m : List ℕ) (q : Queue) → Held t m q → is_bytes m ≡ true
unfolding queue_of is_bytes
held_bytes t m q h =
    ap is_bytes h.is
    ∙ and_both _ _ (lt-ltb (length h.slots) 256 (omega (arith, h.few)))
    (bytes_join (byteRoundBytes (seat_round q.round)) (packed 6500 h.slots) (ap is_bytes (round_same q.round) ∙ round_good q.round h.valid)
    (bytes_packed 6500 h.slots (each_bytes t h.slots h.good)))

-- ---- a sound queue of bytes

module _ (t : ByteTables) (k : Given t) where
  abbrev T : Tables
  T = tables_of t

  module _ (m : List ℕ) (h : is_bytes m ≡ true) (s : queue_sound (rows Creds t) m ≡ true) where
    pub waiting_good : Each (Slot t) (waiting m)
    unfolding waiting
    waiting_good =
        good_rows (slot_sound (rows Creds t)) slot_size (min (get_or m 0 0) queue_capacity) (drop 4 m) (bytes_drop 4 m h) (queue_parts t m s).keeps

    pub is_held : IsRound (round_of m)
    is_held = is_round (round_of m) (round_two t m s) (round_bytes_lem m h)

    pub queue_held : Held t m (queue_as m)
    queue_held = record {
      slots = waiting m;
      good = waiting_good;
      few = few_slots t (waiting m) k.is_sound (queue_parts t m s).keeps (queue_parts t m s).distinct;
      valid = is_held.valid;
      reads = refl;
      is = sym (ap (λ (r : ByteRound). queue_of r (waiting m)) is_held.is ∙ queue_is t m s);
    }

    queue_read : sound_queue T (queue_as m) ≡ true
    unfolding sound_queue
    queue_read =
        and_both _ _
        (and_both _ _
        (all_valid waiting_as (valid_waiting T) (Slot t) (λ w g. slot_is_valid t w g k) (waiting m) waiting_good)
        (distinct_read waiting_as (Slot t) same_waiting (same_waiting_lem t) (waiting m) waiting_good ∙ (queue_parts t m s).distinct))
        is_held.valid

  -- ---- a sound typed queue, written

  slots_written : (ws : List Waiting) → all (valid_waiting T) ws ≡ true → Each (Slot t) (map slot_bytes ws)
  slots_written [] v = tt
  slots_written (w ∷ ws) v = let x = all_parts (valid_waiting T) w ws v in (slot_written t k w x.0, slots_written ws x.1)

  slots_again : (ws : List Waiting) → all (valid_waiting T) ws ≡ true → map waiting_as (map slot_bytes ws) ≡ ws
  slots_again [] v = refl
  slots_again (w ∷ ws) v =
      let x = all_parts (valid_waiting T) w ws v in ap₂ (λ (y : Waiting) (ys : List Waiting). y ∷ ys) (slot_again t k w x.0) (slots_again ws x.1)

  module _ (q : Queue) (v : sound_queue T q ≡ true) where
    abbrev ws : List Row
    ws = map slot_bytes q.waiting

    all_valid_there : all (valid_waiting T) q.waiting ≡ true
    unfolding sound_queue
    all_valid_there = search (and_left, and_right)

    written_good : Each (Slot t) ws
    written_good = slots_written q.waiting all_valid_there

    written_apart : distinct_numbers ws ≡ true
    unfolding sound_queue
    written_apart =
        let apart : distinct same_waiting q.waiting ≡ true = search (and_left, and_right) in
        sym (distinct_read waiting_as (Slot t) same_waiting (same_waiting_lem t) ws written_good)
        ∙ ap (distinct same_waiting) (slots_again q.waiting all_valid_there) ∙ apart

    written_few : length ws ≤ 25
    written_few = few_slots t ws k.is_sound (every_good t ws written_good) written_apart

    written_is : queue_bytes q ≡ queue_of (seat_round q.round) ws
    unfolding queue_bytes queue_of
    written_is =
        ap₂ (λ (n : ℕ) (b : List ℕ). n ∷ (b ++ packed 6500 ws)) (sym (length-map q.waiting slot_bytes)) (sym (round_same q.round))

    written_held : Held t (queue_bytes q) q
    unfolding sound_queue
    written_held = record {
      slots = ws;
      good = written_good;
      few = written_few;
      valid = and_right (all (valid_waiting T) q.waiting && distinct same_waiting q.waiting) _ v;
      reads = sym (slots_again q.waiting all_valid_there);
      is = written_is;
    }

    pub queue_written : queue_sound (rows Creds t) (queue_bytes q) ≡ true
    queue_written =
        ap (queue_sound (rows Creds t)) written_is
        ∙ queue_sound_lem t (seat_round q.round) ws (two_long q.round) written_few (every_good t ws written_good) written_apart

    -- reading is the inverse of writing
    pub queue_again : queue_as (queue_bytes q) ≡ q
    queue_again = held_read t (queue_bytes q) q written_held

-- ---- exactly

module _ (x : ByteTerminal) (i : IsStruct x.tables) (h : is_bytes x.queue ≡ true) where
  abbrev pub y : Terminal
  y = terminal_as x

  given : sound_terminal x ≡ true → Given x.tables
  given s = record { is_sound = (terminal_parts x s).tables; struct = i }

  pub terminal_held : (s : sound_terminal x ≡ true) → Held x.tables x.queue y.queue
  terminal_held s = queue_held x.tables (given s) x.queue h (terminal_parts x s).queue

  -- a sound terminal is the written form of a sound one
  there : sound_terminal x ≡ true → (sound y.tables && sound_queue y.tables y.queue && same_terminal (written_terminal y) x) ≡ true
  there s =
      let t = sym (sound_exact x.tables i) ∙ (terminal_parts x s).tables in
      let tables : sound y.tables ≡ true = and_left _ _ t in
      let alike : same_tables (written_tables y.tables) x.tables ≡ true = and_right (sound y.tables) _ t in
      and_both _ _
      (and_both _ _ tables (queue_read x.tables (given s) x.queue h (terminal_parts x s).queue))
      (and_both _ _ alike
      (ap (λ (b : List ℕ). same b x.queue) (held_written x.tables x.queue y.queue (terminal_held s)) ∙ same_refl x.queue))

  back : (sound y.tables && sound_queue y.tables y.queue && same_terminal (written_terminal y) x) ≡ true → sound_terminal x ≡ true
  back s =
      let tables : sound y.tables ≡ true = search (and_left, and_right) in
      let queue : sound_queue y.tables y.queue ≡ true = search (and_left, and_right) in
      let alike : same_tables (written_tables y.tables) x.tables ≡ true = search (and_left, and_right) in
      let same_queue : same (queue_bytes y.queue) x.queue ≡ true = search (and_left, and_right) in
      let t = sound_exact x.tables i ∙ and_both _ _ tables alike in
      terminal_whole x t
      (ap (queue_sound (rows Creds x.tables)) (sym (same_true _ _ same_queue))
      ∙ queue_written x.tables (record { is_sound = t; struct = i }) y.queue queue)

  pub terminal_exact : sound_terminal x
      ≡ (sound (tables_of x.tables) && sound_queue (tables_of x.tables) (queue_as x.queue) && same_terminal (written_terminal (terminal_as x)) x)
  terminal_exact = test_same _ _ there back

  pub read_terminal_lem : read_terminal x ≡ when (sound_terminal x) y
  unfolding read_terminal
  read_terminal_lem = ap (λ (b : Bool). when b y) (sym terminal_exact)

-- a sound terminal whose queue holds these slots is read as this one
pub read_held : (t : ByteTables) (x : ByteTerminal) → IsStruct x.tables → sound_terminal x ≡ true → (y : Terminal) → tables_of x.tables ≡ y.tables
    → Held t x.queue y.queue → read_terminal x ≡ just y
unfolding when
read_held t x i s y e h =
    let queue = held_read t x.queue y.queue h in
    read_terminal_lem x i (held_bytes t x.queue y.queue h) ∙ rw s (ap just (λ i. record { tables = e i; queue = queue i }))
