-- Laws of a take, as the code does it: nothing taken, or the record that is due, given out and judged, and its seat left.
use Rattle.rows.proofs.Prelude.{◌≡◌, sym, ap, ap₂, ◌∙◌, true, false, List, ℕ, ◌≤◌, length, take, replicate, eqb}
use Rattle.rows.specs.Rows.{Row, has_key, every, without, distinct_numbers}
use Rattle.rows.proofs.Kept.{every_without, distinct_without}
use Rattle.rules.specs.declared.Tables.{Tables}
use Rattle.rules.specs.declared.Check.{Check}
use Rattle.rules.specs.declared.Check.TheVariants.{Pass, Refuse}
use Rattle.rules.specs.declared.Head.{Head}
use Rattle.rules.specs.declared.Judgement.{Judgement}
use Rattle.rules.specs.Record.{Request, received}
use Rattle.rules.specs.Tables.{rows, tables_of}
use Rattle.rules.specs.Defaults.{Defaults}
use Rattle.rules.specs.Reading.{filled}
use Rattle.rules.specs.Checks.{verdict, number_of}
use Rattle.rules.specs.Outcome.{outcome, response_to}
use Rattle.rules.specs.Promises.Results.{Result, result_of, number_judgement}
use Rattle.rules_terminal.specs.Slots.{Seat, after_seat, padded, round_of, waiting, queue_of}
use Rattle.rules_terminal.specs.Terminal.{Terminal, terminal, slot_sound, sound_terminal, queue_after, take_checks, turn, due, taken, taken_of}
use Rattle.rules_terminal.specs.Calls.{Takes}
use Rattle.rules_terminal.proofs.SlotLaws.{queue_sound_lem, waiting_back, round_back, slots_long}
use Rattle.rules_terminal.proofs.Held.{few_slots}
use Rattle.rules_terminal.proofs.Built.{padded_back}
use Rattle.rules_terminal.proofs.Sound.{Sound, terminal_parts, turn_is, take_passed}
use Rattle.queue.specs.Queue.{IsQueue}
use Rattle.execute.specs.Executed.{IsWholeQueue, LeavesQueue}
use Rattle.queue.proofs.Queues.{queue_queue, sound_queue_lem}
use Rattle.queue_turn.specs.declared.Due.{Due}
use Rattle.queue_turn.specs.Turns.{due_of}
use Rattle.rules.specs.declared.Table.TheVariants.{Creds}

-- ---- the record handed to the decision

module _ (x : Terminal) (q : Due) (is : q ≡ due_of x) where
  prefix_is : take q.size q.bytes ≡ due x
  prefix_is = ap (λ (z : Due). take z.size z.bytes) is ∙ padded_back (due x)

  pub seat_is : q.seat ≡ turn x
  seat_is = ap (λ (z : Due). z.seat) is

  -- its seat emptied, by the seat that was handed out
  pub emptied : (m' : List ℕ) → m' ≡ queue_of (after_seat q.seat) (without (has_key 0 q.seat) (waiting x.queue))
      → m' ≡ queue_of (after_seat (turn x)) (without (has_key 0 (turn x)) (waiting x.queue))
  emptied m' e = e ∙ ap (λ (seat : Seat). queue_of (after_seat seat) (without (has_key 0 seat) (waiting x.queue))) seat_is

-- ---- the seat left

module _ (t : Tables) (m : List ℕ) (h : sound_terminal (terminal t m) ≡ true) (w : eqb (length (waiting m)) 0 ≡ false) where
  abbrev pub others : List Row
  others = without (has_key 0 (turn (terminal t m))) (waiting m)

  s : Sound (terminal t m)
  s = terminal_parts (terminal t m) h

  two : length (turn (terminal t m)) ≡ 2
  two = (turn_is (terminal t m) h w).two

  all : every (slot_sound (rows Creds t)) others ≡ true
  all = every_without (slot_sound (rows Creds t)) (has_key 0 (turn (terminal t m))) (waiting m) s.keeps

  distinct : distinct_numbers others ≡ true
  distinct = distinct_without (has_key 0 (turn (terminal t m))) (waiting m) s.distinct

  few : length others ≤ 25
  few = few_slots t others s.tables all distinct

  pub can_leave : (p : Seat) → p ≡ turn (terminal t m) → IsQueue m × (length p ≡ 2)
  can_leave p e = (sound_queue_lem t m h, ap length e ∙ two)

  module _ (m' : List ℕ) (left : m' ≡ queue_of (after_seat (turn (terminal t m))) others) where
    left_round : round_of m' ≡ after_seat (turn (terminal t m))
    left_round = ap round_of left ∙ round_back (after_seat (turn (terminal t m))) others two

    left_waiting : waiting m' ≡ others
    left_waiting = ap waiting left ∙ waiting_back (after_seat (turn (terminal t m))) others two few (slots_long t others all)

    pub left_whole : IsWholeQueue m'
    left_whole = (
      rw left (queue_queue t (queue_of (after_seat (turn (terminal t m))) others) (queue_sound_lem t (after_seat (turn (terminal t m))) others two few all distinct)),
      left ∙ sym (ap₂ queue_of left_round left_waiting),
    )

    pub left_after : (d : Defaults) (q : Request) (m'' : List ℕ) → LeavesQueue d t q m' m'' → m'' ≡ queue_after d t q (after_seat (turn (terminal t m))) others
    left_after d q m'' e = e ∙ ap₂ (queue_after d t q) left_round left_waiting

-- ---- the take

module _ (d : Defaults) (t : Tables) (m : List ℕ) (clock capacity : ℕ) (c : Check) (told : c ≡ verdict (take_checks (terminal t m))) where
  pub ready : c ≡ Pass → (sound_terminal (terminal t m) ≡ true) × (eqb (length (waiting m)) 0 ≡ false)
  ready e = take_passed (terminal t m) (sym told ∙ e)

  module _ (e : c ≡ Pass) (q : Due) (is : q ≡ due_of (terminal t m)) (bytes : List ℕ) (front : bytes ≡ take q.size q.bytes) where
    abbrev pub handed : Request
    handed = received clock bytes capacity

    handed_is : handed ≡ received clock (due (terminal t m)) capacity
    handed_is = ap (λ (r : List ℕ). received clock r capacity) (front ∙ prefix_is (terminal t m) q is)

    -- by the memory that is left
    pub one_taken : (s : Result) (m' b b' : List ℕ) → s ≡ result_of (outcome d t handed) → b' ≡ filled b (response_to d t handed).contents
        → m' ≡ queue_after d t handed (after_seat (turn (terminal t m))) (without (has_key 0 (turn (terminal t m))) (waiting m))
        → Takes d (terminal t m) clock capacity (record { judgement = s; size = q.size; bytes = q.bytes }) b m' b'
    unfolding taken
    one_taken s m' b b' f g h =
        let v : Pass ≡ verdict (take_checks (terminal t m)) = sym e ∙ told in
        record { hands = rw (f, handed_is, is, ← v); leaves = record { keeps = rw (h, handed_is, ← v); fills = rw (g, handed_is, ← v) } }

pub nothing_taken : (d : Defaults) (f : Head) (cs es m : List ℕ) (clock capacity : ℕ) (c : Check)
    → c ≡ verdict (take_checks (terminal (tables_of f cs es) m)) → (n : ℕ) → c ≡ Refuse n
    → (j : Judgement) → j ≡ number_judgement f (number_of c) → (z : List ℕ) → z ≡ replicate 256 0 → (b : List ℕ)
    → Takes d (terminal (tables_of f cs es) m) clock capacity (taken_of (record { judgement = j; size = 0; bytes = z }) cs es) b m b
unfolding taken padded filled
nothing_taken d f cs es m clock capacity c told n e j i z l b =
    let v : Refuse n ≡ verdict (take_checks (terminal (tables_of f cs es) m)) = sym e ∙ told in
    record { hands = rw (i, e, l, ← v); leaves = record { keeps = rw (← v); fills = rw (← v) } }
