-- The terminal: the tables and the queue. One soundness of both, for hand-ins, takes and records that are judged directly.
use Rattle.std.specs.Prelude.{◌*◌, ℕ, ◌≡◌, Bool, false, not, ◌&&◌, cond, List, [], ◌∷◌, ◌++◌, eqb, leb, length, take, drop, get_or}
use Rattle.rows.specs.Rows.{Row, same, has_key, all_zero, first_row, every, distinct_numbers, stored, without}
use Rattle.rules.specs.declared.Tables.{Tables}
use Rattle.rules.specs.declared.Table.TheVariants.{Creds}
use Rattle.rules.specs.declared.Check.{Check}
use Rattle.rules.specs.declared.Check.TheVariants.{Pass, Refuse}
use Rattle.rules.specs.declared.Action.{Action}
use Rattle.rules.specs.Kinds.{on_move}
use Rattle.rules.specs.States.{reset}
use Rattle.rules.specs.Record.{Request, received}
use Rattle.rules.specs.Tables.{rows, sound}
use Rattle.rules.specs.Defaults.{Defaults, fresh}
use Rattle.rules.specs.Action.{action}
use Rattle.rules.specs.Checks.{verdict, is_pass}
use Rattle.rules.specs.Promises.Groups.{sender_checks}
use Rattle.rules.specs.Outcome.{Response, number_response, response_to, tables_after}
use Rattle.rules.specs.Promises.Results.{Result, result_of, result_with}
use Rattle.rules_terminal.specs.declared.Taken.{Taken}
use Rattle.rules_terminal.specs.Slots.{Queue, Seat, Round, after_seat, slot_size, queue_capacity, queue_size, seat_of, padded, slot_of, record_of, round_bytes, round_of, waiting, queue_of, empty_queue}
use Rattle.rules_terminal.specs.Round.{seats, occupied, first_in_turn, same_seats, orphaned, valid_round}
use Rattle.rules.specs.Types.{Answer, Bytes, Checklist, Clock, Size}

pub record Terminal : Type 0 where
  pub tables : Tables
  pub queue : Queue

abbrev pub terminal : Tables → Queue → Terminal
terminal t queue = record { tables = t; queue = queue }

-- ---- soundness

-- the slot keeps a record that passes 2 to 7 with these credential rows, in its sender's seat, with its length before it and zeros after it
unfoldable pub slot_sound : List Row → Row → Bool
slot_sound creds slot = same slot (slot_of (record_of slot)) && is_pass (verdict (sender_checks creds (record_of slot)))

-- bytes of its length: few slots, a round's bytes, zeros after the slots, each slot sound, one for a seat
unfoldable pub queue_sound : List Row → Queue → Bool
queue_sound creds queue =
    eqb (length queue) queue_size
    && leb (get_or queue 0 0) queue_capacity
    && same (take 3 (drop 1 queue)) (round_bytes (round_of queue))
    && all_zero (drop (get_or queue 0 0 * slot_size) (drop 4 queue))
    && every (slot_sound creds) (waiting queue)
    && distinct_numbers (waiting queue)

unfoldable pub sound_terminal : Terminal → Bool
sound_terminal x = sound x.tables && queue_sound (rows Creds x.tables) x.queue

unfoldable pub fresh_terminal : Defaults → Terminal
fresh_terminal d = terminal (fresh d) empty_queue

-- the clear button: tables and queue of any content
unfoldable pub cleared_terminal : Defaults → Terminal → Terminal
cleared_terminal d x = fresh_terminal d

-- ---- the response, and the terminal afterwards

pub record Transition : Type 0 where
  -- the record that a take gives out; none otherwise
  pub bytes : Bytes
  pub response : Response
  pub terminal : Terminal

-- only a number: of a refusal, and 0 of a record that is kept
abbrev pub number_transition : Answer → Terminal → Transition
number_transition answer x = record { bytes = []; response = number_response answer; terminal = x }

-- ---- hand-in

-- 1 to 7, and 26: the sender's seat is occupied
abbrev pub hand_in_checks : Terminal → Bytes → Checklist
hand_in_checks x r = (1, not (sound_terminal x)) ∷ sender_checks (rows Creds x.tables) r ++ (26, occupied (waiting x.queue) (seat_of r)) ∷ []

-- the record waits in its sender's seat
unfoldable pub with_record : Bytes → Queue → Queue
with_record r queue = queue_of (round_of queue) (stored (slot_of r) (waiting queue))

abbrev pub hand_in_of : Terminal → Bytes → Check → Transition
hand_in_of x r Pass = number_transition 0 (terminal x.tables (with_record r x.queue))
hand_in_of x r (Refuse n) = number_transition n x

unfoldable pub handed_in : Terminal → Bytes → Transition
handed_in x r = hand_in_of x r (verdict (hand_in_checks x r))

-- ---- what a judged record leaves of the queue

abbrev pub is_reset : Action → Bool
is_reset = on_move (λ target. eqb target reset) false

-- a permitted record that gives the fresh tables
unfoldable pub clears : Defaults → Tables → Request → Bool
clears d t q = eqb (response_to d t q).answer 0 && is_reset (action q.bytes)

-- the queue after a permitted record, from the round and the slots before it. RESET empties it. It is unchanged if no credential row
-- was added or removed. Otherwise orphaned slots are dropped, and the round starts over if its seat is gone or was not valid before
unfoldable pub queue_after : Defaults → Tables → Request → Round → List Row → Queue
queue_after d t q round slots =
    let t' = tables_after d t q in
    cond (clears d t q) empty_queue
    (cond (same_seats (seats t) (seats t')) (queue_of round slots)
    (queue_of (valid_round (seats t') (valid_round (seats t) round)) (without (orphaned (seats t')) slots)))

abbrev pub terminal_after : Defaults → Tables → Request → Round → List Row → Terminal
terminal_after d t q round slots = terminal (tables_after d t q) (queue_after d t q round slots)

-- ---- take

-- 1, and 27: nothing waits
abbrev pub take_checks : Terminal → Checklist
take_checks x = (1, not (sound_terminal x)) ∷ (27, eqb (length (waiting x.queue)) 0) ∷ []

-- the seat whose turn it is, and the record that waits there
unfoldable pub turn : Terminal → Seat
turn x = first_in_turn (round_of x.queue) (seats x.tables) (waiting x.queue)

unfoldable pub due : Terminal → Bytes
due x = record_of (first_row (has_key 0 (turn x)) (waiting x.queue))

-- the seat is emptied and the round moves on, whatever the record's answer
abbrev pub take_of : Defaults → Terminal → Request → Check → Transition
take_of d x q Pass =
    record {
      bytes = q.bytes;
      response = response_to d x.tables q;
      terminal = terminal_after d x.tables q (after_seat (turn x)) (without (has_key 0 (turn x)) (waiting x.queue));
    }
take_of d x q (Refuse n) = number_transition n x

-- at the take's clock, with a reply buffer of this length
unfoldable pub taken : Defaults → Terminal → Clock → Size → Transition
taken d x clock capacity = take_of d x (received clock (due x) capacity) (verdict (take_checks x))

-- a take that judges gives out the record due; its sender gets its outcome, and the tables are its outcome's
pub record OutcomeOfDue (d : Defaults) (x : Terminal) (clock capacity : ℕ) : Type 0 where
  pub handed : (taken d x clock capacity).bytes ≡ due x
  pub response : (taken d x clock capacity).response ≡ response_to d x.tables (received clock (due x) capacity)
  pub tables : (taken d x clock capacity).terminal.tables ≡ tables_after d x.tables (received clock (due x) capacity)

-- ---- a record that is judged directly

-- 1; the others are those of the outcome
abbrev pub direct_checks : Terminal → Checklist
direct_checks x = (1, not (sound_terminal x)) ∷ []

abbrev pub direct_of : Defaults → Terminal → Request → Check → Transition
direct_of d x q Pass = record { bytes = []; response = response_to d x.tables q; terminal = terminal_after d x.tables q (round_of x.queue) (waiting x.queue) }
direct_of d x q (Refuse n) = number_transition n x

unfoldable pub judged : Defaults → Terminal → Request → Transition
judged d x q = direct_of d x q (verdict (direct_checks x))

-- ---- for contracts: what code returns. The reply's bytes are in the caller's buffer, and the payload is a part of the record

abbrev pub transition_result : Transition → Result
transition_result a = result_of (record { response = a.response; tables = a.terminal.tables })

-- of a take: with it the record, and zeros after it
pub record HandedOut : Type 0 where
  pub judgement : Result
  pub size : Size
  pub bytes : Bytes

abbrev pub handed_out : Transition → HandedOut
handed_out a = record { judgement = transition_result a; size = length a.bytes; bytes = padded a.bytes }

-- what code takes, and the bytes of the rows next to it
abbrev pub taken_of : Taken → Bytes → Bytes → HandedOut
taken_of taken creds aces = record { judgement = result_with taken.judgement creds aces; size = taken.size; bytes = taken.bytes }
