-- The records judged in a run are bytes, where those handed in, those judged directly and the queue at the start are.
use Rattle.rows.proofs.Prelude.{◌≡◌, refl, Bool, true, false, List, [], ◌∷◌, ◌++◌, map, ℕ, zero, suc, min, take, drop, get_or, eqb, cond_cases}
use Rattle.rows.specs.Rows.{Row, rows_of, first_row, without}
use Rattle.rules.specs.Bits.{bits}
use Rattle.rules.specs.Record.{credential}
use Rattle.rules_typed.specs.Tables.{is_bytes}
use Rattle.rules_typed.specs.Struct.{AllBytes}
use Rattle.rules_typed.proofs.ByteLaws.{bytes_take, bytes_drop}
use Rattle.rules_terminal.specs.Slots.{record_of, waiting, slot_size, queue_capacity}
use Rattle.rules_terminal.specs.Terminal.{Terminal, Transition}
use Rattle.rules_terminal.specs.Inputs.{Input, hand_in, take_at, direct, records_in}
use Rattle.rules_queue.specs.QueueBytes.{InputBytes as QueueInputBytes}
use Rattle.rules_runs.specs.Events.{Event, enqueued, dequeued, immediate, sent_by, newest_of, requests, judges, event_of, gathered, list_if}
use Rattle.rules_runs.specs.Isolation.{requests_of}
use Rattle.rules_demands.specs.Demands.{InputBytes}

abbrev RecordBytes : List (List ℕ) → Type 0
RecordBytes [] = Unit {0}
RecordBytes (r ∷ rs) = (is_bytes r ≡ true) × RecordBytes rs

abbrev EventBytes : List Event → Type 0
EventBytes [] = Unit {0}
EventBytes (enqueued r ∷ es) = (is_bytes r ≡ true) × EventBytes es
EventBytes (dequeued n clock capacity ∷ es) = EventBytes es
EventBytes (immediate q ∷ es) = (is_bytes q.bytes ≡ true) × EventBytes es

-- ---- the records of a queue

slot_bytes_lem : (w : Row) → is_bytes w ≡ true → is_bytes (record_of w) ≡ true
unfolding record_of
slot_bytes_lem w h = bytes_take (bits (drop 2 w) 0 16) (drop 4 w) (bytes_drop 4 w h)

rows_bytes : (n : ℕ) (b : List ℕ) → is_bytes b ≡ true → RecordBytes (map record_of (rows_of slot_size n b))
unfolding rows_of
rows_bytes zero b h = tt
rows_bytes (suc n) b h = (slot_bytes_lem (take slot_size b) (bytes_take slot_size b h), rows_bytes n (drop slot_size b) (bytes_drop slot_size b h))

queue_bytes_lem : (x : Terminal) → is_bytes x.queue ≡ true → RecordBytes (records_in x)
unfolding waiting
queue_bytes_lem x h = rows_bytes (min (get_or x.queue 0 0) queue_capacity) (drop 4 x.queue) (bytes_drop 4 x.queue h)

-- ---- what is judged

newest_bytes : (n : ℕ) (rs : List (List ℕ)) → RecordBytes rs → is_bytes (newest_of n rs) ≡ true
unfolding newest_of first_row is_bytes
newest_bytes n [] h = refl
newest_bytes n (r ∷ rs) h = cond_cases (λ x. is_bytes x ≡ true) (sent_by n r) (λ _. h.0) (λ _. newest_bytes n rs h.1)

without_bytes : (p : List ℕ → Bool) (rs : List (List ℕ)) → RecordBytes rs → RecordBytes (without p rs)
unfolding without
without_bytes p [] h = tt
without_bytes p (r ∷ rs) h = cond_cases RecordBytes (p r) (λ _. without_bytes p rs h.1) (λ _. (h.0, without_bytes p rs h.1))

requests_bytes : (rs : List (List ℕ)) → RecordBytes rs → (es : List Event) → EventBytes es → AllBytes (requests rs es)
requests_bytes rs h [] e = tt
requests_bytes rs h (enqueued r ∷ es) e = requests_bytes (r ∷ rs) (e.0, h) es e.1
requests_bytes rs h (dequeued n clock capacity ∷ es) e = (newest_bytes n rs h, requests_bytes (without (sent_by n) rs) (without_bytes (sent_by n) rs h) es e)
requests_bytes rs h (immediate q ∷ es) e = (e.0, requests_bytes rs h es e.1)

event_bytes : (b : Bool) (es : List Event) (y : Event) → (EventBytes es → EventBytes (y ∷ es)) → EventBytes es → EventBytes (list_if b y ++ es)
event_bytes true es y f h = f h
event_bytes false es y f h = h

all_events : (is : List Input) (answers : List Transition) → InputBytes is → EventBytes (gathered event_of is answers)
all_events [] answers h = tt
all_events (hand_in r ∷ is) [] h = tt
all_events (take_at clock capacity ∷ is) [] h = tt
all_events (direct q ∷ is) [] h = tt
all_events (hand_in r ∷ is) (a ∷ answers) h =
    event_bytes (eqb a.response.answer 0) (gathered event_of is answers) (enqueued r) (λ e. (h.0, e)) (all_events is answers h.1)
all_events (take_at clock capacity ∷ is) (a ∷ answers) h =
    event_bytes (judges (take_at clock capacity) a) (gathered event_of is answers) (dequeued (credential a.bytes) clock capacity) (λ e. e)
    (all_events is answers h)
all_events (direct q ∷ is) (a ∷ answers) h =
    event_bytes (judges (direct q) a) (gathered event_of is answers) (immediate q) (λ e. (h.0, e)) (all_events is answers h.1)

pub fed_bytes : (x : Terminal) → is_bytes x.queue ≡ true → (is : List Input) (answers : List Transition) → InputBytes is → AllBytes (requests_of x is answers)
fed_bytes x q is answers h = requests_bytes (records_in x) (queue_bytes_lem x q) (gathered event_of is answers) (all_events is answers h)

-- the same premise as rules_queue states it
pub queue_inputs : (is : List Input) → InputBytes is → QueueInputBytes is
queue_inputs [] h = tt
queue_inputs (hand_in r ∷ is) h = (h.0, queue_inputs is h.1)
queue_inputs (take_at clock capacity ∷ is) h = (tt, queue_inputs is h)
queue_inputs (direct q ∷ is) h = (h.0, queue_inputs is h.1)
