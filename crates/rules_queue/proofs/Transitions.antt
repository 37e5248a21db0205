-- Theorems: in a terminal of any content, what a hand-in, a take and a record judged at once give is what the typed rules give, written;
-- and the terminal that they leave is read as the typed one.
use Rattle.rows.proofs.Prelude.{◌≡◌, refl, sym, ap, ap₂, ◌∙◌, Bool, true, false, List, [], ◌∷◌, ◌++◌, map, ℕ, ◌-◌, ◌≤◌, arith, length, ones}
use Rattle.rows.proofs.Prelude.{eqb, eqb-true, bool_cases, contradiction, replicate, le_trans, subst}
use mathlib.Core.List.{map-append}
use Rattle.rows.specs.Rows.{Row, has_key, some, first_row, stored, without as withoutRows}
use Rattle.rows.proofs.Kept.{length_without}
use Rattle.rows.proofs.Laws.{store_absent}
use Rattle.rules.specs.declared.Sender.{Sender}
use Rattle.rules.specs.declared.Tables.{Tables as ByteTables}
use Rattle.rules.specs.declared.Table.TheVariants.{Creds}
use Rattle.rules.specs.declared.Check.TheVariants.{Pass, Refuse}
use Rattle.rules.specs.Bits.{bits, be16}
use Rattle.rules.specs.Checks.{verdict as verdictBytes, no_credential as noCredentialBytes}
use Rattle.rules.specs.Promises.Groups.{sender_checks}
use Rattle.rules.specs.Defaults.{Defaults, no_defaults, fresh as freshBytes}
use Rattle.rules.specs.Links.{set_of}
use Rattle.rules.specs.Outcome.{Response as ByteResponse, response_to}
use Rattle.rules.specs.Record.{Request as ByteRequest, received, header_of, sender}
use Rattle.rules.specs.Tables.{rows}
use Rattle.rules.proofs.Answers.{passed}
use Rattle.rules.proofs.BitLaws.{bits_small}
use Rattle.rules.proofs.CheckLaws.{check_cases, stop_all, skip_all}
use Rattle.rules_typed.specs.Lists.{Maybe, none, just, is_none, when, any}
use Rattle.rules_typed.specs.Types.{Tables, Record, Request, Verb, Resource, Observe, Security, Roles, Refused, Answer}
use Rattle.rules_typed.specs.Tables.{is_bytes}
use Rattle.rules_typed.specs.Struct.{Given, IsStruct, DefaultBytes}
use Rattle.rules_typed.specs.Reading.{tables_of, read_record, read_fresh}
use Rattle.rules_typed.specs.Writing.{written_tables, written_links}
use Rattle.rules_typed.specs.Bodies.{sender_of, request, request_of, request_by}
use Rattle.rules_typed.specs.Checks.{no_credential, verdict}
use Rattle.rules_typed.proofs.ListLaws.{Each, without_read}
use Rattle.rules_typed.proofs.RowsRead.{each_without, bytes_join, zero_bytes}
use Rattle.rules_typed.proofs.RowWritten.{two_small}
use Rattle.rules_typed.proofs.ChecksRead.{no_credential_lem}
use Rattle.rules_typed.proofs.LinksRead.{form}
use Rattle.rules_typed.proofs.HeaderRead.{form_read, sender_read}
use Rattle.rules_typed.proofs.TablesBack.{tables_back}
use Rattle.rules_typed.proofs.FreshRead.{fresh_read}
use Rattle.rules_typed.proofs.StructKept.{fresh_struct}
use Rattle.rules.proofs.SoundKept.{fresh_sound}
use Rattle.rules_typed.proofs.Verdicts.{verdict_of, verdict_back}
use Rattle.rules_terminal.specs.Slots.{Round as ByteRound, after_seat, waiting, round_of, queue_of, seat_of, slot_of, padded, record_of}
use Rattle.rules_terminal.specs.Round.{seats, occupied, first_in_turn, in_turn as inTurnBytes}
use Rattle.rules_terminal.specs.Slots.{empty_queue as emptyBytes}
use Rattle.rules_terminal.specs.Terminal.{cleared_terminal, fresh_terminal}
use Rattle.rules_terminal.specs.Terminal.{Terminal as ByteTerminal, terminal, Transition as ByteTransition, number_transition, sound_terminal}
use Rattle.rules_terminal.specs.Terminal.{hand_in_checks as handInChecksBytes, handed_in as handedInBytes, with_record, turn, due as dueBytes}
use Rattle.rules_terminal.specs.Terminal.{taken as takenBytes}
use Rattle.rules_terminal.specs.Terminal.{judged as judgedBytes, terminal_after}
use Rattle.rules_terminal.proofs.SlotLaws.{record_back as slot-record, short_record, slot_made}
use Rattle.rules.proofs.Alike.{first_none}
use Rattle.rules_terminal.proofs.Takes.{taken_is}
use Rattle.rules_terminal.proofs.Refused.{take_empty}
use Rattle.rules_terminal.proofs.Held.{few_slots}
use Rattle.rules_terminal.proofs.Sound.{terminal_parts, hand_passed, hand_free, hand_keeps, turn_is, sound_next, fresh_is}
use Rattle.rules_terminal.specs.Inputs.{hand_in, take_at, direct, next as nextBytes}
use Rattle.rules_queue.specs.Queue.{cleared, empty_queue, header_checks}
use Rattle.rules_queue.specs.QueueBytes.{queue_bytes}
use Rattle.rules_queue.specs.Queue.{Waiting, After, Terminal, Transition, places, waits_in, hand_in_checks, waiting_of, keeping, told}
use Rattle.rules_queue.specs.Queue.{hand_in_of, handed_in, judged, in_turn, first_of, due, emptying, record_at, giving, take_of, taken}
use Rattle.rules_queue.specs.QueueBytes.{or_else, waiting_from, waiting_as, queue_as, terminal_as, written_terminal, terminal_or}
use Rattle.rules_queue.specs.QueueBytes.{record_bytes}
use Rattle.rules_queue.specs.QueueBytes.{read_terminal, round_as, Follows}
use Rattle.rules_queue.proofs.RecordRead.{record_at_lem, record_back}
use Rattle.rules_queue.proofs.PlacesRead.{seat_bytes, seat_round, all_seats, seats_read, in_turn_lem}
use Rattle.rules_queue.proofs.SlotsRead.{Slot, front_passes, form_passes, seat_is, slot_form, slot_bytes_lem, slot_valid, waits_read}
use Rattle.rules_queue.proofs.SlotsRead.{occupied_read, Due, due_read, none_due}
use Rattle.rules_queue.proofs.QueueExact.{Held, held_written, waiting_good, is_held, held_bytes, terminal_held, read_terminal_lem, read_held}
use Rattle.rules_queue.proofs.AfterRead.{kept_given, response_written, left_is, left_written, left_read, left_bytes}

-- ---- a request, as it waits

contradiction_just : {A B : Type 0} {x : A} → none ≡ just x → B
contradiction_just h = contradiction refl (ap is_none h)

kept_by : (x : Record) (v : Maybe Verb) (e : Maybe Resource) (a : Request) → request_by x v e ≡ just a
    → waiting_of a ≡ record { sender = sender_of x; verb = or_else v Observe; resource = or_else e (Security Roles); body = x.body }
kept_by x none e a h = contradiction_just h
kept_by x (just v) none a h = contradiction_just h
kept_by x (just v) (just e) a h = ap (λ (m : Maybe Request). waiting_of (or_else m a)) (sym h)

asked_by : (x : Record) (v : Maybe Verb) (e : Maybe Resource) → is_none v ≡ false → is_none e ≡ false → (a : Request) × (request_by x v e ≡ just a)
asked_by x none e p q = contradiction refl p
asked_by x (just v) none p q = contradiction refl q
asked_by x (just v) (just e) p q = (request x v e, refl)

each_end : (Q : Row → Type 0) (ws : List Row) (w : Row) → Each Q ws → Q w → Each Q (ws ++ w ∷ [])
each_end Q [] w q h = (h, tt)
each_end Q (v ∷ ws) w q h = (q.0, each_end Q ws w q.1 h)

slot_good : (r : List ℕ) → is_bytes r ≡ true → length r ≤ 256 → is_bytes (slot_of r) ≡ true
unfolding slot_of padded seat_of
slot_good r b l =
    bytes_join (be16 (bits r 16 16)) _ (two_small (bits r 16 16) (bits_small r 16 16))
    (bytes_join (be16 (length r)) _ (two_small (length r) (omega arith)) (bytes_join r (replicate (256 - length r) 0) b (zero_bytes (256 - length r))))

same_struct : (y z : ByteTerminal) → y ≡ z → IsStruct y.tables → IsStruct z.tables
same_struct y z p j = subst (λ (v : ByteTerminal). IsStruct v.tables) p j

no_rows : (ws : List Row) → length ws ≡ 0 → ws ≡ []
no_rows [] e = refl
no_rows (w ∷ ws) e = absurd (omega (arith, e))

no_length : (p : List ℕ) → length p ≡ 2 → p ≡ [] → ⊥
no_length p l e = absurd (omega (arith, l, ap length e))

module _ (x : ByteTerminal) (i : IsStruct x.tables) (h : is_bytes x.queue ≡ true) where
  abbrev t : ByteTables
  t = x.tables

  abbrev m : List ℕ
  m = x.queue

  module _ (s : sound_terminal x ≡ true) where
    g : Given t
    g = record { is_sound = (terminal_parts x s).tables; struct = i }

    -- the terminal read, written, is the terminal
    pub terminal_back : written_terminal (terminal_as x) ≡ x
    terminal_back = ap₂ terminal (tables_back t g) (held_written t m (queue_as m) (terminal_held x i h s))

    read_back : read_terminal x ≡ just (terminal_as x)
    unfolding when
    read_back = rw (read_terminal_lem x i h, s)

    -- a number alone
    pub stays : (n : Answer) → Follows x (number_transition n x) (told n (just (terminal_as x)))
    unfolding written_links set_of ones
    stays n = record { is_written = ap (number_transition n) (sym terminal_back); is_read = read_back; struct = i; bytes = h }

    -- ---- a hand-in

    module _ (r : List ℕ) (b : is_bytes r ≡ true) (clock capacity : ℕ) where
      abbrev X : Record
      X = read_record (received clock r capacity)

      abbrev rest : List (ℕ × Bool)
      rest = (7, no_credential (tables_of t) (sender_of X)) ∷ (26, any (waits_in (sender_of X)) (queue_as m).waiting) ∷ []

      abbrev rest_bytes : List (ℕ × Bool)
      rest_bytes = (7, noCredentialBytes (rows Creds t) (header_of r)) ∷ (26, occupied (waiting m) (seat_of r)) ∷ []

      rest_read : verdictBytes (form r) ≡ Pass → rest ≡ rest_bytes
      unfolding noCredentialBytes sender_of
      rest_read f =
          let q = received clock r capacity in
          ap₂ (λ (a c : Bool). (7, a) ∷ (26, c) ∷ [])
          (ap (no_credential (tables_of t)) (sender_read q) ∙ no_credential_lem t g (sender r))
          (occupied_read t (waiting m) (waiting_good t g m h (terminal_parts x s).queue) (sender_of X) ∙ ap (occupied (waiting m)) (sym (seat_is r f)))

      checks_same : verdictBytes (hand_in_checks (just (terminal_as x)) X) ≡ verdictBytes (handInChecksBytes x r)
      unfolding verdictBytes
      checks_same =
          rw s
          (check_cases (verdictBytes (form r))
          (λ f. let f' : verdictBytes (header_checks X) ≡ Pass = ap verdictBytes (sym (form_read (received clock r capacity))) ∙ f in
          sym (skip_all (header_checks X) rest refl f' refl) ∙ ap verdictBytes (rest_read f) ∙ skip_all (form r) rest_bytes refl f refl)
          (λ n f. let f' : verdictBytes (header_checks X) ≡ Refuse n = ap verdictBytes (sym (form_read (received clock r capacity))) ∙ f in
          sym (stop_all (header_checks X) rest n refl f') ∙ f' ∙ sym f ∙ stop_all (form r) rest_bytes n refl f))

      -- the record is kept
      module _ (v : verdictBytes (handInChecksBytes x r) ≡ Pass) where
        passes : verdictBytes (sender_checks (rows Creds t) r) ≡ Pass
        passes = hand_passed x r v

        passes_form : verdictBytes (header_checks X) ≡ Pass
        passes_form = ap verdictBytes (sym (form_read (received clock r capacity))) ∙ front_passes (form r) _ passes

        is_asked : (a : Request) × (request_of X ≡ just a)
        is_asked = asked_by X X.verb X.resource (passed (header_checks X) passes_form 3) (passed (header_checks X) passes_form 6)

        short : length r ≤ 256
        short = short_record (rows Creds t) r passes

        waits_as : waiting_as (slot_of r) ≡ waiting_of is_asked.0
        unfolding waiting_as sender_of
        waits_as =
            ap (λ (c : List ℕ). waiting_from (read_record (received 0 c 0))) (slot-record r short) ∙ sym (kept_by X X.verb X.resource is_asked.0 is_asked.1)

        abbrev slots : List Row
        slots = waiting m ++ slot_of r ∷ []

        stored_is : stored (slot_of r) (waiting m) ≡ slots
        stored_is = store_absent (slot_of r) (waiting m) (hand_free x r v)

        kept_held : Held t (with_record r m) (keeping is_asked.0 (terminal_as x)).queue
        unfolding with_record
        kept_held =
            let round = is_held t g m h (terminal_parts x s).queue in
            record {
              slots = slots;
              good = each_end (Slot t) (waiting m) (slot_of r) (waiting_good t g m h (terminal_parts x s).queue) (slot_made t r passes, slot_good r b short);
              few = rw (← stored_is) (hand_keeps x r s v).1;
              valid = round.valid;
              reads = ap (λ (w : Waiting). map waiting_as (waiting m) ++ w ∷ []) (sym waits_as) ∙ sym (map-append waiting_as (waiting m) (slot_of r ∷ []));
              is = ap₂ queue_of (sym round.is) stored_is;
            }

        kept_sound : sound_terminal (terminal t (with_record r m)) ≡ true
        unfolding handedInBytes
        kept_sound = rw (v, nextBytes) at (sound_next no_defaults x (hand_in r) s)

        keeps : Follows x (number_transition 0 (terminal t (with_record r m))) (told 0 (just (keeping is_asked.0 (terminal_as x))))
        unfolding written_links set_of ones
        keeps = record {
          is_written = ap (number_transition 0) (sym (ap₂ terminal (tables_back t g) (held_written t (with_record r m) _ kept_held)));
          is_read = read_held t (terminal t (with_record r m)) i kept_sound (keeping is_asked.0 (terminal_as x)) refl kept_held;
          struct = i;
          bytes = held_bytes t (with_record r m) _ kept_held;
        }

      refused_in : (n : ℕ) (a : Maybe Request) → hand_in_of (just (terminal_as x)) a (Refused n) ≡ told n (just (terminal_as x))
      refused_in n none = refl
      refused_in n (just a) = refl

      hand_in_sound : Follows x (handedInBytes x r) (handed_in (just (terminal_as x)) X)
      unfolding handedInBytes handed_in
      hand_in_sound =
          let back = verdict_back (hand_in_checks (just (terminal_as x)) X) ∙ ap verdict_of checks_same in
          check_cases (verdictBytes (handInChecksBytes x r))
          (λ v. rw (back, v, (is_asked v).1) (keeps v))
          (λ n v. rw (back, v, refused_in n (request_of X)) (stays n))

  -- not sound: 1, and it stays
  unsound_stays : sound_terminal x ≡ false → Follows x (number_transition 1 x) (told 1 none)
  unfolding written_links set_of ones when
  unsound_stays u = record { is_written = refl; is_read = rw (read_terminal_lem x i h, u); struct = i; bytes = h }

  hand_in_unsound : (r : List ℕ) (clock capacity : ℕ) → sound_terminal x ≡ false
      → Follows x (handedInBytes x r) (handed_in (read_terminal x) (read_record (received clock r capacity)))
  unfolding handedInBytes handed_in verdictBytes verdict when
  hand_in_unsound r clock capacity u = rw (read_terminal_lem x i h, u) (unsound_stays u)

  -- a record of bytes is handed in, whatever the clock and the buffer
  pub hand_in_follows : (r : List ℕ) → is_bytes r ≡ true → (clock capacity : ℕ)
      → Follows x (handedInBytes x r) (handed_in (read_terminal x) (read_record (received clock r capacity)))
  unfolding when
  hand_in_follows r b clock capacity =
      bool_cases (sound_terminal x)
      (λ s. rw (read_back s) (hand_in_sound s r b clock capacity))
      (λ u. hand_in_unsound r clock capacity u)

  -- ---- a record that is judged at once

  module _ (d : Defaults) (e : DefaultBytes d) where
    abbrev first : Tables
    first = read_fresh d

    judged_sound : (s : sound_terminal x ≡ true) (q : ByteRequest) → is_bytes q.bytes ≡ true
        → Follows x (judgedBytes d x q) (judged first (just (terminal_as x)) (read_record q))
    unfolding judgedBytes verdictBytes
    judged_sound s q b =
        let k = is_held t (g s) m h (terminal_parts x s).queue in
        let ws = waiting m in
        let good = waiting_good t (g s) m h (terminal_parts x s).queue in
        let few = few_slots t ws (terminal_parts x s).tables (terminal_parts x s).keeps (terminal_parts x s).distinct in
        let is = left_is d e t (g s) q b (round_as (round_of m)) k.valid ws good few in
        let left = left_written d e t (g s) q b (round_as (round_of m)) k.valid ws good few in
        let same : terminal_after d t q (seat_round (round_as (round_of m))) ws ≡ (judgedBytes d x q).terminal =
        ap (λ (r : ByteRound). terminal_after d t q r ws) k.is ∙ rw s in
        let sound-left = ap sound_terminal same ∙ sound_next d x (direct q) s in
        record {
          is_written =
              rw s
              (ap₂ (λ (r : ByteResponse) (y : ByteTerminal). record { bytes = []; response = r; terminal = y }) (sym (response_written d e t (g s) q b))
              (ap (λ (r : ByteRound). terminal_after d t q r ws) (sym k.is) ∙ sym left ∙ ap (terminal_or x) (sym is)));
          is_read = ap read_terminal (sym same) ∙ left_read d e t (g s) q b (round_as (round_of m)) k.valid ws good few sound-left ∙ sym is;
          struct = same_struct (terminal_after d t q (seat_round (round_as (round_of m))) ws) (judgedBytes d x q).terminal same (kept_given d e t (g s) q b).struct;
          bytes = ap (λ (y : ByteTerminal). is_bytes y.queue) (sym same) ∙ left_bytes d e t (g s) q b (round_as (round_of m)) k.valid ws good few;
        }

    judged_unsound : (q : ByteRequest) → sound_terminal x ≡ false → Follows x (judgedBytes d x q) (judged first (read_terminal x) (read_record q))
    unfolding judgedBytes verdictBytes when
    judged_unsound q u = rw (read_terminal_lem x i h, u) (unsound_stays u)

    pub judged_follows : (q : ByteRequest) → is_bytes q.bytes ≡ true → Follows x (judgedBytes d x q) (judged first (read_terminal x) (read_record q))
    judged_follows q b =
        bool_cases (sound_terminal x) (λ s. rw (read_back s) (judged_sound s q b)) (λ u. judged_unsound q u)

    -- ---- a take

    module _ (s : sound_terminal x ≡ true) (clock capacity : ℕ) where
      abbrev ws : List Row
      ws = waiting m

      abbrev y : Terminal
      y = terminal_as x

      nothing : eqb (length ws) 0 ≡ true → Follows x (takenBytes d x clock capacity) (taken first (just y) clock capacity)
      nothing n =
          let empty : ws ≡ [] = no_rows ws (eqb-true (length ws) 0 n) in
          let none_there : due y ≡ none =
          ap (λ (vs : List Row). first_of (map waiting_as vs) (in_turn y.queue.round (places y.tables))) empty
          ∙ none_due t (in_turn y.queue.round (places y.tables)) in
          rw (take_empty d x clock capacity s (eqb-true (length ws) 0 n), none_there) (stays s 27)

      module _ (n : eqb (length ws) 0 ≡ false) where
        good : Each (Slot t) ws
        good = waiting_good t (g s) m h (terminal_parts x s).queue

        abbrev turns : List Sender
        turns = in_turn (round_as (round_of m)) (places (tables_of t))

        turns_read : inTurnBytes (round_of m) (seats t) ≡ all_seats turns
        turns_read = ap₂ inTurnBytes (sym (is_held t (g s) m h (terminal_parts x s).queue).is) (seats_read t (g s)) ∙ in_turn_lem (round_as (round_of m)) (places (tables_of t))

        turn_read : turn x ≡ first_row (occupied ws) (all_seats turns)
        unfolding turn first_in_turn
        turn_read = ap (first_row (occupied ws)) turns_read

        some_turn : some (occupied ws) (all_seats turns) ≡ true
        some_turn =
            bool_cases (some (occupied ws) (all_seats turns)) (λ f. f)
            (λ f. let gone : turn x ≡ [] = turn_read ∙ first_none (occupied ws) (all_seats turns) f in
            absurd (no_length (turn x) (turn_is x s n).two gone))

        is_due : Due t ws turns
        is_due = due_read t ws good turns some_turn

        abbrev w₀ : Row
        w₀ = first_row (has_key 0 (first_row (occupied ws) (all_seats turns))) ws

        abbrev w : Waiting
        w = waiting_as w₀

        abbrev seat : List ℕ
        seat = seat_bytes w.sender

        abbrev r : List ℕ
        r = record_of w₀

        abbrev q : ByteRequest
        q = received clock r capacity

        seat_turn : turn x ≡ seat
        seat_turn = turn_read ∙ is_due.seat

        record_due : dueBytes x ≡ r
        unfolding dueBytes
        record_due = ap (λ (p : List ℕ). record_of (first_row (has_key 0 p) ws)) turn_read

        -- a take that gives out this record from this seat
        abbrev gives : List ℕ → List ℕ → ByteTransition
        gives p c = record {
          bytes = c;
          response = response_to d t (received clock c capacity);
          terminal = terminal_after d t (received clock c capacity) (after_seat p) (withoutRows (has_key 0 p) ws);
        }

        taken_gives : takenBytes d x clock capacity ≡ gives seat r
        taken_gives = taken_is d x clock capacity s n ∙ ap₂ gives seat_turn record_due

        record_as : record_at clock capacity w ≡ read_record q
        unfolding waiting_as
        record_as = sym (record_at_lem clock capacity r (form_passes r (slot_form t w₀ is_due.slot)))

        abbrev others : List Row
        others = withoutRows (has_key 0 seat) ws

        emptied : emptying w y ≡ record { tables = tables_of t; queue = record { waiting = map waiting_as others; round = After w.sender } }
        emptied =
            ap (λ (vs : List Waiting). record { tables = tables_of t; queue = record { waiting = vs; round = After w.sender } })
            (without_read waiting_as (Slot t) (has_key 0 seat) (waits_in w.sender) (λ v k. waits_read t v k w.sender) ws good)

        record_given_lem : record_bytes w ≡ r
        unfolding waiting_as
        record_given_lem = record_back 0 0 r (form_passes r (slot_form t w₀ is_due.slot)) (slot_bytes_lem t w₀ is_due.slot)

        -- and typed, in the terminal without it
        abbrev z : Terminal
        z = record { tables = tables_of t; queue = record { waiting = map waiting_as others; round = After w.sender } }

        typed_gives : taken first (just y) clock capacity ≡ giving w (judged first (just z) (read_record q))
        typed_gives =
            ap (take_of first y clock capacity) is_due.first
            ∙ ap₂ (λ (v : Terminal) (c : Record). giving w (judged first (just v) c)) emptied record_as

        gives_follows : Follows x (gives seat r) (giving w (judged first (just z) (read_record q)))
        gives_follows =
            let slot = is_due.slot in
            let b = slot_bytes_lem t w₀ slot in
            let valid = slot_valid t w₀ slot in
            let G = g s in
            let others-good = each_without (Slot t) (has_key 0 seat) ws good in
            let few = le_trans (length_without (has_key 0 seat) ws)
            (few_slots t ws (terminal_parts x s).tables (terminal_parts x s).keeps (terminal_parts x s).distinct) in
            let is = left_is d e t G q b (After w.sender) valid others others-good few in
            let left = left_written d e t G q b (After w.sender) valid others others-good few in
            let sound-left = ap (λ (a : ByteTransition). sound_terminal a.terminal) (sym taken_gives) ∙ sound_next d x (take_at clock capacity) s in
            let read = left_read d e t G q b (After w.sender) valid others others-good few sound-left in
            let bytes = sym record_given_lem in
            let response = sym (response_written d e t G q b) in
            let afterwards = sym left ∙ ap (terminal_or x) (sym is) in
            record {
              is_written = λ j. record { bytes = bytes j; response = response j; terminal = afterwards j };
              is_read = read ∙ sym is;
              struct = (kept_given d e t G q b).struct;
              bytes = left_bytes d e t G q b (After w.sender) valid others others-good few;
            }

      taken_sound : Follows x (takenBytes d x clock capacity) (taken first (just y) clock capacity)
      taken_sound =
          bool_cases (eqb (length ws) 0) nothing
          (λ n. subst (λ (a : ByteTransition). Follows x a (taken first (just y) clock capacity)) (sym (taken_gives n))
          (subst (λ (a : Transition). Follows x (gives n (seat n) (r n)) a) (sym (typed_gives n)) (gives_follows n)))

    taken_unsound : (clock capacity : ℕ) → sound_terminal x ≡ false → Follows x (takenBytes d x clock capacity) (taken first (read_terminal x) clock capacity)
    unfolding takenBytes verdictBytes when
    taken_unsound clock capacity u = rw (read_terminal_lem x i h, u) (unsound_stays u)

    pub taken_follows : (clock capacity : ℕ) → Follows x (takenBytes d x clock capacity) (taken first (read_terminal x) clock capacity)
    taken_follows clock capacity =
        bool_cases (sound_terminal x) (λ s. rw (read_back s) (taken_sound s clock capacity)) (λ u. taken_unsound clock capacity u)

-- ---- the clear button

empty_written : queue_bytes empty_queue ≡ emptyBytes
unfolding queue_bytes queue_of
empty_written = fresh_is

-- a terminal of any content becomes the fresh one
pub clear_written : (d : Defaults) → DefaultBytes d → (x : ByteTerminal) → cleared_terminal d x ≡ written_terminal (cleared (read_fresh d) (read_terminal x))
unfolding cleared_terminal fresh_terminal
clear_written d e x =
    ap₂ terminal (sym (tables_back (freshBytes d) (record { is_sound = fresh_sound d; struct = fresh_struct d e })) ∙ ap written_tables (fresh_read d e)) (sym empty_written)
