-- The slots of a sound queue, read: each keeps a record that passes 2 to 7, in its sender's place; written, it is the slot.
use Rattle.rows.proofs.Prelude.{◌≡◌, refl, sym, ap, ap₂, ◌∙◌, Bool, true, false, List, [], ◌∷◌, ◌++◌, map, ℕ, ◌-◌, ◌≤◌, ◌<◌, arith, length}
use Rattle.rows.proofs.Prelude.{take, drop, eqb, eqb-true, bool_cases, contradiction, and_left, and_right, and_both, not-false, lt-ltb, le-leb}
use Rattle.rows.proofs.Prelude.{length-drop, leb-true, not-true, replicate}
use Rattle.rows.specs.Rows.{Row, has_key, numbered_as, some, first_row}
use Rattle.rules.specs.declared.Sender.{Sender}
use Rattle.rules.specs.declared.Tables.{Tables as ByteTables}
use Rattle.rules.specs.declared.Table.TheVariants.{Creds}
use Rattle.rules.specs.declared.Check.TheVariants.{Pass}
use Rattle.rules.specs.Bits.{bits, be16}
use Rattle.rules.specs.Bodies.{row_number}
use Rattle.rules.specs.Checks.{verdict as verdictBytes, no_credential as noCredentialBytes}
use Rattle.rules.specs.Record.{received, credential, header_of}
use Rattle.rules.specs.Tables.{rows}
use Rattle.rules.specs.Promises.Groups.{sender_checks}
use Rattle.rules.proofs.Answers.{passed}
use Rattle.rules.proofs.BitLaws.{bits_small}
use Rattle.rules.proofs.OwnRow.{first_passes}
use Rattle.rules_typed.specs.Lists.{none, just, any, find}
use Rattle.rules_typed.specs.Types.{Record, Connection, AnonClear, AuthCrypt}
use Rattle.rules_typed.specs.Tables.{is_bytes, is_number}
use Rattle.rules_typed.specs.Struct.{Given}
use Rattle.rules_typed.specs.Reading.{tables_of, read_record}
use Rattle.rules_typed.specs.Bodies.{sender_of, sender_over}
use Rattle.rules_typed.specs.Checks.{agree}
use Rattle.rules_typed.proofs.ListLaws.{Each, any_read, find_read}
use Rattle.rules_typed.proofs.ByteLaws.{Good, bytes_take, bytes_drop, numbered_read, number_read}
use Rattle.rules_typed.proofs.LinksRead.{form}
use Rattle.rules_typed.proofs.HeaderRead.{form_read}
use Rattle.rules_typed.proofs.RowWritten.{word_read, two_small}
use Rattle.rules_typed.proofs.RowsRead.{bytes_join, zero_bytes}
use Rattle.rules_terminal.specs.Slots.{record_of, seat_of, slot_of, padded}
use Rattle.rules_terminal.specs.Round.{seats, is_seat, occupied}
use Rattle.rules_terminal.specs.Terminal.{slot_sound}
use Rattle.rules_terminal.proofs.SlotLaws.{slot_parts, slot_length, slot_key, short_record, slot_made, record_back as slot-record}
use Rattle.rules_terminal.proofs.Held.{slot_held, held_is}
use Rattle.rules_queue.specs.Queue.{Waiting, header_checks, sender_number, is_place, waits_in, valid_sender, valid_waiting, same_waiting, first_of, record_at}
use Rattle.rules_queue.specs.QueueBytes.{record_bytes, slot_bytes, waiting_from, waiting_as}
use Rattle.rules_queue.proofs.RecordRead.{sender_over_lem, sender_fits, record_back, record_again, waiting_again, passes_again, record_bytes_lem}
use Rattle.rules_queue.proofs.RecordRead.{record_long, sender_small}
use Rattle.rules_queue.proofs.PlacesRead.{seat_bytes, all_seats, place_read}

-- a list of checks that passes, passes at its start
pub front_passes : (xs ys : List (ℕ × Bool)) → verdictBytes (xs ++ ys) ≡ Pass → verdictBytes xs ≡ Pass
unfolding verdictBytes
front_passes [] ys p = refl
front_passes ((n, true) ∷ xs) ys p = p
front_passes ((n, false) ∷ xs) ys p = front_passes xs ys p

valid_over : (c : Connection) (n : ℕ) → n < 65536 → agree c n ≡ true → valid_sender (sender_over c n) ≡ true
unfolding is_number
valid_over AnonClear n l a = refl
valid_over AuthCrypt n l a = and_both _ _ a (lt-ltb n 65536 l)

-- ---- a record of bytes that passes 2 to 6

module _ (r : List ℕ) (p : verdictBytes (form r) ≡ Pass) where
  abbrev x : Record
  x = read_record (received 0 r 0)

  pub form_passes : verdictBytes (header_checks x) ≡ Pass
  form_passes = ap verdictBytes (sym (form_read (received 0 r 0))) ∙ p

  pub number_is : sender_number (sender_of x) ≡ credential r
  number_is = ap sender_number (sender_over_lem x form_passes) ∙ (sender_fits x form_passes).numbers

  pub sender_valid : valid_sender (sender_of x) ≡ true
  sender_valid =
      ap valid_sender (sender_over_lem x form_passes)
      ∙ valid_over x.connection x.credential (bits_small r 16 16) (not-false _ (passed (header_checks x) form_passes 5))

  pub seat_is : seat_of r ≡ seat_bytes (sender_of x)
  unfolding seat_of
  seat_is = ap be16 (sym number_is)

-- ---- a sound slot of bytes

module _ (t : ByteTables) where
  abbrev pub Slot : Row → Type 0
  Slot w = Good (slot_sound (rows Creds t)) w

  module _ (w : Row) (g : Slot w) where
    abbrev r : List ℕ
    r = record_of w

    pub slot_passes : verdictBytes (sender_checks (rows Creds t) r) ≡ Pass
    slot_passes = (slot_parts t w g.0).passes

    pub slot_form : verdictBytes (form r) ≡ Pass
    slot_form = front_passes (form r) _ slot_passes

    pub slot_bytes_lem : is_bytes r ≡ true
    unfolding record_of
    slot_bytes_lem = bytes_take (bits (drop 2 w) 0 16) (drop 4 w) (bytes_drop 4 w g.1)

    pub slot_two : 2 ≤ length w
    slot_two = omega (arith, slot_length t w g.0)

    pub slot_sender : take 2 w ≡ seat_bytes (waiting_as w).sender
    unfolding waiting_as
    slot_sender = slot_key t w g.0 ∙ seat_is r slot_form

    pub slot_number : row_number w ≡ sender_number (waiting_as w).sender
    slot_number = word_read w g.1 0 (sender_number (waiting_as w).sender) (omega (arith, slot_two)) slot_sender

    pub slot_valid : valid_sender (waiting_as w).sender ≡ true
    unfolding waiting_as
    slot_valid = sender_valid r slot_form

    -- written, it is the slot
    pub slot_back : slot_bytes (waiting_as w) ≡ w
    unfolding slot_bytes waiting_as slot_of padded
    slot_back =
        rw (record_back 0 0 r (form_passes r slot_form) slot_bytes_lem, ← seat_is r slot_form) (sym (slot_parts t w g.0).is)

    pub waits_read : (s : Sender) → waits_in s (waiting_as w) ≡ has_key 0 (seat_bytes s) w
    waits_read s = sym (numbered_read w g.1 slot_two (sender_number s) ∙ ap (λ (n : ℕ). eqb n (sender_number s)) slot_number)

    -- of any tables, whether its sender has a place there
    pub held_read : (u : ByteTables) → Given u → is_place (tables_of u) (waiting_as w).sender ≡ is_seat (seats u) (take 2 w)
    held_read u k = sym (ap (is_seat (seats u)) slot_sender ∙ place_read u k (waiting_as w).sender)

    pub slot_is_valid : Given t → valid_waiting (tables_of t) (waiting_as w) ≡ true
    unfolding valid_waiting waiting_as
    slot_is_valid k =
        let short = short_record (rows Creds t) r slot_passes in
        and_both _ _
        (and_both _ _ (and_both _ _ slot_valid (le-leb (length (drop 4 r)) 252 (omega (arith, length-drop 4 r)))) (bytes_drop 4 r slot_bytes_lem))
        (held_read t k ∙ slot_held t w g.0)

  pub same_waiting_lem : (v w : Row) → Slot v → Slot w → same_waiting (waiting_as v) (waiting_as w) ≡ numbered_as v w
  same_waiting_lem v w g h = sym (number_read w h.1 (slot_two w h) v g.1 (slot_two v g) ∙ ap₂ eqb (slot_number w h) (slot_number v g))

  -- ---- whose turn it is

  pub occupied_read : (ws : List Row) → Each Slot ws → (s : Sender) → any (waits_in s) (map waiting_as ws) ≡ occupied ws (seat_bytes s)
  unfolding occupied
  occupied_read ws q s = any_read waiting_as Slot (has_key 0 (seat_bytes s)) (waits_in s) (λ w g. waits_read w g s) ws q

  -- the slot that is due, of these places
  abbrev due_slot : List Row → List Sender → Row
  due_slot ws ss = first_row (has_key 0 (first_row (occupied ws) (all_seats ss))) ws

  each_first : (Q : Row → Type 0) (p : Row → Bool) (ws : List Row) → Each Q ws → some p ws ≡ true → Q (first_row p ws)
  unfolding some first_row
  each_first Q p [] q h = contradiction h refl
  each_first Q p (w ∷ ws) q h = bool_cases (p w) (λ e. rw e q.0) (λ e. rw e (each_first Q p ws q.1 (rw e at h)))

  pub record Due (ws : List Row) (ss : List Sender) : Type 0 where
    pub slot : Slot (due_slot ws ss)
    pub first : first_of (map waiting_as ws) ss ≡ just (waiting_as (due_slot ws ss))
    pub seat : first_row (occupied ws) (all_seats ss) ≡ seat_bytes (waiting_as (due_slot ws ss)).sender

  due_here : (ws : List Row) → Each Slot ws → (s : Sender) (ss : List Sender) → occupied ws (seat_bytes s) ≡ true → Due ws (s ∷ ss)
  unfolding first_row first_of occupied
  due_here ws q s ss e =
      let p : Row → Bool = has_key 0 (seat_bytes s) in
      let turn : first_row (occupied ws) (all_seats (s ∷ ss)) ≡ seat_bytes s = rw e in
      let slot = each_first Slot p ws q e in
      let found : find (waits_in s) (map waiting_as ws) ≡ just (waiting_as (first_row p ws)) =
      find_read waiting_as Slot p (waits_in s) (λ w g. waits_read w g s) ws q ∙ rw e in
      let number = eqb-true _ _ (waits_read (first_row p ws) slot s ∙ first_passes p ws e) in
      record {
        slot = rw turn slot;
        first = rw (turn, occupied_read ws q s, e) found;
        seat = rw turn (ap be16 (sym number));
      }

  pub due_read : (ws : List Row) → Each Slot ws → (ss : List Sender) → some (occupied ws) (all_seats ss) ≡ true → Due ws ss
  unfolding some first_row first_of
  due_read ws q [] h = contradiction h refl
  due_read ws q (s ∷ ss) h =
      bool_cases (occupied ws (seat_bytes s))
      (due_here ws q s ss)
      (λ e. let more = due_read ws q ss (rw e at h) in
      let same : first_row (occupied ws) (all_seats (s ∷ ss)) ≡ first_row (occupied ws) (all_seats ss) = rw e in
      record { slot = rw same more.slot; first = rw (same, occupied_read ws q s, e) more.first; seat = rw same more.seat })

  -- nothing is due where nothing waits
  pub none_due : (ss : List Sender) → first_of [] ss ≡ none
  unfolding first_of any
  none_due [] = refl
  none_due (s ∷ ss) = none_due ss

-- ---- a valid record, written as a slot

module _ (t : ByteTables) (k : Given t) (w : Waiting) (v : valid_waiting (tables_of t) w ≡ true) where
  valid_sender_lem : valid_sender w.sender ≡ true
  unfolding valid_waiting
  valid_sender_lem = search (and_left, and_right)

  valid_body : is_bytes w.body ≡ true
  unfolding valid_waiting
  valid_body = search (and_left, and_right)

  valid_short : length w.body ≤ 252
  unfolding valid_waiting
  valid_short = leb-true (length w.body) 252 (search (and_left, and_right))

  valid_place : is_place (tables_of t) w.sender ≡ true
  unfolding valid_waiting
  valid_place = search (and_left, and_right)

  abbrev b : List ℕ
  b = record_bytes w

  is_at : read_record (received 0 b 0) ≡ record_at 0 0 w
  is_at = record_again w valid_sender_lem valid_body 0 0

  passes_form : verdictBytes (form b) ≡ Pass
  passes_form = ap verdictBytes (form_read (received 0 b 0) ∙ ap header_checks is_at) ∙ passes_again w valid_sender_lem valid_body 0 0 valid_short

  seat_written : seat_of b ≡ seat_bytes w.sender
  unfolding seat_of
  seat_written = ap (λ (x : Record). be16 x.credential) is_at

  passes_written : verdictBytes (sender_checks (rows Creds t) b) ≡ Pass
  unfolding verdictBytes
  passes_written =
      let by = passed (form b) passes_form in
      let held = held_is t b (omega (arith, record_long w valid_sender_lem valid_body)) (by 5) in
      let there : noCredentialBytes (rows Creds t) (header_of b) ≡ false =
      not-true _ (sym held ∙ ap (is_seat (seats t)) seat_written ∙ place_read t k w.sender ∙ valid_place) in
      rw (by 2, by 3, by 4, by 5, by 6, there)

  is_slot : slot_bytes w ≡ slot_of b
  unfolding slot_bytes slot_of padded
  is_slot = rw seat_written

  slot_good : is_bytes (slot_bytes w) ≡ true
  unfolding slot_bytes
  slot_good =
      let long = record_long w valid_sender_lem valid_body in
      bytes_join (be16 (sender_number w.sender)) _ (two_small (sender_number w.sender) (sender_small w.sender valid_sender_lem))
      (bytes_join (be16 (length b)) _ (two_small (length b) (omega (arith, valid_short)))
      (bytes_join b (replicate (256 - length b) 0) (record_bytes_lem w valid_sender_lem valid_body) (zero_bytes (256 - length b))))

  pub slot_written : Slot t (slot_bytes w)
  slot_written = (ap (slot_sound (rows Creds t)) is_slot ∙ slot_made t b passes_written, slot_good)

  pub slot_again : waiting_as (slot_bytes w) ≡ w
  unfolding waiting_as
  slot_again =
      ap (λ (x : Row). waiting_from (read_record (received 0 (record_of x) 0))) is_slot
      ∙ ap (λ (x : List ℕ). waiting_from (read_record (received 0 x 0))) (slot-record b (short_record (rows Creds t) b passes_written))
      ∙ ap waiting_from is_at ∙ waiting_again w valid_sender_lem valid_body 0 0
