-- What a judged record leaves of a terminal, read: the tables, and of the queue what the typed rules leave.
use Rattle.rows.proofs.Prelude.{◌≡◌, refl, sym, ap, ap₂, ◌∙◌, true, not, cond, List, [], map, ℕ, ◌≤◌, arith, length}
use Rattle.rows.proofs.Prelude.{eqb, eqb-true, bool_cases, le_trans}
use Rattle.rows.specs.Rows.{Row, without as withoutRows}
use Rattle.rows.proofs.Kept.{length_without}
use Rattle.rules.specs.declared.Tables.{Tables as ByteTables}
use Rattle.rules.specs.declared.Table.TheVariants.{Creds, Aces}
use Rattle.rules.specs.declared.Key.TheVariants.{All as AllKey, Number, Subject}
use Rattle.rules.specs.declared.Action.{Action as ByteAction}
use Rattle.rules.specs.declared.Action.TheVariants.{Serve, Read, SetRowOwner, SetOwner, SetState, Store, Remove, Assert, Malformed}
use Rattle.rules.specs.declared.Check.TheVariants.{Pass}
use Rattle.rules.specs.Action.{action}
use Rattle.rules.specs.Checks.{verdict as verdictBytes}
use Rattle.rules.specs.Defaults.{Defaults}
use Rattle.rules.specs.Outcome.{Outcome as ByteOutcome, Response as ByteResponse, response_to, tables_after}
use Rattle.rules.specs.Permission.{permission}
use Rattle.rules.specs.Record.{Request as ByteRequest, body}
use Rattle.rules.proofs.Refusals.{permitted_passes}
use Rattle.rules_typed.specs.Lists.{Maybe, just, holds, without, when}
use Rattle.rules_typed.specs.Types.{Tables, Request, Outcome}
use Rattle.rules_typed.specs.Tables.{is_bytes}
use Rattle.rules_typed.specs.Struct.{Given, DefaultBytes}
use Rattle.rules_typed.specs.Reading.{target_of, tables_of, read_tables, read_record, read_fresh}
use Rattle.rules_typed.specs.Writing.{written}
use Rattle.rules_typed.specs.Bodies.{request_of}
use Rattle.rules_typed.specs.Outcome.{outcome, next}
use Rattle.rules_typed.proofs.ListLaws.{Each, without_read}
use Rattle.rules_typed.proofs.RowsRead.{each_without}
use Rattle.rules_typed.proofs.ActionAs.{action_as}
use Rattle.rules_typed.proofs.ChecksRead.{from_seven}
use Rattle.rules_typed.proofs.LinksRead.{form, two_parts}
use Rattle.rules_typed.proofs.HeaderRead.{is_request}
use Rattle.rules_typed.proofs.StructKept.{given_kept}
use Rattle.rules_typed.proofs.SoundExact.{read_is}
use Rattle.rules_typed.proofs.TablesBack.{tables_back}
use Rattle.rules_typed.proofs.Whole.{outcome_written, next_read}
use Rattle.rules_terminal.specs.Round.{seats, orphaned, same_seats}
use Rattle.rules_terminal.specs.Terminal.{Terminal as ByteTerminal, terminal, sound_terminal, is_reset as isResetBytes, clears as clearsBytes}
use Rattle.rules_terminal.specs.Terminal.{queue_after, terminal_after}
use Rattle.rules_terminal.proofs.Sound.{fresh_is}
use Rattle.rules_queue.specs.Queue.{Round, Anew, After, Queue, Terminal, leaving, is_place, places, valid_round, empty_queue, is_reset, clears}
use Rattle.rules_queue.specs.Queue.{round_in, same_places, settled}
use Rattle.rules_queue.specs.QueueBytes.{waiting_as, written_terminal, read_terminal}
use Rattle.rules_queue.proofs.PlacesRead.{seat_round, seats_read, same_places_lem, round_in_lem}
use Rattle.rules_queue.proofs.SlotsRead.{Slot, front_passes, held_read}
use Rattle.rules_queue.proofs.QueueExact.{Held, held_written, held_bytes, read_held}

-- ---- RESET

target_reset : (b : List ℕ) (s : ℕ) → holds (action_as b (SetState s)) is_reset ≡ eqb s 0
unfolding target_of
target_reset b s = bool_cases (eqb s 0) (λ e. rw e) (λ e. rw e)

reset_read : (b : List ℕ) (a : ByteAction) → holds (action_as b a) is_reset ≡ isResetBytes a
reset_read b Serve = refl
reset_read b Read = refl
reset_read b (SetRowOwner n) = refl
reset_read b (SetOwner o) = refl
reset_read b (SetState s) = target_reset b s
reset_read b (Store Creds) = refl
reset_read b (Store Aces) = refl
reset_read b (Remove Creds AllKey) = refl
reset_read b (Remove Creds Number) = refl
reset_read b (Remove Creds Subject) = refl
reset_read b (Remove Aces AllKey) = refl
reset_read b (Remove Aces Number) = refl
reset_read b (Remove Aces Subject) = refl
reset_read b (Assert c) = refl
reset_read b Malformed = refl

round_valid : (t : Tables) (k : Round) → valid_round k ≡ true → valid_round (round_in t k) ≡ true
round_valid t Anew v = refl
round_valid t (After s) v = bool_cases (is_place t s) (λ e. rw e v) (λ e. rw e)

module _ (d : Defaults) (e : DefaultBytes d) (t : ByteTables) (g : Given t) (q : ByteRequest) (h : is_bytes q.bytes ≡ true) where
  abbrev r : List ℕ
  r = q.bytes

  abbrev T : Tables
  T = tables_of t

  abbrev t' : ByteTables
  t' = tables_after d t q

  pub kept_given : Given t'
  kept_given = given_kept d e t g q h

  abbrev pub o : Outcome
  o = outcome (read_fresh d) (just T) (read_record q)

  read_just : read_tables t ≡ just T
  unfolding when
  read_just = rw (read_is t g.struct, g.is_sound)

  pub response_written : written o.response ≡ response_to d t q
  response_written =
      sym (ap (λ (y : ByteOutcome). y.response) (outcome_written d e t g.struct q h)
      ∙ ap (λ (m : Maybe Tables). written (outcome (read_fresh d) m (read_record q)).response) read_just)

  pub tables_read : o.tables ≡ just (tables_of t')
  unfolding when
  tables_read =
      ap (λ (m : Maybe Tables). next (read_fresh d) m (read_record q)) (sym read_just)
      ∙ sym (next_read d e t g.struct q h)
      ∙ read_is t' kept_given.struct ∙ rw kept_given.is_sound

  -- a permitted record has a request
  form_passes : (response_to d t q).answer ≡ 0 → verdictBytes (form r) ≡ Pass
  form_passes z =
      let p = permission q.clock t r in
      front_passes (form r) (from_seven t p q) (sym (two_parts t g p q) ∙ permitted_passes d t q z)

  asked_reset : (response_to d t q).answer ≡ 0 → holds (request_of (read_record q)) (λ a. holds a.action is_reset) ≡ isResetBytes (action r)
  asked_reset z =
      let k = is_request q h (form_passes z) in
      ap (λ (m : Maybe Request). holds m (λ a. holds a.action is_reset)) k.read ∙ reset_read (body r) (action r)

  -- the tables are cleared
  pub clears_read : clears (read_record q) o ≡ clearsBytes d t q
  unfolding clearsBytes
  clears_read =
      let answer : o.response.answer ≡ (response_to d t q).answer = ap (λ (y : ByteResponse). y.answer) response_written in
      rw answer
      (bool_cases (eqb (response_to d t q).answer 0)
      (λ z. rw z (asked_reset (eqb-true _ _ z)))
      (λ z. rw z))

  -- ---- the queue

  module _ (k : Round) (valid : valid_round k ≡ true) (ws : List Row) (good : Each (Slot t) ws) (few : length ws ≤ 25) where
    abbrev Q : Queue
    Q = record { waiting = map waiting_as ws; round = k }

    staying : without (λ w. not (is_place (tables_of t') w.sender)) (map waiting_as ws) ≡ map waiting_as (withoutRows (orphaned (seats t')) ws)
    unfolding orphaned
    staying =
        without_read waiting_as (Slot t) (orphaned (seats t')) (λ w. not (is_place (tables_of t') w.sender))
        (λ w s. ap not (held_read t w s t' kept_given)) ws good

    same_read : same_seats (seats t) (seats t') ≡ same_places (places T) (places (tables_of t'))
    same_read = rw (seats_read t g, seats_read t' kept_given) (same_places_lem (places T) (places (tables_of t')))

    abbrev Q' : Queue
    Q' = cond (clearsBytes d t q) empty_queue (settled T (tables_of t') Q)

    pub after_held : Held t (queue_after d t q (seat_round k) ws) Q'
    unfolding queue_after settled
    after_held =
        bool_cases (clearsBytes d t q)
        (λ c. rw c (record { slots = []; good = tt; few = omega arith; valid = refl; reads = refl; is = sym fresh_is }))
        (λ c. rw (c, same_read)
        (bool_cases (same_places (places T) (places (tables_of t')))
        (λ s. rw s (record { slots = ws; good = good; few = few; valid = valid; reads = refl; is = refl }))
        (λ s. rw s (record {
          slots = withoutRows (orphaned (seats t')) ws;
          good = each_without (Slot t) (orphaned (seats t')) ws good;
          few = le_trans (length_without (orphaned (seats t')) ws) few;
          valid = round_valid (tables_of t') (round_in T k) (round_valid T k valid);
          reads = staying;
          is = rw (round_in_lem t g k, round_in_lem t' kept_given (round_in T k));
        }))))

    -- the terminal that is left
    abbrev pub x' : ByteTerminal
    x' = terminal_after d t q (seat_round k) ws

    abbrev pub y' : Terminal
    y' = record { tables = tables_of t'; queue = Q' }

    pub left_is : leaving (record { tables = T; queue = Q }) (clears (read_record q) o) o.tables ≡ just y'
    left_is = rw (clears_read, tables_read)

    pub left_written : written_terminal y' ≡ x'
    left_written = ap₂ terminal (tables_back t' kept_given) (held_written t x'.queue Q' after_held)

    pub left_bytes : is_bytes x'.queue ≡ true
    left_bytes = held_bytes t x'.queue Q' after_held

    pub left_read : sound_terminal x' ≡ true → read_terminal x' ≡ just y'
    left_read s = read_held t x' kept_given.struct s y' refl after_held
