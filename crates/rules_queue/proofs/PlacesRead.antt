-- The places, read: a place's seat is the two bytes of its number. Whose turn it is, and what a slot keeps, is the same over bytes and typed.
use Rattle.rows.proofs.Prelude.{◌≡◌, refl, sym, ap, ap₂, ◌∙◌, Bool, true, false, ◌&&◌, ◌||◌, List, [], ◌∷◌, map, suc}
use Rattle.rows.proofs.Prelude.{take, drop, bool_cases, contradiction, append-nil}
use mathlib.Core.List.{map-append}
use Rattle.rows.specs.Rows.{Row, same, some, rows_before}
use Rattle.rules.specs.declared.Sender.{Sender}
use Rattle.rules.specs.declared.Sender.TheVariants.{Partner}
use Rattle.rules.specs.declared.Tables.{Tables as ByteTables}
use Rattle.rules.specs.declared.Table.TheVariants.{Creds}
use Rattle.rules.specs.Bits.{be16}
use Rattle.rules.specs.Roles.{cred_sound}
use Rattle.rules.specs.Tables.{rows}
use Rattle.rules_typed.specs.Lists.{any}
use Rattle.rules_typed.specs.Struct.{Given}
use Rattle.rules_typed.specs.Reading.{credential_as, tables_of}
use Rattle.rules_typed.proofs.ListLaws.{Each}
use Rattle.rules_typed.proofs.ByteLaws.{Good, two_same, two_bytes}
use Rattle.rules_typed.proofs.PermissionRead.{creds_good, cred_long}
use Rattle.rules_terminal.specs.Slots.{Seat, Round as ByteRound, anew, after_seat}
use Rattle.rules_terminal.specs.Round.{seats, is_seat, start, same_seats, in_turn as inTurnBytes, valid_round as validRoundBytes}
use Rattle.rules_queue.specs.Queue.{Round, Anew, After, sender_number, same_sender, places, is_place, in_turn, behind, up_to, round_in, same_places}

abbrev pub seat_bytes : Sender → Seat
seat_bytes s = be16 (sender_number s)

-- ---- the places of tables

abbrev pub all_seats : List Sender → List Seat
all_seats ss = map seat_bytes ss

row_seats : (ws : List Row) → Each (Good cred_sound) ws → map (take 2) ws ≡ all_seats (map (λ c. Partner c.number) (map credential_as ws))
row_seats [] q = refl
row_seats (w ∷ ws) q = ap₂ (λ (x : Seat) (xs : List Seat). x ∷ xs) (two_bytes w q.0.1 (cred_long w q.0)) (row_seats ws q.1)

pub seats_read : (t : ByteTables) → Given t → seats t ≡ all_seats (places (tables_of t))
unfolding seats
seats_read t g = ap (λ (ss : List Seat). be16 0 ∷ ss) (row_seats (rows Creds t) (creds_good t g))

pub seat_same : (s o : Sender) → same (seat_bytes s) (seat_bytes o) ≡ same_sender s o
seat_same s o = two_same (sender_number s) (sender_number o)

pub is_seat_lem : (s : Sender) (ss : List Sender) → is_seat (all_seats ss) (seat_bytes s) ≡ any (same_sender s) ss
unfolding is_seat some any
is_seat_lem s [] = refl
is_seat_lem s (o ∷ ss) = ap₂ (λ (a b : Bool). a || b) (seat_same s o) (is_seat_lem s ss)

pub place_read : (t : ByteTables) → Given t → (s : Sender) → is_seat (seats t) (seat_bytes s) ≡ is_place (tables_of t) s
place_read t g s = ap (λ (ss : List Seat). is_seat ss (seat_bytes s)) (seats_read t g) ∙ is_seat_lem s (places (tables_of t))

pub same_places_lem : (ss os : List Sender) → same_seats (all_seats ss) (all_seats os) ≡ same_places ss os
unfolding same_seats
same_places_lem [] [] = refl
same_places_lem [] (o ∷ os) = refl
same_places_lem (s ∷ ss) [] = refl
same_places_lem (s ∷ ss) (o ∷ os) = ap₂ (λ (a b : Bool). a && b) (seat_same s o) (same_places_lem ss os)

-- ---- the round

abbrev pub seat_round : Round → ByteRound
seat_round Anew = anew
seat_round (After s) = after_seat (seat_bytes s)

pub round_in_lem : (t : ByteTables) → Given t → (k : Round) → validRoundBytes (seats t) (seat_round k) ≡ seat_round (round_in (tables_of t) k)
round_in_lem t g Anew = refl
round_in_lem t g (After s) = rw (place_read t g s) (bool_cases (is_place (tables_of t) s) (λ e. rw e) (λ e. rw e))

module _ (s : Sender) where
  abbrev is : Seat → Bool
  is = same (seat_bytes s)

  -- where the place is among them
  behind_read : (ss : List Sender) → some is (all_seats ss) ≡ true → drop (suc (rows_before is (all_seats ss))) (all_seats ss) ≡ all_seats (behind (same_sender s) ss)
  unfolding some rows_before behind
  behind_read [] h = contradiction h refl
  behind_read (o ∷ ss) h = rw (seat_same s o) (bool_cases (same_sender s o) (λ e. rw e) (λ e. rw e (behind_read ss (rw (seat_same s o, e) at h))))

  up_to_read : (ss : List Sender) → some is (all_seats ss) ≡ true → take (suc (rows_before is (all_seats ss))) (all_seats ss) ≡ all_seats (up_to (same_sender s) ss)
  unfolding some rows_before up_to
  up_to_read [] h = contradiction h refl
  up_to_read (o ∷ ss) h =
      rw (seat_same s o) (bool_cases (same_sender s o) (λ e. rw e) (λ e. rw e (ap (λ (x : List Seat). seat_bytes o ∷ x) (up_to_read ss (rw (seat_same s o, e) at h)))))

  -- and where it is not
  none_behind : (ss : List Sender) → any (same_sender s) ss ≡ false → (behind (same_sender s) ss ≡ []) × (up_to (same_sender s) ss ≡ ss)
  unfolding any behind up_to
  none_behind [] h = (refl, refl)
  none_behind (o ∷ ss) h =
      bool_cases (same_sender s o)
      (λ e. contradiction refl (rw e at h))
      (λ e. let more = none_behind ss (rw e at h) in rw e (more.0, ap (λ (x : List Sender). o ∷ x) more.1))

pub in_turn_lem : (k : Round) (ss : List Sender) → inTurnBytes (seat_round k) (all_seats ss) ≡ all_seats (in_turn k ss)
unfolding inTurnBytes start is_seat
in_turn_lem Anew ss = append-nil (all_seats ss)
in_turn_lem (After s) ss =
    bool_cases (some (same (seat_bytes s)) (all_seats ss))
    (λ e. rw (e, behind_read s ss e, up_to_read s ss e) (sym (map-append seat_bytes (behind (same_sender s) ss) (up_to (same_sender s) ss))))
    (λ e. let none = none_behind s ss (sym (is_seat_lem s ss) ∙ e) in rw (e, none.0, none.1) (append-nil (all_seats ss)))
