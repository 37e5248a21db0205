-- Whose turn it is: takes go round from the unauthenticated seat through the credential rows, starting after the last seat taken.
use Rattle.std.specs.Prelude.{suc, Bool, true, false, not, ◌&&◌, cond, List, [], ◌∷◌, ◌++◌, map, take, drop, eqb}
use Rattle.rows.specs.Rows.{Row, same, has_key, some, first_row, rows_before}
use Rattle.rules.specs.declared.Tables.{Tables}
use Rattle.rules.specs.declared.Table.TheVariants.{Creds}
use Rattle.rules.specs.Bits.{be16}
use Rattle.rules.specs.Tables.{rows_in, count, head_of}
use Rattle.rules_terminal.specs.Slots.{Seat, Round, anew, after_seat}
use Rattle.rules.specs.Types.{Bytes, Index, Size}

-- unauthenticated senders share one
abbrev pub nobody : Seat
nobody = be16 0

-- the unauthenticated one, then one for each credential row, of this many rows in these bytes
abbrev pub seats_in : Size → Bytes → List Seat
seats_in count creds = nobody ∷ map (take 2) (rows_in Creds count creds)

unfoldable pub seats : Tables → List Seat
seats t = seats_in t.ncreds t.creds

-- the seat is one of these seats
unfoldable pub is_seat : List Seat → Seat → Bool
is_seat seats seat = some (same seat) seats

-- a record waits in the seat
unfoldable pub occupied : List Row → Seat → Bool
occupied slots seat = some (has_key 0 seat) slots

-- index of the seat that is first in turn: 0 after a reset, or if the last seat taken is gone
unfoldable pub start : Round → List Seat → Index
start anew seats = 0
start (after_seat seat) seats = cond (is_seat seats seat) (suc (rows_before (same seat) seats)) 0

-- the seats from that one on, and then those before it
unfoldable pub in_turn : Round → List Seat → List Seat
in_turn round seats = drop (start round seats) seats ++ take (start round seats) seats

-- the occupied seat that is first in turn, or no bytes
unfoldable pub first_in_turn : Round → List Seat → List Row → Seat
first_in_turn round seats slots = first_row (occupied slots) (in_turn round seats)

-- ---- when credential rows come and go

-- the seats are the same: no credential row was added, and none removed
unfoldable pub same_seats : List Seat → List Seat → Bool
same_seats [] [] = true
same_seats [] (other ∷ others) = false
same_seats (seat ∷ seats) [] = false
same_seats (seat ∷ seats) (other ∷ others) = same seat other && same_seats seats others

-- the slot's seat is none of these
unfoldable pub orphaned : List Seat → Row → Bool
orphaned seats slot = not (is_seat seats (take 2 slot))

-- the round, or again if its seat is none of these
abbrev pub valid_round : List Seat → Round → Round
valid_round seats anew = anew
valid_round seats (after_seat seat) = cond (is_seat seats seat) (after_seat seat) anew

-- as many credential rows as before
unfoldable pub same_count : Tables → Tables → Bool
same_count t t' = eqb (count Creds (head_of t)) (count Creds (head_of t'))
