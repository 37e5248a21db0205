-- The coming take, as code finds it: the slot of the first seat in turn, and the record there by value.
use Rattle.std.specs.Prelude.{suc, cond, List, [], ◌∷◌, length, Option, Some, None}
use Rattle.rows.specs.Rows.{Row, same, has_key, rows_before}
use Rattle.rows.specs.Promises.{index_of}
use Rattle.rules_terminal.specs.Slots.{Seat, Round, anew, after_seat, padded}
use Rattle.rules_terminal.specs.Round.{nobody, is_seat}
use Rattle.rules_terminal.specs.Terminal.{Terminal, turn, due}
use Rattle.queue_turn.specs.declared.Due.{Due}
use Rattle.rules.specs.Types.{Index}

abbrev pub or_else : Option Index → Option Index → Option Index
or_else (Some i) other = Some i
or_else None other = other

-- the slot of the first of these seats in which a record waits
unfoldable pub slot_in : List Row → List Seat → Option Index
slot_in slots [] = None
slot_in slots (seat ∷ seats) = or_else (index_of (has_key 0 seat) slots) (slot_in slots seats)

-- how many credential rows come before the row whose seat is first in turn, if the unauthenticated seat comes after all of them
unfoldable pub rows_ahead : Round → List Seat → Index
rows_ahead anew seats = length seats
rows_ahead (after_seat seat) seats = cond (same seat nobody) 0 (cond (is_seat seats seat) (suc (rows_before (same seat) seats)) (length seats))

-- the record whose turn it is
abbrev pub due_of : Terminal → Due
due_of x = record { bytes = padded (due x); size = length (due x); seat = turn x }
