-- What is counted of the entries of a file: the one that is looked at, and those that differ.
-- A count ends at the largest number.
use Rattle.std.specs.Prelude.{Bool, cond, ℕ, ◌+◌, min}
use Rattle.vectors_reader.specs.declared.Tally.{Tally}

abbrev pub more : ℕ → ℕ
more n = min (n + 1) 18446744073709551615

abbrev pub next_entry : Tally → Tally
next_entry t = record { entry = more t.entry; differences = t.differences }

abbrev pub one_differs : Tally → Tally
one_differs t = record { entry = t.entry; differences = more t.differences }

abbrev pub compared : Bool → Tally → Tally
compared is_same t = cond is_same t (one_differs t)
