-- Memory in the form of a queue, whatever its records: its length, at most 25 slots, a round's bytes, and zeros after the slots.
use Rattle.std.specs.Prelude.{◌≡◌, ◌≤◌, length, take, drop, get_or}
use Rattle.rows.specs.Promises.{IsTable}
use Rattle.rules_terminal.specs.Slots.{Queue, slot_size, queue_capacity, queue_size, round_bytes, round_of}

pub record IsQueue (m : Queue) : Type 0 where
  pub long : length m ≡ queue_size
  pub few : get_or m 0 0 ≤ queue_capacity
  pub round : take 3 (drop 1 m) ≡ round_bytes (round_of m)
  pub table : IsTable slot_size (get_or m 0 0) (drop 4 m)
