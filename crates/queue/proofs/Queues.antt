-- The memory of a sound terminal is a queue, and what the changes leave is one again.
use Rattle.rows.proofs.Prelude.{◌≡◌, ◌∙◌, true, List, ℕ, ◌≤◌, min, min-eq_left, arith, length, drop, get_or, length-drop, eqb-true, leb-true}
use Rattle.rows.proofs.Laws.{length_rows_of}
use Rattle.rows.proofs.Kept.{same_true}
use Rattle.rules.specs.declared.Tables.{Tables}
use Rattle.rules_terminal.specs.Slots.{waiting, queue_size, slot_size}
use Rattle.rules_terminal.specs.Terminal.{terminal, queue_sound, sound_terminal}
use Rattle.rules_terminal.proofs.SlotLaws.{queue_parts}
use Rattle.rules_terminal.proofs.Sound.{terminal_parts}
use Rattle.queue.specs.Queue.{IsQueue}
use Rattle.rules.specs.Tables.{rows}
use Rattle.rules.specs.declared.Table.TheVariants.{Creds}

pub queue_queue : (t : Tables) (m : List ℕ) → queue_sound (rows Creds t) m ≡ true → IsQueue m
queue_queue t m h =
    let p = queue_parts t m h in
    let long : length m ≡ queue_size = eqb-true _ _ p.long in
    let few : get_or m 0 0 ≤ 25 = leb-true _ _ p.few in
    record {
      long = long;
      few = few;
      round = same_true _ _ p.round;
      table = record { numbered = omega arith; fits = omega (arith, length-drop 4 m); zeros = p.unused };
    }

module _ (t : Tables) (m : List ℕ) (h : sound_terminal (terminal t m) ≡ true) where
  pub sound_queue_lem : IsQueue m
  sound_queue_lem = queue_queue t m (terminal_parts (terminal t m) h).queue

  pub count_is : length (waiting m) ≡ get_or m 0 0
  unfolding waiting
  count_is = length_rows_of slot_size (min (get_or m 0 0) 25) (drop 4 m) ∙ min-eq_left sound_queue_lem.few
