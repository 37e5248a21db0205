-- Laws of hand-in, as the code does it.
use Rattle.rows.proofs.Prelude.{◌≡◌, sym, ap, ◌∙◌, List, ℕ, ◌≤◌, ◌<◌, arith, length, take, drop, get_or, not-false}
use Rattle.std.specs.Prelude.{Option}
use Rattle.rows.specs.Rows.{has_key}
use Rattle.rows.specs.Promises.{index_of}
use Rattle.rows.proofs.Laws.{some_index, is_some}
use Rattle.rules.specs.declared.Tables.{Tables}
use Rattle.rules.specs.declared.Check.{Check}
use Rattle.rules.specs.declared.Check.TheVariants.{Pass}
use Rattle.rules.specs.declared.Head.{Head}
use Rattle.rules.specs.declared.Judgement.{Judgement}
use Rattle.rules.specs.Checks.{verdict, number_of}
use Rattle.rules.specs.Promises.Groups.{sender_checks}
use Rattle.rules.specs.Tables.{rows, tables_of}
use Rattle.rules.specs.Promises.Results.{number_judgement, result_with}
use Rattle.rules.proofs.Answers.{passed, long_enough}
use Rattle.rules.proofs.RecordLaws.{key_is}
use Rattle.rules_terminal.specs.Slots.{seat_of, waiting}
use Rattle.rules_terminal.specs.Round.{occupied}
use Rattle.rules_terminal.specs.Terminal.{terminal, hand_in_checks, hand_in_of, handed_in, transition_result}
use Rattle.rules_terminal.specs.Calls.{HandsIn}
use Rattle.rules_terminal.proofs.SlotLaws.{short_record}
use Rattle.rules_terminal.proofs.Sound.{hand_passed, hand_fits}
use Rattle.queue.specs.Queue.{IsQueue}
use Rattle.queue.proofs.Queues.{sound_queue_lem, count_is}
use Rattle.rules.specs.declared.Table.TheVariants.{Creds}

-- ---- check 26

pub free_is : (m r : List ℕ) (at : Option ℕ) → 4 ≤ length r → get_or r 2 0 < 256 → get_or r 3 0 < 256
    → at ≡ index_of (has_key 0 (take 2 (drop 2 r))) (waiting m) → is_some at ≡ occupied (waiting m) (seat_of r)
unfolding occupied seat_of
free_is m r at l a b e = ap is_some e ∙ sym (some_index 0 (has_key 0 (take 2 (drop 2 r))) (waiting m)) ∙ rw (key_is r 2 l a b)

-- ---- a record is kept

module _ (t : Tables) (m r : List ℕ) (e : verdict (hand_in_checks (terminal t m) r) ≡ Pass) where
  pub can_keep : IsQueue m × (get_or m 0 0 < 25) × (4 ≤ length r) × (length r ≤ 256)
  can_keep =
      let h = not-false _ (passed (hand_in_checks (terminal t m) r) e 1) in
      let p = hand_passed (terminal t m) r e in
      (sound_queue_lem t m h, omega (arith, hand_fits (terminal t m) r e, count_is t m h), long_enough r (passed (sender_checks (rows Creds t) r) p 2), short_record (rows Creds t) r p)

-- ---- the answer, and the memory

-- only the answer is reported, of a refusal and of a record that is kept
pub transition : (f : Head) (cs es m r : List ℕ) (c v : Check) → c ≡ verdict (hand_in_checks (terminal (tables_of f cs es) m) r) → c ≡ v
    → (j : Judgement) (m' : List ℕ) → j ≡ number_judgement f (number_of c) → m' ≡ (hand_in_of (terminal (tables_of f cs es) m) r v).terminal.queue
    → result_with (number_judgement f (number_of v)) cs es ≡ transition_result (hand_in_of (terminal (tables_of f cs es) m) r v)
    → HandsIn (terminal (tables_of f cs es) m) r (result_with j cs es) m'
unfolding handed_in
transition f cs es m r c v told e j m' i g s =
    record { says = rw (i, ← told, e) s; keeps = rw (← told, e) g }
