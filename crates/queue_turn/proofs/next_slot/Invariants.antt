-- `next_slot`: of each walk, the answer is that of the seats that are left.
use Rattle.rows.proofs.Prelude.{take, drop}
use Rattle.rows.specs.Listed.{listed}
use Rattle.queue_turn.proofs.TurnLaws.{Left}
use Rattle.queue_turn.proofs.next_slot.Given as goal

abbrev pub invariant-loop-later : goal.invariant-loop-later
invariant-loop-later l =
    (goal.iterator-loop-later).can_next l.later-iterator
    × (goal.iterator-loop-later).is_finite l.later-iterator
    × Left (goal.iterator-loop-later).next_gives l.later-iterator (listed l.slots) (drop l.passed (listed l.rows))

abbrev pub invariant-loop-earlier : goal.invariant-loop-earlier
invariant-loop-earlier l =
    (goal.iterator-loop-earlier).can_next l.earlier-iterator
    × (goal.iterator-loop-earlier).is_finite l.earlier-iterator
    × Left (goal.iterator-loop-earlier).next_gives l.earlier-iterator (listed l.slots) (take l.passed (listed l.rows))
