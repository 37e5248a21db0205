-- `next_slot`: seat by seat, in three steps.
use Rattle.rows.proofs.Prelude.{refl, sym, ap, ◌∙◌, rules}
use Rattle.std.proofs.lemmas.Iterator.{YieldsList-from_take}
use Rattle.std.proofs.lemmas.Iterator.Adapters.{YieldsList-from_skip}
use Rattle.std.proofs.lemmas.Iterator.Consumers.{YieldsList-at, YieldsList-from_first}
use Rattle.rows.specs.Rows.{has_key}
use Rattle.rows.specs.Promises.{index_of}
use Rattle.rows.specs.Listed.{listed, left}
use Rattle.rules.specs.Bits.{be16}
use Rattle.queue_turn.proofs.TurnLaws.{at_end, found, goes_on, turned_answer, at_later, at_shared, at_earlier}
use Rattle.queue_turn.proofs.next_slot.Goals as goal

pub loop-later-init : goal.loop-later-init
loop-later-init c =
    let rows = listed c.args.rows in
    let n = c.rows_before-passed.result in
    let walk = YieldsList-from_skip n (YieldsList-at c.skip-later-items.ensures.source (YieldsList-from_first (λ r. r.now) left rows c.iter.ensures)) c.skip-later-items.ensures.count in
    (search rules, search rules, record { rest = _; gives = YieldsList-at c.into_iter-later-iterator.ensures.into_iter_gives walk; answer = refl })

pub returns-in-Some-find : goal.returns-in-Some-find
returns-in-Some-find c =
    let slots = listed c.slots-slots.result in
    at_later slots (listed c.args.rows) c.rows_before-passed.result _
    (found _ _ slots _ c.loop-later.invariant.2 c.in-Some.later c.next.new.self c.in-Some.ensures.steps _
    (c.find.ensures ∙ ap (λ key. index_of (has_key 0 key) slots) c.part.ensures) _ c.in-Some-find.is)
    ∙ turned_answer slots _ c.slots-slots.ensures _ _ c.last_seat.ensures _ _ c.rows_before-passed.ensures

pub loop-later-preserved : goal.loop-later-preserved
loop-later-preserved c =
    let slots = listed c.slots-slots.result in (
      search rules,
      search rules,
      goes_on _ _ slots _ c.loop-later.invariant.2 c.in-Some.later c.next.new.self c.in-Some.ensures.steps _
          (c.find.ensures ∙ ap (λ key. index_of (has_key 0 key) slots) c.part.ensures) c.in_default.is,
    )

pub returns-in-Some-find-2 : goal.returns-in-Some-find-2
unfolding be16
returns-in-Some-find-2 c =
    let slots = listed c.slots-slots.result in
    at_shared slots (listed c.args.rows) c.rows_before-passed.result (at_end _ _ slots _ c.loop-later.invariant.2 c.next.new.self c.in-None.ensures.steps) _
    (sym c.in-Some-find-2.is ∙ c.find-2.ensures)
    ∙ turned_answer slots _ c.slots-slots.ensures _ _ c.last_seat.ensures _ _ c.rows_before-passed.ensures

pub loop-earlier-init : goal.loop-earlier-init
loop-earlier-init c =
    let rows = listed c.args.rows in
    let n = c.rows_before-passed.result in
    let walk = YieldsList-from_take n (YieldsList-at c.take-earlier-items.ensures.source (YieldsList-from_first (λ r. r.now) left rows c.iter-2.ensures)) c.take-earlier-items.ensures.count in
    (search rules, search rules, record { rest = _; gives = YieldsList-at c.into_iter-earlier-iterator.ensures.into_iter_gives walk; answer = refl })

pub returns-in-Some-find-3 : goal.returns-in-Some-find-3
unfolding be16
returns-in-Some-find-3 c =
    let slots = listed c.slots-slots.result in
    at_earlier slots (listed c.args.rows) c.rows_before-passed.result (at_end _ _ slots _ c.loop-later.invariant.2 c.next.new.self c.in-None.ensures.steps) _
    (sym c.in_default-find.is ∙ c.find-2.ensures)
    (found _ _ slots _ c.loop-earlier.invariant.2 c.in-Some-earlier.earlier c.next-in-loop-earlier.new.self c.in-Some-earlier.ensures.steps _
    (c.find-in-loop-earlier.ensures ∙ ap (λ key. index_of (has_key 0 key) slots) c.part-in-loop-earlier.ensures) _ c.in-Some-find-3.is)
    ∙ turned_answer slots _ c.slots-slots.ensures _ _ c.last_seat.ensures _ _ c.rows_before-passed.ensures

pub loop-earlier-preserved : goal.loop-earlier-preserved
loop-earlier-preserved c =
    let slots = listed c.slots-slots.result in (
      search rules,
      search rules,
      goes_on _ _ slots _ c.loop-earlier.invariant.2 c.in-Some-earlier.earlier c.next-in-loop-earlier.new.self c.in-Some-earlier.ensures.steps _
          (c.find-in-loop-earlier.ensures ∙ ap (λ key. index_of (has_key 0 key) slots) c.part-in-loop-earlier.ensures) c.in_default-find-2.is,
    )

pub returns : goal.returns
unfolding be16
returns c =
    let slots = listed c.slots-slots.result in
    at_earlier slots (listed c.args.rows) c.rows_before-passed.result (at_end _ _ slots _ c.loop-later.invariant.2 c.next.new.self c.in-None.ensures.steps) _
    (sym c.in_default-find.is ∙ c.find-2.ensures)
    (at_end _ _ slots _ c.loop-earlier.invariant.2 c.next-in-loop-earlier.new.self c.in-None-earlier.ensures.steps)
    ∙ turned_answer slots _ c.slots-slots.ensures _ _ c.last_seat.ensures _ _ c.rows_before-passed.ensures
