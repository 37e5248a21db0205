-- `queue_sound`: test by test.
use Rattle.rows.proofs.Prelude.{ap, ◌∙◌, List, ℕ, ◌≤◌, get_or, refl}
use Rattle.check_waiting.proofs.Laws.{too_many, tested, tested_empty}
use Rattle.check_waiting.proofs.queue_sound.Goals as goal

pub returns-in_default : goal.returns-in_default
returns-in_default c = too_many _ c.args.queue.now c.in_default.ensures

pub returns-then-count-eq0 : goal.returns-then-count-eq0
returns-then-count-eq0 c =
    let counted = c.count-count.ensures ∙ ap (λ (m : List ℕ). get_or m 0 0) c.in-Some.ensures in
    let few : get_or c.args.queue.now 0 0 ≤ 25 = rw c.in-Some.ensures at c.in-Some.view.few in
    tested_empty _ c.args.queue.now _ c.told-queue refl _ counted few _ _ c.if-count-eq0.true c.round_sound.ensures c.all_zero.ensures

pub returns : goal.returns
returns c =
    let counted = c.count-count.ensures ∙ ap (λ (m : List ℕ). get_or m 0 0) c.in-Some.ensures in
    let few : get_or c.args.queue.now 0 0 ≤ 25 = rw c.in-Some.ensures at c.in-Some.view.few in
    tested _ c.args.queue.now _ c.told-queue refl _ counted few _ _ _ _ c.round_sound.ensures c.all_zero.ensures
    (c.slots_sound.ensures ∙ rw (c.cred_rows.ensures, c.slots.ensures, c.in-Some.ensures)) c.distinct.ensures
