-- `retain`: a turn leaves its row beside the others or moves those that stay before it, and zeros come after.
use Rattle.rows.proofs.Prelude.{◌≡◌, Bool, ap, ℕ, refl, add-sub_cancel_left, sym, ◌∙◌, not, not-true, not-false, take, drop, ◌+◌, ◌-◌, ◌*◌, ◌≤◌, arith, mul-le-mul_right, replicate, length-take-le, length-drop}
use Rattle.rows.specs.Rows.{Row}
use Rattle.rows_change.specs.Tests.{TestsOthers}
use Rattle.rows_change.proofs.Staying.{begin, none_beside, beside, gone, settled, passed, end}
use Rattle.rows_change.proofs.retain.Goals as goal
use Rattle.rows_change.proofs.retain.Goals.{then-not-stays, else-not-stays}

pub loop-i-init : goal.loop-i-init
loop-i-init g c =
    record { few = omega arith; order = omega arith; long = refl; rows = λ goes h. (begin goes _ _ _ c.requires.table, none_beside goes _ _ _ c.requires.table 0) }

pub loop-i-preserved : goal.loop-i-preserved
loop-i-preserved g c =
    let inv = c.loop-i.invariant in
    let s = c.args.stride in
    let count = c.args.count in
    let b₀ = c.args.rows.now in
    let b = c.loop-i.rows in
    let i = c.loop-i.i in
    let from = c.loop-i.from in
    let kept = c.loop-i.kept in
    let row = take s (drop (i * s) b) in
    let told : (goes : Row → Bool) → TestsOthers g.F.Fn c.args.stays goes → c.stays.result ≡ not (goes row) =
    λ goes h. rw add-sub_cancel_left at (h _ _ c.stays.ensures) in
    elim c.if-not-stays.branch [
      | then-not-stays w ↦ rw (w.rows-is, w.kept-is, w.from-is) (record {
        few = omega (arith, inv.few, inv.order);
        order = omega arith;
        long = w.move_down.auto.bytes ∙ inv.long;
        rows = λ goes h.
            let before = inv.rows goes h in
            let moved = settled goes s count b₀ c.requires.table b from kept inv.few inv.long before.0 i inv.order before.1 (omega (arith, c.loop-i-test.true)) w.move_down.new.bytes w.move_down.ensures in
            let same = gone goes s count b₀ c.requires.table b from kept inv.few inv.long before.0 i inv.order before.1 c.loop-i-test.true (not-false _ (sym (told goes h) ∙ w.if-not-stays.true)) in
            (passed goes s count b₀ c.requires.table w.move_down.new.bytes i (kept + (i - from)) moved same, none_beside goes s count b₀ c.requires.table (i + 1));
      })
      | else-not-stays w ↦ rw (w.rows-is, w.kept-is, w.from-is) (record {
        few = inv.few;
        order = omega (arith, inv.order);
        long = inv.long;
        rows = λ goes h.
            let before = inv.rows goes h in
            (before.0, beside goes s count b₀ c.requires.table b from kept inv.few inv.long before.0 i inv.order before.1 c.loop-i-test.true (not-true _ (sym (told goes h) ∙ w.if-not-stays.false)));
      })
    ]

pub returns : goal.returns
returns g c goes h =
    let inv = c.loop-i.invariant in
    let s = c.args.stride in
    let count = c.args.count in
    let from = c.loop-i.from in
    let b₀ = c.args.rows.now in
    let all : c.loop-i.i ≡ count = omega arith in
    let before = inv.rows goes h in
    let kept : ℕ = c.loop-i.kept + (count - from) in
    let few : kept ≤ count = omega (arith, inv.few, inv.order, all) in
    let long = c.move_down-2.auto.bytes ∙ inv.long in
    let moved = settled goes s count b₀ c.requires.table c.loop-i.rows from c.loop-i.kept inv.few inv.long before.0 count (rw all at inv.order) (rw all at before.1) (omega arith) c.move_down-2.new.bytes c.move_down-2.ensures in
    end goes s count b₀ c.requires.table c.move_down-2.new.bytes kept few long moved _
    (c.clear.ensures
    ∙ ap (λ (n : ℕ). replicate n 0) (length-take-le (count * s - kept * s) (drop (kept * s) c.move_down-2.new.bytes)
    (omega (arith, length-drop (kept * s) c.move_down-2.new.bytes, long, c.requires.table.fits, mul-le-mul_right s few))))
