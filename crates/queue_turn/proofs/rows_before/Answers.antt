-- `rows_before`: where the last seat is.
use Rattle.rows.proofs.Prelude.{◌≡◌, sym, ap, ◌∙◌, map, ◌+◌, arith, length, take, rules}
use Rattle.rows.specs.Listed.{listed}
use Rattle.rules_terminal.specs.Slots.{after_seat}
use Rattle.queue_turn.specs.Turns.{rows_ahead}
use Rattle.queue_turn.proofs.TurnLaws.{behind, ahead_anew, ahead_bound, ahead_nobody, ahead_else}
use Rattle.queue_turn.proofs.rows_before.Goals as goal

pub returns-in_default : goal.returns-in_default
returns-in_default c =
    rw c.in_default.is (ahead_anew (listed c.args.rows) _ c.row_count-all.ensures)

pub returns-then-eq : goal.returns-then-eq
returns-then-eq c =
    let two : length c.in-Some.seat ≡ 2 = search rules in
    rw c.in-Some.is (ahead_nobody (listed c.args.rows) _ c.row_count-all.ensures c.in-Some.seat two _ c.eq.ensures c.if-eq.true)

pub returns-in_default-find : goal.returns-in_default-find
returns-in_default-find c =
    let two : length c.in-Some.seat ≡ 2 = search rules in
    rw c.in-Some.is
    (ap (behind _) (sym c.in_default-find.is ∙ c.find.ensures) ∙ ahead_else (listed c.args.rows) _ c.row_count-all.ensures c.in-Some.seat two _ c.eq.ensures c.if-eq.false)

pub overflow_add-result : goal.overflow_add-result
overflow_add-result c =
    let two : length c.in-Some.seat ≡ 2 = search rules in
    let place : c.in-Some-find.i + 1 ≡ rows_ahead (after_seat c.in-Some.seat) (map (take 2) (listed c.args.rows)) =
    ap (behind c.row_count-all.result) (sym c.in-Some-find.is ∙ c.find.ensures) ∙ ahead_else (listed c.args.rows) _ c.row_count-all.ensures c.in-Some.seat two _ c.eq.ensures c.if-eq.false in
    omega (arith, place, ahead_bound (listed c.args.rows) _ c.row_count-all.ensures (after_seat c.in-Some.seat), c.row_count-all.type_inv)

pub returns : goal.returns
returns c =
    let two : length c.in-Some.seat ≡ 2 = search rules in
    rw c.in-Some.is
    (ap (behind c.row_count-all.result) (sym c.in-Some-find.is ∙ c.find.ensures) ∙ ahead_else (listed c.args.rows) _ c.row_count-all.ensures c.in-Some.seat two _ c.eq.ensures c.if-eq.false)
