-- `before_repeat`: a row whose low byte is marked is looked for among those before it; the mark is set where it is not found.
use Rattle.rows.proofs.Prelude.{refl, sym, ◌∙◌, ◌+◌, ◌*◌, arith}
use Rattle.rows_distinct.proofs.Seen.{seen_start, seen_end, none_again, again_first, seen_turn}
use Rattle.rows_distinct.proofs.before_repeat.Goals as goal

pub loop-i-init : goal.loop-i-init
loop-i-init c = seen_start _ _ _ _ refl

pub again-requires-clause-rows_value : goal.again-requires-clause-rows_value
again-requires-clause-rows_value c = none_again _ _ _ _ _ c.requires.0 c.requires.1 c.loop-i.invariant c.loop-i-test.true

pub returns-then-again : goal.returns-then-again
returns-then-again c =
    again_first _ _ _ _ _ c.requires.0 c.requires.1 c.loop-i.invariant c.loop-i-test.true (sym c.again.ensures ∙ c.if-again.true)

pub loop-i-preserved : goal.loop-i-preserved
loop-i-preserved c =
    seen_turn _ _ _ _ _ c.requires.0 c.requires.1 c.loop-i.invariant c.loop-i-test.true (sym c.again.ensures ∙ c.if-again.false)
    (omega (arith, c.type_inv.rows (c.loop-i.i * c.args.stride + 1)))

pub returns : goal.returns
returns c = seen_end _ _ _ _ _ c.loop-i.invariant c.loop-i-test.false
