-- `zeros::blocks_zero`: the whole blocks, and the last one, which begins within them or just after.
use Rattle.rows.proofs.Prelude.{refl, ◌∙◌, ◌-◌, arith, length, length-drop, drop, take_all}
use Rattle.std.proofs.Common.{rules, tests}
use Rattle.std.proofs.lemmas.Iterator.Search.{all_from_yields_List}
use Rattle.rows.specs.Rows.{all_zero}
use Rattle.rows.proofs.AllZero.{zeros_by_blocks, blocks_come}
use Rattle.rows.proofs.zeros.blocks_zero.Goals as goal

pub returns-then-all : goal.returns-then-all
returns-then-all g c =
    let b = c.args.bytes.now in
    let n = g.row.N in
    let blocks = all_from_yields_List all_zero _ _ _ c.all.ensures.ran (blocks_come n b c.requires.0 c.chunks_exact.ensures.rest c.chunks_exact.ensures.size) (λ x r q k. search (rules, tests)) in
    let last = take_all (length b - (length b - n)) (drop (length b - n) b) (omega (arith, length-drop (length b - n) b)) in
    c.union_zero-then-all.ensures ∙ rw c.if-all.true at (zeros_by_blocks n b _ _ _ c.requires.0 c.if-bytes.false refl last blocks)

pub returns-else-all : goal.returns-else-all
returns-else-all g c =
    let b = c.args.bytes.now in
    let n = g.row.N in
    let blocks = all_from_yields_List all_zero _ _ _ c.all.ensures.ran (blocks_come n b c.requires.0 c.chunks_exact.ensures.rest c.chunks_exact.ensures.size) (λ x r q k. search (rules, tests)) in
    c.if-all.false ∙ rw c.if-all.false at (zeros_by_blocks n b _ _ _ c.requires.0 c.if-bytes.false refl refl blocks)
