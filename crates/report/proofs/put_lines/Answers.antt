-- `put_lines` meets its contract: a turn judges a record and puts its line, and the last may put that a record is cut.
use mathlib.Core.Logic.{inl}
use Rattle.rows.proofs.Prelude.{◌+◌, ◌^◌, ◌≤◌, ◌<◌, List, ℕ, length, arith}
use Rattle.rules.specs.declared.Tables.{Tables}
use Rattle.report.proofs.Lines.{Running, run_start, run_turn, run_cut, run_end}
use Rattle.report.proofs.put_lines.Goals as goal

-- the numbers of all records that may be left fit
few : {s o out rest : List ℕ} {at p : ℕ} (count : ℕ) {t : Tables} → length s ≤ 2 ^ 63
    → Running s o at out p t rest (count + 1) → count + length rest < 2 ^ 64
few count h i = omega (arith, i.numbers)

pub loop-index-init : goal.loop-index-init
loop-index-init c =
    let s = c.args.input.now in
    let o = c.args.out.now in
    let first : Running s o c.args.at o c.args.at c.start_tables-t.result s 1 =
    run_start s o (omega arith) (omega arith) c.start_tables-t.ensures in
    rw (
      c.into_iter-index-iterator.ensures.into_iter_gives,
      c.enumerate-index-items.ensures.source,
      c.enumerate-index-items.ensures.count,
      c.new.ensures,
    )
    ((tt, tt, inl (few 0 (omega arith) first)), tt, first)

pub loop-index-preserved-in-Ok : goal.loop-index-preserved-in-Ok
loop-index-preserved-in-Ok c =
    let g = rw c.in-Ok.is at c.in-Some.ensures.steps in
    let puts = rw g.1 at c.put_line-p.ensures.puts in
    let fits = rw g.1 at c.put_line-p.ensures.line_fits in
    let turn = run_turn c.loop-index.invariant.2 c.in-Ok.entry g.0 c.judge_one-j.ensures puts fits in
    let next = rw (← g.2) at turn in
    ((tt, tt, inl (few _ (omega arith) next)), tt, next)

pub loop-index-preserved : goal.loop-index-preserved
loop-index-preserved c =
    let g = rw c.in-Err.is at c.in-Some.ensures.steps in
    let last = rw (← g.2) at (run_cut c.loop-index.invariant.2 g.0 c.put_cut-p.ensures) in
    ((tt, tt, inl (few _ (omega arith) last)), tt, last)

pub returns : goal.returns
returns c =
    let e = run_end c.loop-index.invariant.2 c.in-None.ensures.steps.0 in
    record { puts = e.0; lines_fit = e.1 }
