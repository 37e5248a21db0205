-- `run_text` meets its contract: the header and then the lines, and as much of them as the buffer holds.
use Rattle.rows.proofs.Prelude.{arith}
use Rattle.text.specs.Text.{ascii}
use Rattle.report.specs.Run.{header}
use Rattle.report.proofs.Lines.{run_whole}
use Rattle.report.proofs.run_text.Goals as goal

pub returns : goal.returns
unfolding header ascii
returns c =
    let e = run_whole c.args.input.now (omega arith) c.put-p.ensures (c.put_lines-p.ensures.puts, c.put_lines-p.ensures.lines_fit) c.within.ensures.value in
    record { count = e.0; buffer = e.1; whole = e.2; part = c.within.ensures.counts }
