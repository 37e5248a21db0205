-- `put` meets its contract: past the end nothing is written, and a text that fits is copied whole.
use Rattle.std.proofs.Common.{length, arith, sym, ◌∙◌}
use lib.Seq.{take_all}
use Rattle.text.proofs.Buffers.{puts_beyond, puts_copied}
use Rattle.text.proofs.put.Goals as goal

pub returns-then-text-out : goal.returns-then-text-out
returns-then-text-out c =
    let t = c.args.text.now in
    puts_copied {n = length t} (omega arith) (omega arith) (omega arith) (c.copy_bytes.ensures ∙ sym (take_all (length t) t (omega arith))) (omega arith)

pub returns-then-out-at : goal.returns-then-out-at
returns-then-out-at c = puts_beyond _ _ _ (omega arith) (omega (arith, c.saturating_add.ensures))
