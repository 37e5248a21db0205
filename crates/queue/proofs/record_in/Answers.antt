-- `record_in`: as many bytes as the slot's head says.
use Rattle.rows.proofs.Prelude.{ap, ◌∙◌, List, ℕ, take, drop}
use Rattle.rules.specs.Bits.{bits}
use Rattle.rules_terminal.specs.Slots.{record_of}
use Rattle.queue.proofs.record_in.Goals as goal

pub returns : goal.returns
unfolding record_of
returns c =
    let s = c.args.slot.now in
    c.part.ensures ∙ ap (λ (n : ℕ). take n (drop 4 s)) (c.be16-n.ensures ∙ ap (λ (l : List ℕ). bits l 0 16) c.skip.ensures)
