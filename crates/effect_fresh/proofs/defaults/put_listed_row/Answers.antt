-- `defaults::put_listed_row`: the body, and the zeros after it.
use Rattle.rows.proofs.Prelude.{ap₂, ◌∙◌, ℕ, ◌-◌, arith, take, replicate}
use Rattle.text.proofs.Buffers.{puts_then}
use Rattle.effect_fresh.proofs.DefaultLaws.{row_from_lem, zeros_part}
use Rattle.effect_fresh.proofs.defaults.put_listed_row.Goals as goal

pub returns : goal.returns
returns c =
    let table = c.args.table in
    let none = c.part.ensures ∙ ap₂ (λ (m n : ℕ). take (m - n) (replicate 16 0)) c.stride_of.ensures c.longest_of.ensures ∙ zeros_part table in
    rw (row_from_lem table, ← none) (puts_then (omega arith) c.put-p.ensures c.put.ensures)
