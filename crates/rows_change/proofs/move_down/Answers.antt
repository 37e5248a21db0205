-- `move_down`: three runs of pieces, of which the last leaves nothing.
use Rattle.rows.proofs.Prelude.{ap, ◌∙◌, ℕ, ◌+◌, arith}
use Rattle.std.specs.List.{copy_within}
use Rattle.rows_change.proofs.Moving.{moved_again}
use Rattle.rows_change.proofs.move_down.Goals as goal

pub returns : goal.returns
returns c =
    let b = c.args.bytes.now in
    let from = c.args.from in
    let to = c.args.to in
    let first = c.move_pieces-moved in
    let second = c.move_pieces in
    let third = c.move_pieces-2 in
    let two = moved_again b first.new.bytes from to first.result (omega (arith, c.requires)) first.ensures.bytes_value
    second.result (omega (arith, c.requires, first.ensures.value, second.ensures.value)) second.new.bytes second.ensures.bytes_value in
    let three = moved_again b second.new.bytes from to (first.result + second.result) (omega (arith, c.requires)) two
    third.result (omega (arith, c.requires, first.ensures.value, second.ensures.value, third.ensures.value)) third.new.bytes third.ensures.bytes_value in
    three ∙ ap (λ (end : ℕ). copy_within b from end to) (omega (arith, c.requires, first.ensures.value, second.ensures.value, third.ensures.value))
