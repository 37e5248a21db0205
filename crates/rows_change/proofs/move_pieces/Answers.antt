-- `move_pieces`: a turn copies one piece more.
use Rattle.rows.proofs.Prelude.{ℕ, suc, ◌+◌, ◌-◌, ◌*◌, ◌/◌, ◌≤◌, arith, add-one, suc-mul, mul-le-mul_right, add-sub_cancel_left, length}
use Rattle.std.proofs.Math.Nat.{div-mul-le_self}
use Rattle.rows_change.proofs.Moving.{none_moved, moved_more}
use Rattle.rows_change.proofs.move_pieces.Goals as goal

pub loop-init : goal.loop-init
loop-init g c = record { bytes = omega arith; part = none_moved c.args.bytes.now c.args.from c.args.to }

pub loop-preserved : goal.loop-preserved
loop-preserved g c =
    let inv = c.loop.invariant in
    let n = g.row.N in
    let turns : ℕ = (c.args.end - c.args.from) / n in
    let more : suc c.loop.counter * n ≤ turns * n = mul-le-mul_right n c.loop-test.true in
    let fits : c.args.from + c.loop.moved + n ≤ length c.args.bytes.now = omega (arith, more, suc-mul c.loop.counter n, inv.bytes, div-mul-le_self (c.args.end - c.args.from) n, c.requires) in
    record {
      bytes = rw (add-one, suc-mul, inv.bytes);
      part = moved_more c.args.bytes.now c.loop.bytes c.args.from c.args.to c.loop.moved (omega (arith, c.requires)) inv.part n fits _
          (rw (c.copy_bytes-in-loop.ensures, c.copy_bytes.ensures, add-sub_cancel_left, add-sub_cancel_left));
    }
