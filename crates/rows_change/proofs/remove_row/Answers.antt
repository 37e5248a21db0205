-- `remove_row`: what is after the row moves down, and zeros are at the end.
use Rattle.rows.proofs.Prelude.{◌≡◌, List, ◌++◌, ℕ, ◌+◌, ◌-◌, ◌*◌, ◌≤◌, arith, length, take, drop, replicate, append_assoc, append-nil}
use Rattle.rows.proofs.Prelude.{length-append, length-drop, length-take, drop-drop, take_all, take_at, drop_at}
use Rattle.std.specs.List.{copy_within}
use Rattle.std.proofs.lemmas.List.{drop_all}
use borrow.Rule.Slice.PartMut.{put_mid}
use Rattle.rows.specs.Promises.{without_row}
use Rattle.rows_change.proofs.remove_row.Goals as goal

-- the part from the next row on is copied over the row, and zeros over the last bytes
closed_up : (b x : List ℕ) (at s : ℕ) → at + s ≤ length b → x ≡ copy_within b (at + s) (length b) at → length x ≡ length b
    → put_mid (length x - s) (length x - (length x - s)) x (replicate (length (take (length x - (length x - s)) (drop (length x - s) x))) 0)
    ≡ take at b ++ (drop s (drop at b) ++ replicate s 0)
closed_up b x at s fits moved long =
    let below = drop (at + s) b in
    let last = drop (at + (length b - (at + s))) b in
    let kept : length (take at b ++ below) ≡ length b - s = simp (length-append, length-take, length-drop) (omega arith) in
    let whole : take (length b - (at + s)) below ≡ below = take_all (length b - (at + s)) below (rw length-drop (omega arith)) in
    let few : length last ≡ s = rw length-drop (omega arith) in
    let size : length b - (length b - s) ≡ s = omega arith in
    rw (
      long,
      moved,
      whole,
      take_at (take at b ++ below) last (length b - s) kept,
      drop_at (take at b ++ below) last (length b - s) kept,
      size,
      take_all s last (omega arith),
      few,
      drop_all s last (omega arith),
      append-nil,
      append_assoc,
      drop-drop s at b,
    )

pub returns : goal.returns
unfolding without_row
returns c =
    rw (c.fill.ensures.after (λ y e. e))
    (closed_up c.args.rows.now c.move_down.new.bytes (c.args.i * c.args.stride) c.args.stride c.requires c.move_down.ensures c.move_down.auto.bytes)
