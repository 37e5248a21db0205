-- `ace_row`: 28 bytes, four zeros, and the latest second.
use Rattle.rows.proofs.Prelude.{◌≡◌, List, [], ◌∷◌, ◌++◌, append_assoc, ℕ, length, length-append, drop_at, take_at}
use borrow.Rule.Slice.PartMut.{put_mid}
use Rattle.rules.specs.Bodies.{every_second, ace_row_of}
use Rattle.row_body.proofs.ace_row.Goals as goal

zeros : List ℕ
zeros = 0 ∷ 0 ∷ 0 ∷ 0 ∷ []

-- the latest second over the last four of eight zeros
every : (b : List ℕ) → length b ≡ 28 → put_mid 32 4 (b ++ (zeros ++ zeros)) (255 ∷ 255 ∷ 255 ∷ 255 ∷ []) ≡ b ++ every_second
unfolding every_second zeros
every b l =
    let last : List ℕ = 0 ∷ 0 ∷ 0 ∷ 0 ∷ [] in
    let long : length (b ++ last) ≡ 32 = rw (length-append, l) in
    rw (← append_assoc b last last, take_at (b ++ last) last 32 long, drop_at (b ++ last) last 32 long)
    (append_assoc b last (255 ∷ 255 ∷ 255 ∷ 255 ∷ []))

pub returns-in-28 : goal.returns-in-28
unfolding ace_row_of every_second zeros
returns-in-28 c = simp (c.copy_bytes-in-28.ensures, c.copy_bytes-in-28-2.ensures, c.in-28.is) (every c.args.b.now c.in-28.is)
