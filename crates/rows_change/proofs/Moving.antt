-- Bytes copied down in pieces, one after the other: the whole part is copied, though pieces read what is written over later.
use Rattle.rows.proofs.Prelude.{◌≡◌, sym, ap, ◌∙◌, List, ◌++◌, ℕ, ◌+◌, ◌-◌, ◌≤◌, arith, length, take, drop, append_assoc, append-nil, length-append, length-drop}
use Rattle.rows.proofs.Prelude.{drop_at, drop-drop, length-take-le, take_at, take-append-drop}
use lib.Seq.{take-add}
use borrow.Rule.Slice.PartMut.{put_mid}
use Rattle.std.specs.List.{copy_within}

-- no bytes are copied
pub none_moved : (b : List ℕ) (from to : ℕ) → b ≡ copy_within b from (from + 0) to
none_moved b from to = let z : from + 0 - from ≡ 0 = omega arith in let same : to + 0 ≡ to = omega arith in rw (z, append-nil, same, take-append-drop)

module _ (b x : List ℕ) (from to m : ℕ) (below : to ≤ from) (is : x ≡ copy_within b from (from + m) to) where
  many : from + m - from ≡ m
  many = omega arith

  abbrev first : List ℕ
  first = take to b ++ take m (drop from b)

  x_is : x ≡ first ++ drop (to + m) b
  x_is = is ∙ rw many

  module _ (n : ℕ) (fits : from + m + n ≤ length b) where
    first_long : length first ≡ to + m
    first_long = rw (length-append, length-take-le to b (omega arith), length-take-le m (drop from b) (rw length-drop (omega arith)))

    same_length : length x ≡ length b
    same_length = ap length x_is ∙ rw (length-append, first_long, length-drop) (omega arith)

    front : take (to + m) x ≡ first
    front = ap (take (to + m)) x_is ∙ take_at first (drop (to + m) b) (to + m) first_long

    behind : drop (to + m) x ≡ drop (to + m) b
    behind = ap (drop (to + m)) x_is ∙ drop_at first (drop (to + m) b) (to + m) first_long

    pub unread : drop (from + m) x ≡ drop (from + m) b
    unread =
        let d : ℕ = from - to in
        let e : from + m ≡ (to + m) + d = omega arith in
        ap (λ (k : ℕ). drop k x) e ∙ sym (drop-drop d (to + m) x) ∙ ap (drop d) behind ∙ drop-drop d (to + m) b ∙ sym (ap (λ (k : ℕ). drop k b) e)

    -- n more
    pub moved_more : (y : List ℕ) → y ≡ put_mid (to + m) n x (take n (drop (from + m) x)) → y ≡ copy_within b from (from + (m + n)) to
    moved_more y h =
        let all : from + (m + n) - from ≡ m + n = omega arith in
        let end : to + (m + n) ≡ (to + m) + n = omega arith in
        h ∙ rw (all, end, front, unread, behind, drop-drop n (to + m) b, take-add m n (drop from b), drop-drop m from b, append_assoc, append_assoc, append_assoc)

    pub moved_again : (y : List ℕ) → y ≡ copy_within x (from + m) (from + m + n) (to + m) → y ≡ copy_within b from (from + (m + n)) to
    moved_again y h =
        let size : from + m + n - (from + m) ≡ n = omega arith in
        moved_more y (h ∙ rw (size, append_assoc, drop-drop n (to + m) x))
