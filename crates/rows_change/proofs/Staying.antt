-- A loop that keeps rows: of the first rows those that stay are at the front, the bytes after are as they were, and of these rows those
-- up to row i stay and are not moved yet.
use Rattle.rows.proofs.Prelude.{◌≡◌, refl, sym, ap, ◌∙◌, Bool, true, false, List, [], ◌∷◌, ◌++◌, append-nil, append_assoc, ℕ, suc, ◌+◌, ◌-◌, ◌*◌, ◌≤◌, ◌<◌}
use Rattle.rows.proofs.Prelude.{mul-le-mul_right, suc-mul, zero-mul, add-one, arith, length, take, drop, replicate, length-append, length-drop, length-replicate}
use Rattle.rows.proofs.Prelude.{drop_at, drop-drop, length-take-le, take_all, take_at, bool_cases}
use native.Mathlib.Nat.{add-mul}
use lib.ListN.{replicate-append-replicate}
use lib.Seq.{take-add, take-suc}
use borrow.Rule.Slice.PartMut.{put_mid}
use Rattle.std.specs.List.{copy_within}
use Rattle.rows.specs.Rows.{Row, rows_of, joined, packed, without}
use Rattle.rows.specs.Promises.{IsTable}
use Rattle.rows.proofs.Laws.{length_rows_of, joined_append, joined_rows_of, rows_of_end, row_is, row_within, zeros_replicate, packed_is}

without_append : (goes : Row → Bool) (rows others : List Row) → without goes (rows ++ others) ≡ without goes rows ++ without goes others
unfolding without
without_append goes [] others = refl
without_append goes (row ∷ rows) others = bool_cases (goes row) (λ e. rw (e, without_append goes rows others)) (λ e. rw (e, without_append goes rows others))

-- those of the first i rows that stay
abbrev pub ahead : (Row → Bool) → ℕ → ℕ → List ℕ → ℕ → List Row
ahead goes s count bytes i = without goes (take i (rows_of s count bytes))

pub record Staying (goes : Row → Bool) (s count : ℕ) (b₀ b : List ℕ) (from kept : ℕ) : Type 0 where
  pub count_is : kept ≡ length (ahead goes s count b₀ from)
  pub front : take (kept * s) b ≡ joined (ahead goes s count b₀ from)
  pub rest : drop (from * s) b ≡ drop (from * s) b₀

-- the rows from there to row i stay
abbrev pub Beside : (Row → Bool) → ℕ → ℕ → List ℕ → ℕ → ℕ → Type 0
Beside goes s count b₀ from i = ahead goes s count b₀ i ≡ ahead goes s count b₀ from ++ rows_of s (i - from) (drop (from * s) b₀)

module _ (goes : Row → Bool) (s count : ℕ) (b₀ : List ℕ) (t : IsTable s count b₀) where
  pub begin : Staying goes s count b₀ b₀ 0 0
  unfolding without joined
  begin = record { count_is = refl; front = rw zero-mul; rest = refl }

  pub none_beside : (from : ℕ) → Beside goes s count b₀ from from
  unfolding rows_of
  none_beside from = let z : from - from ≡ 0 = omega arith in rw (z, append-nil)

  module _ (b : List ℕ) (from kept : ℕ) (few : kept ≤ from) (long : length b ≡ length b₀) (g : Staying goes s count b₀ b from kept)
      (i : ℕ) (order : from ≤ i) (side : Beside goes s count b₀ from i) where
    abbrev pub row : Row
    row = take s (drop (i * s) b)

    abbrev between : ℕ
    between = i - from

    many : i * s ≡ from * s + between * s
    many = let e : i ≡ from + between = omega arith in ap (λ (n : ℕ). n * s) e ∙ add-mul from between s

    -- from row i on too the bytes are as they were
    later : drop (i * s) b ≡ drop (i * s) b₀
    later = rw (many, ← drop-drop (between * s) (from * s) b, ← drop-drop (between * s) (from * s) b₀, g.rest)

    module _ (more : i < count) where
      pub within : i * s + s ≤ length b
      within = rw long (row_within s count i (length b₀) t.fits more)

      ahead_suc : ahead goes s count b₀ (suc i) ≡ ahead goes s count b₀ i ++ without goes (row ∷ [])
      ahead_suc =
          let h : i < length (rows_of s count b₀) = rw length_rows_of more in
          rw (take-suc (rows_of s count b₀) i [] h, row_is s count i b₀ more, without_append, later)

      pub beside : goes row ≡ false → Beside goes s count b₀ from (i + 1)
      unfolding without
      beside e =
          let n : suc i - from ≡ suc between = omega arith in
          let last : take s (drop (between * s) (drop (from * s) b₀)) ≡ row = rw (drop-drop (between * s) (from * s) b₀, ← many, later) in
          rw (add-one i) (ahead_suc ∙ rw (e, side, n, rows_of_end, last, append_assoc))

      pub gone : goes row ≡ true → ahead goes s count b₀ (i + 1) ≡ ahead goes s count b₀ i
      unfolding without
      gone e = rw (add-one i) (ahead_suc ∙ rw (e, append-nil))

    -- these rows are put after those at the front
    module _ (within : i ≤ count) (x : List ℕ) (is : x ≡ copy_within b (from * s) (i * s) (kept * s)) where
      closer : kept * s ≤ from * s
      closer = mul-le-mul_right s few

      inside : i * s ≤ length b
      inside = omega (arith, mul-le-mul_right s within, t.fits, long)

      size : i * s - from * s ≡ between * s
      size = omega (arith, many)

      abbrev moved : List ℕ
      moved = take (between * s) (drop (from * s) b₀)

      abbrev last : List ℕ
      last = drop (kept * s + between * s) b

      x_is : x ≡ take (kept * s) b ++ (moved ++ last)
      x_is = is ∙ rw (size, g.rest) (append_assoc (take (kept * s) b) moved last)

      front_long : length (take (kept * s) b) ≡ kept * s
      front_long = length-take-le (kept * s) b (omega (arith, closer, inside, many))

      moved_long : length moved ≡ between * s
      moved_long = length-take-le (between * s) (drop (from * s) b₀) (rw length-drop (omega (arith, inside, many, long)))

      both : (kept + between) * s ≡ kept * s + between * s
      both = add-mul kept between s

      pub settled : Staying goes s count b₀ x i (kept + (i - from))
      settled =
          record {
            count_is = rw (side, length-append, length_rows_of, ← g.count_is);
            front = ap (take ((kept + between) * s)) x_is ∙ rw (both, take-add (kept * s) (between * s), take_at _ (moved ++ last) (kept * s) front_long, drop_at _ (moved ++ last) (kept * s) front_long, take_at moved last (between * s) moved_long, side, joined_append, joined_rows_of, g.front);
            rest =
                let d : ℕ = i * s - (kept * s + between * s) in
                let far : i * s ≡ (kept * s + between * s) + d = omega (arith, many, closer) in
                let over : length (take (kept * s) b ++ moved) ≡ kept * s + between * s = rw (length-append, front_long, moved_long) in
                let after : drop (kept * s + between * s) x ≡ last =
                ap (drop (kept * s + between * s)) (x_is ∙ sym (append_assoc (take (kept * s) b) moved last)) ∙ drop_at _ last (kept * s + between * s) over in
                ap (λ (n : ℕ). drop n x) far ∙ sym (drop-drop d (kept * s + between * s) x) ∙ ap (drop d) after
                ∙ drop-drop d (kept * s + between * s) b ∙ sym (ap (λ (n : ℕ). drop n b) far) ∙ later;
          }

  -- a row more that goes
  pub passed : (b : List ℕ) (i kept : ℕ) → Staying goes s count b₀ b i kept → ahead goes s count b₀ (i + 1) ≡ ahead goes s count b₀ i
      → Staying goes s count b₀ b (i + 1) kept
  passed b i kept g e =
      record {
        count_is = rw e g.count_is;
        front = rw e g.front;
        rest = rw (add-one i, suc-mul i s, ← drop-drop s (i * s) b, ← drop-drop s (i * s) b₀, g.rest);
      }

  -- zeros after the rows that stay
  module _ (b : List ℕ) (kept : ℕ) (few : kept ≤ count) (long : length b ≡ length b₀) (g : Staying goes s count b₀ b count kept) where
    pub end : (zeros : List ℕ) → zeros ≡ replicate (count * s - kept * s) 0
        → (kept ≡ length (without goes (rows_of s count b₀)))
        × (put_mid (kept * s) (count * s - kept * s) b zeros ≡ packed (length b₀) (without goes (rows_of s count b₀)))
    end zeros z =
        let whole : take count (rows_of s count b₀) ≡ rows_of s count b₀ = take_all count (rows_of s count b₀) (rw length_rows_of (omega arith)) in
        let closer : kept * s ≤ count * s = mul-le-mul_right s few in
        let used : ℕ = count * s - kept * s in
        let free : ℕ = length b₀ - count * s in
        let after : drop used (drop (kept * s) b) ≡ replicate free 0 =
        drop-drop used (kept * s) b ∙ ap (λ (n : ℕ). drop n b) (omega (arith, closer)) ∙ g.rest
        ∙ zeros_replicate (drop (count * s) b₀) t.zeros ∙ rw length-drop in
        let is : put_mid (kept * s) used b zeros ≡ joined (without goes (rows_of s count b₀)) ++ replicate (used + free) 0 =
        rw (g.front, whole, z, after, replicate-append-replicate) in
        let front_long : length (take (kept * s) b) ≡ kept * s = length-take-le (kept * s) b (omega (arith, closer, long, t.fits)) in
        let whole_long : length (put_mid (kept * s) used b zeros) ≡ length b₀ =
        rw (after, z, length-append, length-append, length-replicate, length-replicate, front_long) (omega (arith, closer, t.fits)) in
        (g.count_is ∙ ap (λ (rows : List Row). length (without goes rows)) whole, packed_is (length b₀) (used + free) _ (without goes (rows_of s count b₀)) is whole_long)
