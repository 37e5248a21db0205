-- Laws of marks by the low byte of a row's number: a row whose mark is not set has a number that no marked row has.
-- Assumes nothing.
use Rattle.rows.proofs.Prelude.{◌≡◌, refl, sym, ap, ◌∙◌, Bool, true, false, cond, List, [], ◌∷◌, ℕ, zero, suc, ◌+◌, ◌*◌, ◌≤◌, ◌<◌, add-one, arith, length, take}
use Rattle.rows.proofs.Prelude.{drop, get_or, set, drop_of_length-le, length-set, get_or-drop, get_or-take, bool_cases, contradiction, and_left, and_right}
use lib.Seq.{get_or-set_same}
use Rattle.rows.specs.Rows.{Row, rows_of, some, every, same, numbered_as, before_repeat}
use Rattle.rows.proofs.Laws.{every_append, length_rows_of, rows_of_end, from_row, row_within}
use Rattle.rows.proofs.Kept.{same_true}

-- the low byte of the row's number is marked
unfoldable pub marked : List Bool → Row → Bool
marked seen row = get_or seen (get_or row 1 0) false

-- ---- a mark that is set

stays : (l : List Bool) (k j : ℕ) → get_or l j false ≡ true → get_or (set l k true) j false ≡ true
stays [] k j h = h
stays (x ∷ l) zero zero h = refl
stays (x ∷ l) zero (suc j) h = h
stays (x ∷ l) (suc k) zero h = h
stays (x ∷ l) (suc k) (suc j) h = stays l k j h

every_stays : (l : List Bool) (k : ℕ) (rows : List Row) → every (marked l) rows ≡ true → every (marked (set l k true)) rows ≡ true
unfolding every marked
every_stays l k [] h = refl
every_stays l k (row ∷ rows) h =
    let m = and_left (marked l row) (every (marked l) rows) h in
    rw (stays l k (get_or row 1 0) m) (every_stays l k rows (and_right (marked l row) (every (marked l) rows) h))

-- ---- a row whose mark is not set

low_same : (row other : Row) → same (take 2 row) (take 2 other) ≡ true → get_or row 1 0 ≡ get_or other 1 0
low_same row other h =
    sym (get_or-take 2 row 1 0 (omega arith)) ∙ ap (λ (l : List ℕ). get_or l 1 0) (same_true (take 2 row) (take 2 other) h) ∙ get_or-take 2 other 1 0 (omega arith)

unseen : (l : List Bool) (new : Row) → marked l new ≡ false → (rows : List Row) → every (marked l) rows ≡ true → some (numbered_as new) rows ≡ false
unfolding every some marked numbered_as
unseen l new n [] h = refl
unseen l new n (row ∷ rows) h =
    bool_cases (numbered_as new row)
    (λ e. contradiction (and_left (marked l row) (every (marked l) rows) h) (rw (low_same row new e) n))
    (λ e. rw (e, unseen l new n rows (and_right (marked l row) (every (marked l) rows) h)))

-- ---- the loop over the rows: of the first i none repeats an earlier number, and their low bytes are marked

module _ (s count : ℕ) (b : List ℕ) where
  abbrev rows : List Row
  rows = rows_of s count b

  pub record SeenInv (l : List Bool) (i : ℕ) : Type 0 where
    pub inside : i ≤ count
    pub marks : length l ≡ 256
    pub distinct : before_repeat [] rows ≡ i + before_repeat (rows_of s i b) (drop i rows)
    pub seen : every (marked l) (rows_of s i b) ≡ true

  pub seen_start : (l : List Bool) → length l ≡ 256 → SeenInv l 0
  unfolding rows_of every
  seen_start l e = record { inside = omega arith; marks = e; distinct = omega arith; seen = refl }

  pub seen_end : (l : List Bool) (i : ℕ) → SeenInv l i → count ≤ i → count ≡ before_repeat [] rows
  unfolding before_repeat
  seen_end l i inv h =
      let few : length rows ≤ i = rw length_rows_of h in
      let n = inv.inside in
      sym (inv.distinct ∙ rw (drop_of_length-le rows few) (omega arith))

  module _ (l : List Bool) (i : ℕ) (two : 2 ≤ s) (fits : count * s ≤ length b) (inv : SeenInv l i) (more : i < count) where
    abbrev row : Row
    row = take s (drop (i * s) b)

    pub row_fits : i * s + s ≤ length b
    row_fits = row_within s count i (length b) fits more

    low : get_or row 1 0 ≡ get_or b (i * s + 1) 0
    low = get_or-take s (drop (i * s) b) 1 0 (omega arith) ∙ get_or-drop (i * s) b 1 0

    pub none_again : get_or l (get_or b (i * s + 1) 0) false ≡ false → some (numbered_as row) (rows_of s i b) ≡ false
    unfolding marked
    none_again n = unseen l row (ap (λ (k : ℕ). get_or l k false) low ∙ n) (rows_of s i b) inv.seen

    -- what row i decides
    one_more : before_repeat [] rows ≡ i + cond (some (numbered_as row) (rows_of s i b)) 0 (suc (before_repeat (rows_of s (suc i) b) (drop (suc i) rows)))
    unfolding before_repeat
    one_more = inv.distinct ∙ rw (from_row s count i b more, rows_of_end s i b)

    pub again_first : some (numbered_as row) (rows_of s i b) ≡ true → i ≡ before_repeat [] rows
    again_first e = sym (one_more ∙ rw e (omega arith))

    pub seen_turn : some (numbered_as row) (rows_of s i b) ≡ false → get_or b (i * s + 1) 0 < 256 → SeenInv (set l (get_or b (i * s + 1) 0) true) (i + 1)
    unfolding marked every
    seen_turn e small =
        let k = get_or b (i * s + 1) 0 in
        let m = inv.marks in
        record {
          inside = omega arith;
          marks = length-set l k true ∙ inv.marks;
          distinct = one_more ∙ rw (e, add-one i) (omega arith);
          seen =
              rw (add-one i, rows_of_end s i b)
              (every_append (marked (set l k true)) (rows_of s i b) (row ∷ [])
              ∙ rw (every_stays l k (rows_of s i b) inv.seen, low, get_or-set_same l k true false (omega arith)));
        }
