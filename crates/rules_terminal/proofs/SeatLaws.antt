-- Laws of the round, over plain lists of seats: who is first in turn, and that the others come nearer.
use Rattle.rows.proofs.Prelude.{◌≡◌, refl, sym, ap, subst, ◌∙◌, Bool, true, false, not, ◌&&◌, cond, List, [], ◌∷◌, ◌++◌, ℕ, suc, ◌+◌, ◌≤◌, ◌<◌, arith, length, take}
use Rattle.rows.proofs.Prelude.{drop, length-append, length-take-le, take-append-drop, not-true, cond_cases, bool_cases, contradiction, and_left, and_right}
use Rattle.rows.proofs.Prelude.{or_left, or_right, or_not_left, or_true_right}
use mathlib.Core.Bool.{or_comm}
use Rattle.rows.specs.Rows.{same, some, first_row, rows_before, without}
use Rattle.rows.proofs.Laws.{some_append}
use Rattle.rows.proofs.Kept.{same_true, same_refl}
pub use Rattle.rules.proofs.OwnRow.{first_passes}
use Rattle.rules_terminal.specs.Slots.{Seat, Round, anew, after_seat}
use Rattle.rules_terminal.specs.Round.{is_seat, start, in_turn}

-- no two seats are the same
unfoldable pub distinct_seats : List Seat → Bool
distinct_seats [] = true
distinct_seats (p ∷ ps) = not (some (same p) ps) && distinct_seats ps

-- ---- the first seat that passes a test
module _ (q : Seat → Bool) where
  pub first_in : (xs : List Seat) → some q xs ≡ true → some (same (first_row q xs)) xs ≡ true
  unfolding some first_row
  first_in [] h = contradiction h refl
  first_in (x ∷ xs) h =
      bool_cases (q x) (λ e. rw (e, same_refl x)) (λ e. let f : first_row q (x ∷ xs) ≡ first_row q xs = rw e in
      subst (λ (y : Seat). some (same y) (x ∷ xs) ≡ true) (sym f) (or_true_right (same (first_row q xs) x) _ (first_in xs (rw e at h))))

  -- a seat that passes is the first, or after it
  pub first_least : (n : Seat) (xs : List Seat) → some (same n) xs ≡ true → q n ≡ true
      → (some q xs ≡ true) × (same n (first_row q xs) ≡ false → rows_before (same (first_row q xs)) xs < rows_before (same n) xs)
  unfolding some first_row rows_before
  first_least n [] i h = contradiction i refl
  first_least n (x ∷ xs) i h =
      bool_cases (same n x)
      (λ f. rw (sym (ap q (same_true n x f)) ∙ h) (refl, λ o. contradiction f o))
      (λ f. bool_cases (q x)
      (λ e. rw (e, f, same_refl x) (refl, λ _. omega arith))
      (λ e. let more = first_least n xs (rw f at i) h in
      let g : first_row q (x ∷ xs) ≡ first_row q xs = rw e in
      subst (λ (y : Seat). (some q (x ∷ xs) ≡ true) × (same n y ≡ false → rows_before (same y) (x ∷ xs) < rows_before (same n) (x ∷ xs))) (sym g) (rw (e, f) (
        more.0,
        λ o. cond_cases (λ (m : ℕ). m < suc (rows_before (same n) xs)) (same (first_row q xs) x)
            (λ _. omega arith) (λ _. omega (arith, more.1 o)),
      ))))

  -- another list has the same first seat that passes
  abbrev pub Unmoved : List Seat → List Seat → Type 0
  Unmoved xs ys = (some q ys ≡ true) × (first_row q ys ≡ first_row q xs)

  pub first_without : (goes : Seat → Bool) → ((x : Seat) → q x ≡ true → goes x ≡ false) → (xs : List Seat) → some q xs ≡ true → Unmoved xs (without goes xs)
  unfolding some first_row without
  first_without goes stays [] o = contradiction o refl
  first_without goes stays (x ∷ xs) o =
      bool_cases (q x)
      (λ e. rw (stays x e, e) (refl, refl))
      (λ e. let more = first_without goes stays xs (rw e at o) in bool_cases (goes x) (λ f. rw (f, e) more) (λ f. rw (f, e) more))

-- ---- rotated lists
some_rotated : (q : Seat → Bool) (s : ℕ) (xs : List Seat) → some q (drop s xs ++ take s xs) ≡ some q xs
some_rotated q s xs =
    some_append q (drop s xs) (take s xs)
    ∙ or_comm (some q (drop s xs)) (some q (take s xs))
    ∙ sym (some_append q (take s xs) (drop s xs))
    ∙ ap (some q) (take-append-drop s xs)

-- of N seats, the one at index i is at index j once s seats have gone to the end: it may have gone with them
abbrev Turned : ℕ → ℕ → ℕ → ℕ → Type 0
Turned N s i j = (k : Bool) × (j + s ≡ i + cond k N 0) × (j < N)

module _ (n : Seat) where
  index_left : (xs ys : List Seat) → some (same n) xs ≡ true → rows_before (same n) (xs ++ ys) ≡ rows_before (same n) xs
  unfolding some rows_before
  index_left [] ys h = contradiction h refl
  index_left (x ∷ xs) ys h = bool_cases (same n x) (λ e. rw e) (λ e. rw e (ap suc (index_left xs ys (rw e at h))))

  index_right : (xs ys : List Seat) → some (same n) xs ≡ false → rows_before (same n) (xs ++ ys) ≡ length xs + rows_before (same n) ys
  unfolding some rows_before
  index_right [] ys h = omega arith
  index_right (x ∷ xs) ys h = rw (or_left (same n x) _ h) (ap suc (index_right xs ys (or_right (same n x) _ h)) ∙ omega arith)

  pub index_bound : (xs : List Seat) → some (same n) xs ≡ true → rows_before (same n) xs < length xs
  unfolding some rows_before
  index_bound [] h = contradiction h refl
  index_bound (x ∷ xs) h =
      cond_cases (λ (m : ℕ). m < suc (length xs)) (same n x) (λ _. omega arith) (λ e. omega (arith, index_bound xs (or_not_left (same n x) _ h e)))

  -- a seat of the first part is none of the second
  distinct_parts' : (xs ys : List Seat) → distinct_seats (xs ++ ys) ≡ true → some (same n) xs ≡ true → some (same n) ys ≡ false
  unfolding some distinct_seats
  distinct_parts' [] ys d h = contradiction h refl
  distinct_parts' (x ∷ xs) ys d h =
      bool_cases (same n x)
      (λ e. or_right (some (same n) xs) _ (sym (some_append (same n) xs ys) ∙ rw (same_true n x e) (not-true _ (and_left _ _ d))))
      (λ e. distinct_parts' xs ys (and_right (not (some (same x) (xs ++ ys))) _ d) (rw e at h))

  -- the index where the parts change places
  index_turned : (xs ys : List Seat) → distinct_seats (xs ++ ys) ≡ true → some (same n) (xs ++ ys) ≡ true
      → Turned (length (xs ++ ys)) (length xs) (rows_before (same n) (xs ++ ys)) (rows_before (same n) (ys ++ xs))
  index_turned xs ys d h =
      let l = length-append xs ys in
      bool_cases (some (same n) xs)
      (λ e. let i = index_left xs ys e in
      let j = index_right ys xs (distinct_parts' xs ys d e) in
      (true, omega arith, omega (arith, index_bound xs e)))
      (λ e. let f = or_not_left (some (same n) xs) _ (sym (some_append (same n) xs ys) ∙ h) e in
      let i = index_right xs ys e in
      let j = index_left ys xs f in
      (false, omega arith, omega (arith, index_bound ys f)))

-- the index in a list rotated by s
index_rotated : (n : Seat) (s : ℕ) (xs : List Seat) → distinct_seats xs ≡ true → some (same n) xs ≡ true → s ≤ length xs
    → Turned (length xs) s (rows_before (same n) xs) (rows_before (same n) (drop s xs ++ take s xs))
index_rotated n s xs d h l = (rw (take-append-drop s xs, length-take-le s xs l) at (index_turned n (take s xs) (drop s xs))) d h

-- going round: after p, what was after p comes nearer
nearer : (N s i j ip jp j' : ℕ) → s ≤ N → i < N → ip < N → Turned N s i j → Turned N s ip jp → Turned N (suc ip) i j' → jp < j → j' < j
nearer N s i j ip jp j' a b c (true, f, d) (true, g, _) (true, h, e) l = omega arith
nearer N s i j ip jp j' a b c (true, f, d) (true, g, _) (false, h, e) l = omega arith
nearer N s i j ip jp j' a b c (true, f, d) (false, g, _) (true, h, e) l = omega arith
nearer N s i j ip jp j' a b c (true, f, d) (false, g, _) (false, h, e) l = omega arith
nearer N s i j ip jp j' a b c (false, f, d) (true, g, _) (k', h, e) l = absurd (omega arith)
nearer N s i j ip jp j' a b c (false, f, d) (false, g, _) (true, h, e) l = omega arith
nearer N s i j ip jp j' a b c (false, f, d) (false, g, _) (false, h, e) l = omega arith

start_bound : (l : Round) (ps : List Seat) → start l ps ≤ length ps
unfolding start is_seat
start_bound anew ps = omega arith
start_bound (after_seat l) ps = cond_cases (λ (s : ℕ). s ≤ length ps) (some (same l) ps) (λ e. omega (arith, index_bound l ps e)) (λ _. omega arith)

pub turn_in : (n : Seat) (l : Round) (ps : List Seat) → some (same n) ps ≡ true → some (same n) (in_turn l ps) ≡ true
unfolding in_turn
turn_in n l ps h = some_rotated (same n) (start l ps) ps ∙ h

-- a seat in turn is a seat
pub turn_of : (n : Seat) (l : Round) (ps : List Seat) → some (same n) (in_turn l ps) ≡ true → some (same n) ps ≡ true
unfolding in_turn
turn_of n l ps h = sym (some_rotated (same n) (start l ps) ps) ∙ h

pub turn_bound : (n : Seat) (l : Round) (ps : List Seat) → distinct_seats ps ≡ true → some (same n) ps ≡ true → rows_before (same n) (in_turn l ps) < length ps
unfolding in_turn
turn_bound n l ps d h = (index_rotated n (start l ps) ps d h (start_bound l ps)).2

-- once p was taken, a seat after it is nearer
pub turn_nearer : (n p : Seat) (l : Round) (ps : List Seat) → distinct_seats ps ≡ true → some (same n) ps ≡ true → some (same p) ps ≡ true
    → rows_before (same p) (in_turn l ps) < rows_before (same n) (in_turn l ps)
    → rows_before (same n) (in_turn (after_seat p) ps) < rows_before (same n) (in_turn l ps)
unfolding in_turn start is_seat
turn_nearer n p l ps d h hp e =
    let a = index_rotated n (start l ps) ps d h (start_bound l ps) in
    let b = index_rotated p (start l ps) ps d hp (start_bound l ps) in
    let behind : start (after_seat p) ps ≡ suc (rows_before (same p) ps) = rw hp in
    let c = rw behind at (index_rotated n (start (after_seat p) ps) ps d h (start_bound (after_seat p) ps)) in
    rw behind (nearer (length ps) (start l ps) _ _ _ _ _ (start_bound l ps) (index_bound n ps h) (index_bound p ps hp) a b c e)
