-- Laws of the slot whose turn it is, as the code finds it.
use Rattle.rows.proofs.Prelude.{◌≡◌, refl, sym, ap, ap₂, ◌∙◌, append_assoc, eqb, Bool, true, false, cond, List, [], ◌∷◌, ◌++◌, map, append-nil, ℕ, ◌+◌, ◌≤◌}
use Rattle.rows.proofs.Prelude.{arith, length, take, drop, drop_of_length-le, length-map, take_all, cond_cases, bool_cases}
use Rattle.std.specs.Prelude.{Option, Some, None}
use Rattle.std.proofs.lemmas.List.{map-append, drop-map, take-map}
use Rattle.std.proofs.lemmas.Iterator.{YieldsList}
use denote.Ref.{Bor}
use Rattle.rows.specs.Rows.{Row, same, has_key, some, rows_before}
use Rattle.rows.specs.Promises.{index_from, index_of}
use Rattle.std.specs.Cmp.Lexicographic.{pointwise}
use Rattle.rows.proofs.Walk.{same_is}
use Rattle.rows.proofs.Laws.{found_cases}
use Rattle.rules.specs.Bits.{be16}
use Rattle.rules_terminal.specs.Slots.{Seat, Round, anew, after_seat}
use Rattle.rules_terminal.specs.Round.{nobody, is_seat, start, in_turn}
use Rattle.rules_terminal.proofs.SeatLaws.{index_bound}
use Rattle.queue.proofs.Laws.{key_same}
use Rattle.queue_turn.specs.Turns.{or_else, slot_in, rows_ahead}

-- ---- where the last seat is

index_place : (k : ℕ) (p : Seat) (ws : List Row) → length p ≡ 2
    → index_from k (has_key 0 p) ws ≡ cond (some (same p) (map (take 2) ws)) (Some (k + rows_before (same p) (map (take 2) ws))) None
unfolding index_from some rows_before
index_place k p [] l = refl
index_place k p (w ∷ ws) l =
    rw (key_same p w l)
    (bool_cases (same p (take 2 w)) (λ e. rw e (ap Some (omega arith)))
    (λ e. rw e (index_place (k + 1) p ws l ∙ ap (λ (j : ℕ). cond (some (same p) (map (take 2) ws)) (Some j) None) (omega arith))))

-- the rows up to a place that was found, or all n
abbrev pub behind : ℕ → Option ℕ → ℕ
behind n (Some i) = i + 1
behind n None = n

module _ (rows : List Row) (n : ℕ) (all : n ≡ length rows) where
  numbers_all : n ≡ length (map (take 2) rows)
  numbers_all = all ∙ sym (length-map rows (take 2))

  pub ahead_anew : n ≡ rows_ahead anew (map (take 2) rows)
  unfolding rows_ahead
  ahead_anew = numbers_all

  pub ahead_bound : (k : Round) → rows_ahead k (map (take 2) rows) ≤ n
  unfolding rows_ahead is_seat
  ahead_bound anew = omega (arith, numbers_all)
  ahead_bound (after_seat p) =
      cond_cases (λ (j : ℕ). j ≤ n) (same p nobody) (λ _. omega arith)
      (λ _. cond_cases (λ (j : ℕ). j ≤ n) (some (same p) (map (take 2) rows))
      (λ e. omega (arith, index_bound p (map (take 2) rows) e, numbers_all)) (λ _. omega (arith, numbers_all)))

  module _ (p : Seat) (two : length p ≡ 2) (b : Bool) (is : b ≡ pointwise eqb p (0 ∷ 0 ∷ [])) where
    z : b ≡ same p nobody
    unfolding be16
    z = is ∙ same_is p (0 ∷ 0 ∷ [])

    pub ahead_nobody : b ≡ true → 0 ≡ rows_ahead (after_seat p) (map (take 2) rows)
    unfolding rows_ahead
    ahead_nobody e = sym (rw (sym z ∙ e))

    pub ahead_else : b ≡ false → behind n (index_of (has_key 0 p) rows) ≡ rows_ahead (after_seat p) (map (take 2) rows)
    unfolding rows_ahead is_seat
    ahead_else e =
        rw (index_place 0 p rows two, sym z ∙ e)
        (bool_cases (some (same p) (map (take 2) rows)) (λ f. rw f (omega arith)) (λ f. rw f numbers_all))

-- ---- the seats in turn

slot_append : (ws : List Row) (xs ys : List Seat) → slot_in ws (xs ++ ys) ≡ or_else (slot_in ws xs) (slot_in ws ys)
unfolding slot_in
slot_append ws [] ys = refl
slot_append ws (x ∷ xs) ys = found_cases (index_of (has_key 0 x) ws) (λ i e. rw e) (λ e. rw e (slot_append ws xs ys))

anew_turned : (ns : List Seat) → nobody ∷ (ns ++ []) ≡ drop (length ns) ns ++ nobody ∷ take (length ns) ns
anew_turned ns =
    let all : length ns ≤ length ns = omega arith in
    rw (drop_of_length-le ns all, take_all (length ns) ns all, append-nil ns)

-- after the last seat taken, then the unauthenticated seat, then the rows before
turned : (k : Round) (ns : List Seat) → in_turn k (nobody ∷ ns) ≡ drop (rows_ahead k ns) ns ++ nobody ∷ take (rows_ahead k ns) ns
unfolding in_turn start rows_ahead is_seat some rows_before
turned anew ns = anew_turned ns
turned (after_seat p) ns =
    bool_cases (same p nobody) (λ e. rw e)
    (λ e. bool_cases (some (same p) ns) (λ f. rw (e, f)) (λ f. rw (e, f) (anew_turned ns)))

-- the rows in turn, with the unauthenticated seat among them
pub rows_turned : (k : Round) (rows : List Row) (n : ℕ) → n ≡ rows_ahead k (map (take 2) rows)
    → map (take 2) ((drop n rows ++ (nobody ∷ [])) ++ take n rows) ≡ in_turn k (nobody ∷ map (take 2) rows)
unfolding be16
rows_turned k rows n e =
    sym (turned k (map (take 2) rows) ∙ rw (← e, drop-map (take 2) n rows, take-map (take 2) n rows, map-append, map-append, append_assoc))

-- what the walk over them answers
pub turned_answer : (slots ws : List Row) → slots ≡ ws → (last k : Round) → last ≡ k → (rows : List Row) (n : ℕ) → n ≡ rows_ahead last (map (take 2) rows)
    → slot_in slots (map (take 2) ((drop n rows ++ (nobody ∷ [])) ++ take n rows)) ≡ slot_in ws (in_turn k (nobody ∷ map (take 2) rows))
turned_answer slots ws e last k f rows n is = ap₂ slot_in e (rows_turned last rows n is ∙ ap (λ (r : Round). in_turn r (nobody ∷ map (take 2) rows)) f)

-- ---- the same in three steps

or_none : (x : Option ℕ) → or_else x None ≡ x
or_none (Some i) = refl
or_none None = refl

module _ (slots rows : List Row) (n : ℕ) where
  abbrev pub later : Option ℕ
  later = slot_in slots (map (take 2) (drop n rows))

  abbrev pub shared : Option ℕ
  shared = index_of (has_key 0 nobody) slots

  abbrev pub earlier : Option ℕ
  earlier = slot_in slots (map (take 2) (take n rows))

  abbrev pub whole : Option ℕ
  whole = slot_in slots (map (take 2) ((drop n rows ++ (nobody ∷ [])) ++ take n rows))

  one : slot_in slots (map (take 2) (nobody ∷ [])) ≡ shared
  unfolding slot_in be16
  one = or_none (index_of (has_key 0 nobody) slots)

  steps_are : whole ≡ or_else (or_else later shared) earlier
  steps_are =
      ap (slot_in slots) (map-append (take 2) (drop n rows ++ (nobody ∷ [])) (take n rows))
      ∙ slot_append slots (map (take 2) (drop n rows ++ (nobody ∷ []))) (map (take 2) (take n rows))
      ∙ ap (λ (x : Option ℕ). or_else x earlier)
      (ap (slot_in slots) (map-append (take 2) (drop n rows) (nobody ∷ [])) ∙ slot_append slots (map (take 2) (drop n rows)) (map (take 2) (nobody ∷ []))
      ∙ ap (or_else later) one)

  pub at_later : (i : ℕ) → Some i ≡ later → Some i ≡ whole
  at_later i h = sym (steps_are ∙ ap (λ (x : Option ℕ). or_else (or_else x shared) earlier) (sym h))

  module _ (none : None ≡ later) where
    pub at_shared : (i : ℕ) → Some i ≡ shared → Some i ≡ whole
    at_shared i h = sym (steps_are ∙ ap₂ (λ (x y : Option ℕ). or_else (or_else x y) earlier) (sym none) (sym h))

    pub at_earlier : (x : Option ℕ) → None ≡ shared → x ≡ earlier → x ≡ whole
    at_earlier x h e = e ∙ sym (steps_are ∙ ap₂ (λ (x y : Option ℕ). or_else (or_else x y) earlier) (sym none) (sym h))

-- ---- the walk over them

-- where a walk has seats left, and the answer is theirs
pub record Left {S : Type 0} (steps : S → Option (Bor Row) → S → Type 0) (walk : S) (slots seats : List Row) : Type 0 where
  pub rest : List Row
  pub gives : YieldsList steps (λ seat. seat.now) walk rest
  pub answer : slot_in slots (map (take 2) seats) ≡ slot_in slots (map (take 2) rest)

module _ {S : Type 0} (steps : S → Option (Bor Row) → S → Type 0) (walk : S) (slots seats : List Row) (l : Left steps walk slots seats) where
  pub at_end : (u : S) → steps walk None u → None ≡ slot_in slots (map (take 2) seats)
  unfolding slot_in
  at_end u h = sym (l.answer ∙ ap (λ (rest : List Row). slot_in slots (map (take 2) rest)) (none_left l.rest l.gives))
    where
      none_left : (rest : List Row) → YieldsList steps (λ seat. seat.now) walk rest → rest ≡ []
      none_left [] g = refl
      none_left (seat ∷ rest) g = absurd (g.runs.0 u h)

  module _ (seat : Bor Row) (u : S) (h : steps walk (Some seat) u) where
    more : (rest : List Row) → YieldsList steps (λ s. s.now) walk rest → slot_in slots (map (take 2) seats) ≡ slot_in slots (map (take 2) rest)
        → (left : List Row) × YieldsList steps (λ s. s.now) u left
        × (slot_in slots (map (take 2) seats) ≡ or_else (index_of (has_key 0 (take 2 seat.now)) slots) (slot_in slots (map (take 2) left)))
    unfolding slot_in
    more [] g e = absurd (g.runs seat u h)
    more (row ∷ rest) g e =
        let next = g.runs.1 seat u h in
        (rest, record { runs = next.1 }, e ∙ rw (sym next.0))

    pub found : (at : Option ℕ) → at ≡ index_of (has_key 0 (take 2 seat.now)) slots → (i : ℕ) → at ≡ Some i → Some i ≡ slot_in slots (map (take 2) seats)
    found at is i e = let m = more l.rest l.gives l.answer in sym (m.2 ∙ rw (sym is ∙ e))

    pub goes_on : (at : Option ℕ) → at ≡ index_of (has_key 0 (take 2 seat.now)) slots → at ≡ None → Left steps u slots seats
    goes_on at is e = let m = more l.rest l.gives l.answer in record { rest = m.0; gives = m.1; answer = m.2 ∙ rw (sym is ∙ e) }
