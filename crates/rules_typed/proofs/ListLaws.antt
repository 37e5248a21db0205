-- A list of rows that are read, row by row: what finds, joins, stores or removes typed rows does what the rules do with the bytes.
use Rattle.rows.proofs.Prelude.{◌≡◌, refl, ap₂, Bool, ◌||◌, cond, List, [], ◌∷◌, map, ℕ, bool_cases, length-map, bit_or}
use Rattle.rows.specs.Rows.{Row, first_row, some, union_of, rows_before, without as withoutRows, stored as storedRows, numbered_as}
use Rattle.rules.specs.StoreRange.{gap_of}
use Rattle.rules_typed.specs.Lists.{none, just, any, find, without, put, before, union}
use Rattle.rules_typed.specs.Outcome.{gap}
use Rattle.rules_typed.specs.Writing.{written_places}

-- each row of the list has the property
abbrev pub Each : (Row → Type 0) → List Row → Type 0
Each Q [] = Unit {0}
Each Q (w ∷ ws) = Q w × Each Q ws

module _ {A : Type 0} (read : Row → A) (Q : Row → Type 0) where
  pub union_read : (f : Row → ℕ) (g : A → ℕ) → ((w : Row) → Q w → g (read w) ≡ f w) → (ws : List Row) → Each Q ws → union g (map read ws) ≡ union_of f ws
  unfolding union union_of
  union_read f g e [] q = refl
  union_read f g e (w ∷ ws) q = ap₂ bit_or (e w q.0) (union_read f g e ws q.1)

  module _ (p : Row → Bool) (o : A → Bool) (e : (w : Row) → Q w → o (read w) ≡ p w) where
    pub any_read : (ws : List Row) → Each Q ws → any o (map read ws) ≡ some p ws
    unfolding any some
    any_read [] q = refl
    any_read (w ∷ ws) q = ap₂ (λ (x y : Bool). x || y) (e w q.0) (any_read ws q.1)

    pub find_read : (ws : List Row) → Each Q ws → find o (map read ws) ≡ cond (some p ws) (just (read (first_row p ws))) none
    unfolding find some first_row
    find_read [] q = refl
    find_read (w ∷ ws) q = rw (e w q.0) (bool_cases (p w) (λ t. rw t) (λ f. rw f (find_read ws q.1)))

    pub before_read : (ws : List Row) → Each Q ws → before o (map read ws) ≡ rows_before p ws
    unfolding before rows_before
    before_read [] q = refl
    before_read (w ∷ ws) q = rw (e w q.0) (bool_cases (p w) (λ t. rw t) (λ f. rw (f, before_read ws q.1)))

    pub gap_read : (ws : List Row) → Each Q ws → written_places (gap o (map read ws)) ≡ gap_of p ws
    unfolding gap gap_of
    gap_read ws q = rw (any_read ws q, before_read ws q, length-map) (bool_cases (some p ws) (λ e. rw e) (λ e. rw e))

    pub without_read : (ws : List Row) → Each Q ws → without o (map read ws) ≡ map read (withoutRows p ws)
    unfolding without withoutRows
    without_read [] q = refl
    without_read (w ∷ ws) q = rw (e w q.0) (bool_cases (p w) (λ t. rw (t, without_read ws q.1)) (λ f. rw (f, without_read ws q.1)))

  module _ (new : Row) (o : A → Bool) (e : (w : Row) → Q w → o (read w) ≡ numbered_as new w) where
    pub put_read : (ws : List Row) → Each Q ws → put o (read new) (map read ws) ≡ map read (storedRows new ws)
    unfolding put storedRows
    put_read [] q = refl
    put_read (w ∷ ws) q = rw (e w q.0) (bool_cases (numbered_as new w) (λ t. rw t) (λ f. rw (f, put_read ws q.1)))
