-- What a short list has for a number: the definitions' form of a table with named rows.
use Rattle.std.specs.Prelude.{ℕ, cond, List, [], ◌∷◌, eqb}

module _ {A : Type 0} where
  -- what the first entry with this number has, else `none`
  abbrev pub lookup : ℕ → List (ℕ × A) → A → A
  lookup n [] none = none
  lookup n (entry ∷ entries) none = cond (eqb n entry.0) entry.1 (lookup n entries none)
