-- Worked examples: images of two bytes, and eight marks.
use Rattle.rows.proofs.Prelude.{◌≡◌, refl, List, [], ◌∷◌, ℕ}
use Rattle.rows.specs.Rows.{same}
use Rattle.rules_store.specs.declared.Step.TheVariants.{Write, Done, Unfit}
use Rattle.rules_store.specs.Store.{image_at, marks, sum, counter, even_counter, current_at, spare_at, current, spare, mismatch, mismatch_from, to_copy}
use Rattle.rules_store.specs.Store.{mark_at, raised, raise, write_at, write, fits, settled, next}
use Rattle.rules_store.specs.Run.{writes, written, stored}

layout : Unit {0}
unfolding image_at marks sum counter even_counter current_at spare_at current spare
layout = tt

step : Unit {0}
unfolding same mismatch mismatch_from to_copy mark_at raised raise write_at write fits settled next
step = tt

-- marks of which this many were raised
abbrev pub none : List ℕ
none = 0 ∷ 0 ∷ 0 ∷ 0 ∷ 0 ∷ 0 ∷ 0 ∷ 0 ∷ []

abbrev pub one : List ℕ
one = 1 ∷ 0 ∷ 0 ∷ 0 ∷ 0 ∷ 0 ∷ 0 ∷ 0 ∷ []

-- the first image is current; with one mark raised, the second
pub first_image : current 2 (1 ∷ 2 ∷ 3 ∷ 4 ∷ none) ≡ 1 ∷ 2 ∷ []
unfolding layout
first_image = refl

pub second_image : current 2 (1 ∷ 2 ∷ 3 ∷ 4 ∷ one) ≡ 3 ∷ 4 ∷ []
unfolding layout
second_image = refl

-- (3, 5) goes over (3, 4): one byte differs, then the first mark is raised
pub first_run : writes 9 (1 ∷ 2 ∷ 3 ∷ 4 ∷ none) (3 ∷ 5 ∷ []) 0 ≡ Write 3 5 ∷ Write 4 1 ∷ []
unfolding layout step writes
first_run = refl

pub after_it : stored (3 ∷ 5 ∷ []) (1 ∷ 2 ∷ 3 ∷ 4 ∷ none) ≡ 1 ∷ 2 ∷ 3 ∷ 5 ∷ one
unfolding layout step writes written stored
after_it = refl

-- (9, 8) goes over (1, 2) then, and the second mark is raised
pub next_run : writes 9 (1 ∷ 2 ∷ 3 ∷ 5 ∷ one) (9 ∷ 8 ∷ []) 0 ≡ Write 0 9 ∷ Write 1 8 ∷ Write 5 1 ∷ []
unfolding layout step writes
next_run = refl

-- the current image is not written again
pub no_run : next (1 ∷ 2 ∷ 3 ∷ 4 ∷ none) (1 ∷ 2 ∷ []) 0 ≡ Done
unfolding layout step
no_run = refl

-- a mark of 255 becomes 0: an odd counter, 255, becomes an even one
pub mark_wraps : next (7 ∷ 7 ∷ 1 ∷ 2 ∷ 0 ∷ 0 ∷ 0 ∷ 0 ∷ 0 ∷ 0 ∷ 0 ∷ 255 ∷ []) (7 ∷ 7 ∷ []) 2 ≡ Write 11 0
unfolding layout step
mark_wraps = refl

-- a position too far on leaves no byte out, and raises no mark too soon
pub lost_position : next (1 ∷ 2 ∷ 3 ∷ 4 ∷ none) (9 ∷ 4 ∷ []) 4 ≡ Write 2 9
unfolding layout step
lost_position = refl

-- an image of another length
pub other_length : next (1 ∷ 2 ∷ 3 ∷ 4 ∷ none) (9 ∷ []) 0 ≡ Unfit
unfolding layout step
other_length = refl
