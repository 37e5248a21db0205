-- A worked example: a machine of one byte, which keeps its last input and answers with the one before.
use Rattle.rows.proofs.Prelude.{◌≡◌, refl, List, [], ◌∷◌, ℕ, get_or, set}
use Rattle.rows.specs.Rows.{same}
use Rattle.rules_store.specs.Store.{image_at, marks, sum, counter, even_counter, current_at, spare_at, current, spare, mismatch, mismatch_from, to_copy}
use Rattle.rules_store.specs.Store.{mark_at, raised, raise, write_at, write, fits, settled, next}
use Rattle.rules_store.specs.Cuts.{Attempt, stops, tries}
use Rattle.rules_store.proofs.Parts.{torn_byte}
use Rattle.rules_power.specs.Day as day
use Rattle.rules_power.specs.Day.{Machine, replied, cut, idle, found, Day, Run, SeenOf}

layout : Unit {0}
unfolding image_at marks sum counter even_counter current_at spare_at current spare
layout = tt

step : Unit {0}
unfolding same mismatch mismatch_from to_copy mark_at raised raise write_at write fits settled next
step = tt

abbrev cell : Machine ℕ ℕ ℕ
cell = record {
  Gives = λ x i a y. (a ≡ x) × (y ≡ i);
  size = 1;
  image = λ x. x ∷ [];
  load = λ b. get_or b 0 0;
  restart = λ x. x;
}

-- 7 is current
abbrev morning : List ℕ
morning = 7 ∷ 3 ∷ 0 ∷ 0 ∷ 0 ∷ 0 ∷ 0 ∷ 0 ∷ 0 ∷ 0 ∷ []

-- 9 is stored to the end, and answered
abbrev noon : List ℕ
noon = 7 ∷ 9 ∷ 1 ∷ 0 ∷ 0 ∷ 0 ∷ 0 ∷ 0 ∷ 0 ∷ 0 ∷ []

-- the power is cut while 5 is being written, and 77 is left in its place
abbrev dusk : List ℕ
dusk = 77 ∷ 9 ∷ 1 ∷ 0 ∷ 0 ∷ 0 ∷ 0 ∷ 0 ∷ 0 ∷ 0 ∷ []

-- 5 comes again and is stored to the end, but the power is cut before the answer
abbrev night : List ℕ
night = 5 ∷ 9 ∷ 1 ∷ 1 ∷ 0 ∷ 0 ∷ 0 ∷ 0 ∷ 0 ∷ 0 ∷ []

first : Attempt (9 ∷ []) morning noon
unfolding layout step
first = tries 0 1 9 refl (torn_byte 1 1 morning 9) (tries 2 2 1 refl (torn_byte 1 2 (set morning 1 9) 1) stops)

second : Attempt (5 ∷ []) noon dusk
unfolding layout step
second = tries 0 0 5 refl (torn_byte 1 0 noon 77) stops

third : Attempt (5 ∷ []) dusk night
unfolding layout step
third = tries 0 0 5 refl (torn_byte 1 0 dusk 5) (tries 1 3 1 refl (torn_byte 1 3 (set dusk 0 5) 1) stops)

pub a_day : Day cell 7 morning (replied 9 7 ∷ cut 5 ∷ idle ∷ cut 5 ∷ []) 5 night
unfolding layout step found
a_day = day.answers 9 7 (refl, refl) first 3 refl (day.cuts 5 9 (refl, refl) second (day.idles (day.cuts 5 9 (refl, refl) third day.ends)))

-- the run without power cuts has 9, and 5 once
pub its_run : Run cell 7 (9 ∷ 5 ∷ []) (7 ∷ 9 ∷ []) 5
its_run = day.more 9 7 (refl, refl) (day.more 5 9 (refl, refl) day.none)

pub its_events : SeenOf {Input = ℕ} {Answer = ℕ} (9 ∷ 5 ∷ []) (7 ∷ 9 ∷ []) (replied 9 7 ∷ cut 5 ∷ idle ∷ cut 5 ∷ [])
its_events = day.transition 9 7 (day.left_out 5 (day.unseen (day.counted 5 9 day.none)))
