-- U14 is not empty: two orders of three access rows, one run with a hand-in, a take and a record judged directly in it, and what both sides tell.
-- And that both terminals must be sound.
use Rattle.rows.proofs.Prelude.{◌≡◌, refl, List, [], ◌∷◌, ◌++◌, map, ℕ, replicate, leb}
use Rattle.rows.specs.Rows.{Row, joined}
use Rattle.rules.specs.declared.StoreRange.{StoreRange}
use Rattle.rules.specs.declared.Table.TheVariants.{Aces}
use Rattle.rules.specs.Record.{received}
use Rattle.rules.specs.Bodies.{row_number}
use Rattle.rules.specs.Tables.{rows}
use Rattle.rules.specs.Defaults.{no_defaults}
use Rattle.rules.specs.StoreRange.{no_range}
use Rattle.rules.specs.Promises.Theorems.{rows_of_reply}
use Rattle.rules.specs.Run.{replies, final}
use Rattle.rules.proofs.Samples.{uuid, ace_body, ace_row, weight, connected, serving}
use Rattle.rules_terminal.specs.Slots.{empty_queue}
use Rattle.rules_terminal.specs.Terminal.{Terminal, terminal}
use Rattle.rules_terminal.specs.Inputs.{Input, hand_in, take_at, direct, transition, next}
use Rattle.rules_order.specs.Reorder.{none, keep, swap, then, inserted, sorted}
use Rattle.rules_order.specs.Order.{OrderOnly, InStep, with_access, SameAnswer, InPairs}
use Rattle.rules_order.proofs.OneRecord.{with_bytes}
use Rattle.rules_order.proofs.AnyOrder.{any_order}
use Rattle.rules_examples.proofs.Waiting.{waiting_definitions}

-- resource 8 for anyone in clear: to read, to update; and to create for the owner
first : Row
first = ace_row 1 2 2 0 weight (connected 0)

second : Row
second = ace_row 2 2 4 0 weight (connected 0)

third : Row
third = ace_row 3 0 1 0 weight uuid

-- by number, and in another order; nothing waits
pub numbered : Terminal
numbered = terminal (serving (first ∷ second ∷ third ∷ [])) empty_queue

pub shuffled : Terminal
shuffled = terminal (serving (third ∷ first ∷ second ∷ [])) empty_queue

-- the owner, partner 5, and somebody in clear hand in a listing of the access rows and a RETRIEVE of resource 8, and both are taken;
-- the owner goes to state 2, hands in a DELETE of row 1, which is taken, replaces row 2 and lists the rows again
pub day : List Input
day =
    hand_in (0x30 ∷ 0xc0 ∷ 0x00 ∷ 0x05 ∷ [])
    ∷ hand_in (0x22 ∷ 0x00 ∷ 0x00 ∷ 0x00 ∷ [])
    ∷ take_at 100 0
    ∷ take_at 101 1168
    ∷ direct (received 102 (0x50 ∷ 0x40 ∷ 0x00 ∷ 0x05 ∷ 0x40 ∷ []) 0)
    ∷ hand_in (0x70 ∷ 0xc0 ∷ 0x00 ∷ 0x05 ∷ 0x00 ∷ 0x01 ∷ [])
    ∷ take_at 103 0
    ∷ direct (received 104 (0x50 ∷ 0xc0 ∷ 0x00 ∷ 0x05 ∷ ace_body 2 2 2 0 weight (connected 1)) 0)
    ∷ direct (received 105 (0x30 ∷ 0xc0 ∷ 0x00 ∷ 0x05 ∷ []) 1168)
    ∷ []

-- `unfolding orders` opens all that these examples say
orders : Unit {0}
unfolding waiting_definitions inserted sorted first second third numbered shuffled day
orders = tt

-- ---- everybody is permitted, with the same permission, and handed the same record; the rows that are listed
-- and the places that the DELETE reports do differ

-- each input's answer and permission, the record given out, the numbers of the rows that the reply lists, and the places
abbrev Result : Type 0
Result = ℕ × ℕ × List ℕ × List ℕ × StoreRange

abbrev said : Terminal → Input → Result
said x i =
    let a = transition no_defaults x i in
    let t = a.response in
    (t.answer, t.permission, a.bytes, map row_number (rows_of_reply Aces t.contents), t.store)

-- what an order of the rows is seen by: the rows listed before and after the DELETE, and its places
abbrev day_with : List ℕ → List ℕ → StoreRange → List Result
day_with before behind store =
    (0, 0, [], [], no_range)
    ∷ (0, 0, [], [], no_range)
    ∷ (0, 6, 0x22 ∷ 0x00 ∷ 0x00 ∷ 0x00 ∷ [], [], no_range)
    ∷ (0, 31, 0x30 ∷ 0xc0 ∷ 0x00 ∷ 0x05 ∷ [], before, no_range)
    ∷ (0, 31, [], [], no_range)
    ∷ (0, 0, [], [], no_range)
    ∷ (0, 31, 0x70 ∷ 0xc0 ∷ 0x00 ∷ 0x05 ∷ 0x00 ∷ 0x01 ∷ [], [], store)
    ∷ (0, 31, [], [], no_range)
    ∷ (0, 31, [], behind, no_range)
    ∷ []

pub numbered_result : replies said (next no_defaults) numbered day ≡ day_with (1 ∷ 2 ∷ 3 ∷ []) (2 ∷ 3 ∷ []) (record { first = 0; count = 3 })
unfolding orders
numbered_result = refl

pub shuffled_result : replies said (next no_defaults) shuffled day ≡ day_with (3 ∷ 1 ∷ 2 ∷ []) (3 ∷ 2 ∷ []) (record { first = 1; count = 2 })
unfolding orders
shuffled_result = refl

-- ---- sorting by number leads from one to the other, the premise holds, and with it the claim

pub sorted_by_number : with_access shuffled (sorted (λ v w. leb (row_number v) (row_number w)) (rows Aces shuffled.tables)) ≡ numbered
unfolding orders
sorted_by_number = refl

pub in_step : InStep numbered shuffled
unfolding orders
in_step = record { sound_left = refl; sound_right = refl; queue = refl; tables = record { others = refl; counted = refl; order = then (keep swap) swap } }

pub day_any_order : InPairs SameAnswer day (replies (transition no_defaults) (next no_defaults) numbered day)
    (replies (transition no_defaults) (next no_defaults) shuffled day)
    × InStep (final (next no_defaults) numbered day) (final (next no_defaults) shuffled day)
unfolding orders
day_any_order = any_order no_defaults numbered shuffled day in_step refl

-- ---- both must be sound: with a byte after its rows the second answers 1

pub spoiled : Terminal
spoiled = terminal (with_bytes numbered.tables (joined (first ∷ second ∷ third ∷ []) ++ (7 ∷ replicate 1043 0))) empty_queue

pub spoiled_order : OrderOnly numbered.tables spoiled.tables
unfolding orders spoiled
spoiled_order = record { others = refl; counted = refl; order = keep (keep (keep none)) }

pub spoiled_answers : map (λ x. (transition no_defaults x (hand_in (0x22 ∷ 0x00 ∷ 0x00 ∷ 0x00 ∷ []))).response.answer) (numbered ∷ spoiled ∷ []) ≡ 0 ∷ 1 ∷ []
unfolding orders spoiled
spoiled_answers = refl
