-- There are calls that meet the contracts, for any inputs on any terminal: those that give just what the contracts promise,
-- with buffers of zeros. So the theorems of calls are not empty.
use Rattle.rows.proofs.Prelude.{refl, List, [], ◌∷◌, length-replicate}
use Rattle.rules.specs.Defaults.{Defaults}
use Rattle.rules_terminal.specs.Terminal.{Terminal}
use Rattle.rules_terminal.specs.Inputs.{Input, hand_in, take_at, direct, next}
use Rattle.rules_terminal.specs.CallRun.{Meets, Built}
use Rattle.rules_runs.specs.Made.{call_at, calls_at}

call_meets : (d : Defaults) (x : Terminal) (i : Input) → Meets d x i (call_at d x i)
call_meets d x (hand_in r) = record { says = refl; keeps = refl }
call_meets d x (take_at clock capacity) =
    (record { hands = refl; leaves = record { keeps = refl; fills = refl } }, record { sized = length-replicate capacity 0; passes = refl })
call_meets d x (direct q) =
    (record { says = refl; leaves = record { keeps = refl; fills = refl } }, record { sized = length-replicate q.capacity 0; passes = refl })

pub calls_built : (d : Defaults) (x : Terminal) (is : List Input) → Built d x is (calls_at d x is)
calls_built d x [] = tt
calls_built d x (hand_in r ∷ is) = (call_meets d x (hand_in r), calls_built d (next d x (hand_in r)) is)
calls_built d x (take_at clock capacity ∷ is) = (call_meets d x (take_at clock capacity), calls_built d (next d x (take_at clock capacity)) is)
calls_built d x (direct q ∷ is) = (call_meets d x (direct q), calls_built d (next d x (direct q)) is)
