-- Not empty: for any memory and any inputs there are C calls of which all theorems over C calls speak.
-- Each call is made by the definitions, on the memory that the one before left.
use Rattle.rows.proofs.Prelude.{refl, List, [], ◌∷◌, length-replicate}
use Rattle.rules.specs.Defaults.{Defaults}
use Rattle.rules_terminal.specs.Inputs.{Input, hand_in, take_at, direct}
use Rattle.rules_interface.specs.Memory.{Memory}
use Rattle.rules_interface.specs.Calls.{Promised, CBuilt}
use Rattle.rules_interface.specs.Made.{call_on, calls_on}

call_promised : (d : Defaults) (m : Memory) (i : Input) → Promised d m i (call_on d m i)
call_promised d m (hand_in r) = (record { says = refl; keeps = refl }, refl)
call_promised d m (take_at clock capacity) = (record { says = refl; sized = refl; hands = refl; keeps = refl; fills = refl }, length-replicate capacity 0)
call_promised d m (direct q) = (record { says = refl; keeps = refl; fills = refl }, length-replicate q.capacity 0)

pub c_calls_built : (d : Defaults) (m : Memory) (is : List Input) → CBuilt d m is (calls_on d m is)
c_calls_built d m [] = tt
c_calls_built d m (i ∷ is) = (call_promised d m i, c_calls_built d (call_on d m i).memory is)
