-- U14 of any calls that meet the contracts of `hand_in`, `take` and `judge`, and of
-- `payload` after the last two, each on the tables and the memory returned last.
use Rattle.rows.proofs.Prelude.{◌≡◌, List, length}
use Rattle.rules.specs.Defaults.{Defaults}
use Rattle.rules_terminal.specs.Terminal.{Terminal}
use Rattle.rules_terminal.specs.Inputs.{Input}
use Rattle.rules_terminal.specs.CallRun.{Call, Built, handed_back, all_shown}
use Rattle.rules_terminal.proofs.Shown.{built_shown}
use Rattle.rules_order.specs.Order.{InStep, SameAnswer, InPairs}
use Rattle.rules_order.proofs.AnyOrder.{any_order}

-- what two lists of calls show at each input, and the terminals returned last
pub built_any_order :
    (d : Defaults) (x y : Terminal) (is : List Input) (cs es : List Call)
    → Built d x is cs → Built d y is es
    → InStep x y → length x.tables.rowners ≡ 64
    → InPairs SameAnswer is (all_shown is cs) (all_shown is es) × InStep (handed_back x cs) (handed_back y es)
built_any_order d x y is cs es b c s l =
    let left = built_shown d x is cs b in
    let right = built_shown d y is es c in
    rw (left.0, right.0, left.1, right.1) (any_order d x y is s l)
