-- Theorem: a day with power cuts, tables and queue stored as one image, is a run of the typed rules, of any calls and of C calls.
use Rattle.rows.proofs.Prelude.{◌≡◌, true, List, sym, subst}
use Rattle.rules.specs.Defaults.{Defaults}
use Rattle.rules_typed.specs.Tables.{is_bytes}
use Rattle.rules_typed.specs.Struct.{IsStruct, DefaultBytes}
use Rattle.rules_terminal.specs.Terminal.{Terminal}
use Rattle.rules_terminal.specs.CallRun.{Call, all_shown}
use Rattle.rules_power.specs.Kept.{Act, AsCalls}
use Rattle.rules_power.specs.Day.{Event}
use Rattle.rules_demands.specs.Demands.{AsQueue, InputBytes}
use Rattle.rules_demands.proofs.Calls.{typed_queue}

module _ (d : Defaults) (e : DefaultBytes d) (x : Terminal) (i : IsStruct x.tables) (w : is_bytes x.queue ≡ true) (es : List (Event Act Call)) (z : Terminal)
    (run : AsCalls d x es z) (h : InputBytes run.inputs) where
  pub typed_day : AsQueue d x run.inputs (all_shown run.inputs run.calls) z
  typed_day =
      subst (λ (v : Terminal). AsQueue d x run.inputs (all_shown run.inputs run.calls) v) (sym run.ends)
      (typed_queue d e x i w run.inputs run.calls run.built h)
