-- Theorems of C calls: a list that is accepted is loaded (U10), and the order of the access rows changes no answer (U14).
-- The C calls are calls (`c_built`), so each theorem is the one over calls (rules_lists/proofs/Loaded.antt, rules_order/proofs/Calls.antt).
use Rattle.rows.proofs.Prelude.{◌≡◌, List, [], map, ℕ, length}
use Rattle.rules.specs.declared.Table.TheVariants.{Aces}
use Rattle.rules.specs.Record.{Request}
use Rattle.rules.specs.Tables.{rows, with_rows}
use Rattle.rules.specs.Defaults.{Defaults}
use Rattle.rules.specs.Outcome.{Response}
use Rattle.rules_terminal.specs.Inputs.{Input}
use Rattle.rules_runs.specs.Isolation.{requests_of, all_responses}
use Rattle.rules_lists.specs.Lists.{listed, list_tested}
use Rattle.rules_lists.specs.Loading.{Ready, Stores}
use Rattle.rules_lists.proofs.Loaded.{built_loaded}
use Rattle.rules_order.specs.Order.{InStep, SameAnswer, InPairs}
use Rattle.rules_order.proofs.Calls.{built_any_order}
use Rattle.rules_interface.specs.Memory.{Memory, terminal_at}
use Rattle.rules_interface.specs.Calls.{CCall, CBuilt}
use Rattle.rules_interface.specs.CallRun.{calls_of, shown_by, left_by}
use Rattle.rules_interface.proofs.CCalls.{c_built}

module _ (d : Defaults) (m : Memory) (is : List Input) (cs : List CCall) (built : CBuilt d m is cs) where
  -- the records judged are those of the list, with the bytes of the hand-ins
  pub c_loaded : (b : List ℕ) → (list_tested b).answer ≡ 0 → Ready (terminal_at m).tables
      → Stores (terminal_at m).tables (requests_of (terminal_at m) is (shown_by is cs)) (listed b)
      → (map (λ (p : Response). p.answer) (all_responses is (shown_by is cs))
      ≡ map (λ (q : Request). 0) (requests_of (terminal_at m) is (shown_by is cs)))
      × (rows Aces (left_by m is cs).tables ≡ listed b)
      × (with_rows Aces (left_by m is cs).tables [] ≡ with_rows Aces (terminal_at m).tables [])
  c_loaded b = built_loaded d (terminal_at m) b is (calls_of is cs) (c_built d m is cs built)

  -- next to the calls on a memory whose access rows are in another order
  pub c_any_order : (n : Memory) (es : List CCall) → CBuilt d n is es → InStep (terminal_at m) (terminal_at n) → length m.rowners ≡ 64
      → InPairs SameAnswer is (shown_by is cs) (shown_by is es) × InStep (left_by m is cs) (left_by n is es)
  c_any_order n es other =
      built_any_order d (terminal_at m) (terminal_at n) is (calls_of is cs) (calls_of is es) (c_built d m is cs built) (c_built d n is es other)
