-- Theorems of C calls: isolation in service, and yards. The book is fed the records as they were handed in or waited at the start.
-- The C calls are calls (`c_built`), so each theorem is the one over calls (rules_isolation/proofs/BuiltYards.antt).
use Rattle.rows.proofs.Prelude.{◌≡◌, false, Bool, List, [], ◌∷◌, ℕ}
use Rattle.rules.specs.declared.Sender.{Sender}
use Rattle.rules.specs.Defaults.{Defaults}
use Rattle.rules_terminal.specs.Inputs.{Input, records_in}
use Rattle.rules_runs.specs.Isolation as handed
use Rattle.rules_isolation.specs.declared.Isolation.TheVariants.{Isolated}
use Rattle.rules_isolation.specs.Question.{chosen_by, isolation_of}
use Rattle.rules_isolation.specs.Service.{others_endanger, turns_handed, Again, Within}
use Rattle.rules_isolation.specs.Yards.{of_yards, Disjoint, AllIsolated, YardAlone, BothAlone}
use Rattle.rules_isolation.proofs.BuiltYards.{
  built_in_service,
  built_in_quiet_service,
  built_each_yard,
  built_each_yard_quiet,
  built_two_yards,
  built_two_yards_quiet,
}
use Rattle.rules_interface.specs.Memory.{Memory, terminal_at}
use Rattle.rules_interface.specs.Calls.{CCall, CBuilt}
use Rattle.rules_interface.specs.CallRun.{calls_of, shown_by, left_by}
use Rattle.rules_interface.proofs.CCalls.{c_built}

module _ (d : Defaults) (m : Memory) (is : List Input) (cs : List CCall) (b : CBuilt d m is cs) where
  -- a list that is isolated, and is so again after each call by which somebody else endangers it: whatever any part of it sends, all others
  -- have the run that the book has without that part
  module _ (list : List ℕ) (asked : isolation_of (terminal_at m).tables list ≡ Isolated) (part : Sender → Bool) (within : Within part (chosen_by list)) where
    pub c_in_service : Again (chosen_by list) (λ t. isolation_of t list ≡ Isolated) (records_in (terminal_at m)) is (shown_by is cs)
        → handed.Isolated d part (terminal_at m) is (shown_by is cs) (left_by m is cs)
    c_in_service = built_in_service d (terminal_at m) is (calls_of is cs) (c_built d m is cs b) list asked part within

    -- nobody else endangers it
    pub c_in_quiet_service : others_endanger (chosen_by list) (turns_handed (terminal_at m) is (shown_by is cs)) ≡ false
        → handed.Isolated d part (terminal_at m) is (shown_by is cs) (left_by m is cs)
    c_in_quiet_service = built_in_quiet_service d (terminal_at m) is (calls_of is cs) (c_built d m is cs b) list asked part within

  -- any number of yards: each has its run without the others
  module _ (yards : List (List ℕ)) (asked : AllIsolated yards (terminal_at m).tables) (yard : List ℕ) where
    pub c_each_yard : Again (of_yards yards) (AllIsolated yards) (records_in (terminal_at m)) is (shown_by is cs)
        → YardAlone d yards yard (terminal_at m) is (shown_by is cs) (left_by m is cs)
    c_each_yard = built_each_yard d (terminal_at m) is (calls_of is cs) (c_built d m is cs b) yards asked yard

    pub c_each_yard_quiet : others_endanger (of_yards yards) (turns_handed (terminal_at m) is (shown_by is cs)) ≡ false
        → YardAlone d yards yard (terminal_at m) is (shown_by is cs) (left_by m is cs)
    c_each_yard_quiet = built_each_yard_quiet d (terminal_at m) is (calls_of is cs) (c_built d m is cs b) yards asked yard

  -- two yards with nobody in both
  module _ (one two : List ℕ) (disjoint : Disjoint one two) (asked : AllIsolated (one ∷ two ∷ []) (terminal_at m).tables) where
    pub c_two_yards : Again (of_yards (one ∷ two ∷ [])) (AllIsolated (one ∷ two ∷ [])) (records_in (terminal_at m)) is (shown_by is cs)
        → BothAlone d one two (terminal_at m) is (shown_by is cs) (left_by m is cs)
    c_two_yards = built_two_yards d (terminal_at m) is (calls_of is cs) (c_built d m is cs b) one two disjoint asked

    pub c_two_yards_quiet : others_endanger (of_yards (one ∷ two ∷ [])) (turns_handed (terminal_at m) is (shown_by is cs)) ≡ false
        → BothAlone d one two (terminal_at m) is (shown_by is cs) (left_by m is cs)
    c_two_yards_quiet = built_two_yards_quiet d (terminal_at m) is (calls_of is cs) (c_built d m is cs b) one two disjoint asked
