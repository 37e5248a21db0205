-- Theorems: isolation in service, and yards, with the built code on one side and the book on the other.
-- The book is fed the records as they were handed in or waited at the start.
-- All that is supposed can be seen by whoever makes the calls: the answers to the question, and the answers to the others' records.
use Rattle.rows.proofs.Prelude.{◌≡◌, false, Bool, List, [], ◌∷◌, ℕ}
use Rattle.rules.specs.declared.Sender.{Sender}
use Rattle.rules.specs.Defaults.{Defaults}
use Rattle.rules_terminal.specs.Terminal.{Terminal}
use Rattle.rules_terminal.specs.Inputs.{Input, records_in}
use Rattle.rules_terminal.specs.CallRun.{Call, Built, handed_back, all_shown}
use Rattle.rules_runs.specs.Isolation as handed
use Rattle.rules_runs.proofs.Calls.{of_calls}
use Rattle.rules_isolation.specs.declared.Isolation.TheVariants.{Isolated}
use Rattle.rules_isolation.specs.Question.{chosen_by, isolation_of}
use Rattle.rules_isolation.specs.Service.{others_endanger, turns_handed, Again, Within}
use Rattle.rules_isolation.specs.Yards.{of_yards, Disjoint, AllIsolated, YardAlone, BothAlone}
use Rattle.rules_isolation.proofs.InService.{in_service, in_quiet_service}
use Rattle.rules_isolation.proofs.Separate.{each_yard, each_yard_quiet, two_yards, two_yards_quiet}

module _ (d : Defaults) (x : Terminal) (is : List Input) (cs : List Call) (built : Built d x is cs) where
  -- a list, and any part of it
  module _ (list : List ℕ) (asked : isolation_of x.tables list ≡ Isolated) (part : Sender → Bool) (within : Within part (chosen_by list)) where
    pub built_in_service : Again (chosen_by list) (λ t. isolation_of t list ≡ Isolated) (records_in x) is (all_shown is cs)
        → handed.Isolated d part x is (all_shown is cs) (handed_back x cs)
    built_in_service =
        of_calls d x is cs built
        (λ answers end. Again (chosen_by list) (λ t. isolation_of t list ≡ Isolated) (records_in x) is answers → handed.Isolated d part x is answers end)
        (in_service d list x is asked part within)

    pub built_in_quiet_service : others_endanger (chosen_by list) (turns_handed x is (all_shown is cs)) ≡ false
        → handed.Isolated d part x is (all_shown is cs) (handed_back x cs)
    built_in_quiet_service =
        of_calls d x is cs built
        (λ answers end. others_endanger (chosen_by list) (turns_handed x is answers) ≡ false → handed.Isolated d part x is answers end)
        (in_quiet_service d list x is asked part within)

  -- any number of yards
  module _ (yards : List (List ℕ)) (asked : AllIsolated yards x.tables) (yard : List ℕ) where
    pub built_each_yard : Again (of_yards yards) (AllIsolated yards) (records_in x) is (all_shown is cs)
        → YardAlone d yards yard x is (all_shown is cs) (handed_back x cs)
    built_each_yard =
        of_calls d x is cs built
        (λ answers end. Again (of_yards yards) (AllIsolated yards) (records_in x) is answers → YardAlone d yards yard x is answers end)
        (each_yard d yards x is asked yard)

    pub built_each_yard_quiet : others_endanger (of_yards yards) (turns_handed x is (all_shown is cs)) ≡ false
        → YardAlone d yards yard x is (all_shown is cs) (handed_back x cs)
    built_each_yard_quiet =
        of_calls d x is cs built
        (λ answers end. others_endanger (of_yards yards) (turns_handed x is answers) ≡ false → YardAlone d yards yard x is answers end)
        (each_yard_quiet d yards x is asked yard)

  -- two yards with nobody in both
  module _ (a b : List ℕ) (disjoint : Disjoint a b) (asked : AllIsolated (a ∷ b ∷ []) x.tables) where
    pub built_two_yards : Again (of_yards (a ∷ b ∷ [])) (AllIsolated (a ∷ b ∷ [])) (records_in x) is (all_shown is cs)
        → BothAlone d a b x is (all_shown is cs) (handed_back x cs)
    built_two_yards =
        of_calls d x is cs built
        (λ answers end. Again (of_yards (a ∷ b ∷ [])) (AllIsolated (a ∷ b ∷ [])) (records_in x) is answers → BothAlone d a b x is answers end)
        (two_yards d a b x is disjoint asked)

    pub built_two_yards_quiet : others_endanger (of_yards (a ∷ b ∷ [])) (turns_handed x is (all_shown is cs)) ≡ false
        → BothAlone d a b x is (all_shown is cs) (handed_back x cs)
    built_two_yards_quiet =
        of_calls d x is cs built
        (λ answers end. others_endanger (of_yards (a ∷ b ∷ [])) (turns_handed x is answers) ≡ false → BothAlone d a b x is answers end)
        (two_yards_quiet d a b x is disjoint asked)
