-- `names_owner`: the security resources are the first five.
use Rattle.rows.proofs.Prelude.{◌≡◌, ◌∙◌, rules, arith, Bool, ℕ, get_or, [], ◌∷◌}
use Rattle.std.proofs.Common.{tests}
use Rattle.std.proofs.lemmas.Iterator.{YieldsList-from_range}
use Rattle.std.proofs.lemmas.Iterator.Search.{any_from_yields_List}
use Rattle.std.specs.List.{list_any}
use Rattle.rules.specs.Directory.{entry_of, some_security}
use Rattle.rules.specs.Permission.{is_owner}
use Rattle.isolation.proofs.names_owner.Goals as goal

first_five : (passes : ℕ → Bool) → list_any passes (0 ∷ 1 ∷ 2 ∷ 3 ∷ 4 ∷ []) ≡ some_security passes
unfolding some_security entry_of
first_five passes = grind (arith, tests)

pub returns : goal.returns
returns c =
    any_from_yields_List (λ (i : ℕ). is_owner c.args.h c.args.cred.now (get_or (0 ∷ 1 ∷ 2 ∷ 3 ∷ 4 ∷ []) i 0)) c.any.new.self _ _ c.any.ensures.ran
    (YieldsList-from_range 0 5 5 (cc) (omega arith)) (λ x b q k. search rules)
    ∙ first_five (is_owner c.args.h c.args.cred.now)
