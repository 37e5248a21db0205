-- The first check that applies, over bytes and typed, is the same.
use Rattle.rows.proofs.Prelude.{◌≡◌, refl, sym, ap, ◌∙◌, Bool, true, false, not, List, [], ◌∷◌, ℕ}
use Rattle.rules.specs.declared.Check.{Check}
use Rattle.rules.specs.declared.Check.TheVariants.{Pass, Refuse}
use Rattle.rules.specs.Checks.{is_pass, verdict as verdictBytes}
use Rattle.rules_typed.specs.Types.{Verdict, Permitted, Refused}
use Rattle.rules_typed.specs.Checks.{verdict}
use Rattle.rules_typed.specs.Outcome.{is_refused}

abbrev pub check_of : Verdict → Check
check_of Permitted = Pass
check_of (Refused n) = Refuse n

pub verdict_read : (cs : List (ℕ × Bool)) → verdictBytes cs ≡ check_of (verdict cs)
unfolding verdictBytes verdict
verdict_read [] = refl
verdict_read ((n, true) ∷ cs) = refl
verdict_read ((n, false) ∷ cs) = verdict_read cs

-- and back
abbrev pub verdict_of : Check → Verdict
verdict_of Pass = Permitted
verdict_of (Refuse n) = Refused n

of_check : (v : Verdict) → v ≡ verdict_of (check_of v)
of_check Permitted = refl
of_check (Refused n) = refl

pub verdict_back : (cs : List (ℕ × Bool)) → verdict cs ≡ verdict_of (verdictBytes cs)
verdict_back cs = of_check (verdict cs) ∙ sym (ap verdict_of (verdict_read cs))

is_pass_lem : (v : Verdict) → is_pass (check_of v) ≡ not (is_refused v)
is_pass_lem Permitted = refl
is_pass_lem (Refused n) = refl

pub pass_read : (cs : List (ℕ × Bool)) → is_pass (verdictBytes cs) ≡ not (is_refused (verdict cs))
pass_read cs = ap is_pass (verdict_read cs) ∙ is_pass_lem (verdict cs)
