-- What the calls of a run show, one answer for each input, is what the definitions answer.
-- Calls are those of Built: any that meet the contracts, each on the tables and the memory returned last.
use Rattle.rows.proofs.Prelude.{◌≡◌, refl, List, [], ◌∷◌}
use Rattle.rules.specs.Defaults.{Defaults}
use Rattle.rules.specs.Checks.{verdict}
use Rattle.rules.specs.Run.{replies, final}
use Rattle.rules.proofs.CheckLaws.{check_cases}
use Rattle.rules_terminal.specs.Terminal.{Terminal, hand_in_checks, handed_in, direct_checks, judged}
use Rattle.rules_terminal.specs.Inputs.{Input, hand_in, take_at, direct, transition, next}
use Rattle.rules_terminal.specs.CallRun.{Call, Meets, left, Built, handed_back, all_shown, shown}
use Rattle.rules_terminal.proofs.Built.{take_told, direct_told, call_left}

-- a call shows what is answered
pub shown_is : (d : Defaults) (x : Terminal) (i : Input) (c : Call) → Meets d x i c → shown i c ≡ transition d x i
unfolding handed_in judged
shown_is d x (hand_in r) c m = rw (m.says, m.keeps) (check_cases (verdict (hand_in_checks x r)) (λ e. rw e) (λ n e. rw e))
shown_is d x (take_at clock capacity) c m =
    let s = take_told d x clock capacity c m in rw (s.0, s.1, call_left d x (take_at clock capacity) c m)
shown_is d x (direct q) c m =
    rw (direct_told d x q c m, call_left d x (direct q) c m)
    (check_cases (verdict (direct_checks x)) (λ e. rw (e, transition, next)) (λ n e. rw (e, transition, next)))

-- so do the calls of a run, and the terminal returned last is that of the definitions
pub built_shown : (d : Defaults) (x : Terminal) (is : List Input) (cs : List Call) → Built d x is cs
    → (all_shown is cs ≡ replies (transition d) (next d) x is) × (handed_back x cs ≡ final (next d) x is)
built_shown d x [] [] b = (refl, refl)
built_shown d x [] (c ∷ cs) b = absurd b
built_shown d x (i ∷ is) [] b = absurd b
built_shown d x (i ∷ is) (c ∷ cs) b =
    let l = call_left d x i c b.0 in
    let more = built_shown d (left c) is cs b.1 in
    (rw (shown_is d x i c b.0, more.0, l), rw (more.1, l))
