-- What a verdict on the checks says of the decision.
use Rattle.rows.proofs.Prelude.{◌≡◌, refl, sym, ap, ◌∙◌, List, ℕ}
use Rattle.rules.specs.declared.Tables.{Tables}
use Rattle.rules.specs.declared.Caller.{Caller}
use Rattle.rules.specs.declared.Action.{Action}
use Rattle.rules.specs.declared.Check.{Check}
use Rattle.rules.specs.declared.Check.TheVariants.{Pass, Refuse}
use Rattle.rules.specs.declared.Decision.{Decision}
use Rattle.rules.specs.Record.{Request}
use Rattle.rules.specs.Checks.{verdict}
use Rattle.rules.specs.Promises.Callers.{caller_row}
use Rattle.rules.specs.Promises.Decision.{later_checks, decision_checks, nothing_permitted, decision_by, decided_by, decided}

-- a refusal of these checks
pub turned : (k : Caller) (p l : ℕ) (a : Action) (c v : Check) (n : ℕ) (d : Decision) → c ≡ v → c ≡ Refuse n → d ≡ nothing_permitted k c → d ≡ decision_by k p a l v
turned k p l a c v n d e r f = f ∙ ap (nothing_permitted k) r ∙ ap (decision_by k p a l) (sym r ∙ e)

-- a pass
pub let_through : (k : Caller) (p q l m : ℕ) (a b : Action) (c v : Check) → c ≡ Pass → c ≡ v → p ≡ q → a ≡ b → l ≡ m
    → record { check = c; caller = k; permission = p; action = a; reply = l } ≡ decision_by k q b m v
let_through k p q l m a b c v e i f g h = rw (e, f, g, h) (ap (decision_by k q b m) (sym e ∙ i))

check_by : (k : Caller) (p l : ℕ) (a : Action) (v : Check) → (decision_by k p a l v).check ≡ v
check_by k p l a Pass = refl
check_by k p l a (Refuse n) = refl

-- the check of a decision is the verdict on its list
pub check_later : (clock : ℕ) (t : Tables) (k : Caller) (b : List ℕ) (capacity : ℕ)
    → (decided_by clock t k b capacity).check ≡ verdict (later_checks clock t (caller_row t k) k.header b capacity)
unfolding decided_by
check_later clock t k b capacity = check_by k _ _ _ (verdict (later_checks clock t (caller_row t k) k.header b capacity))

pub check_decided : (t : Tables) (q : Request) → (decided t q).check ≡ verdict (decision_checks t q)
unfolding decided
check_decided t q = check_by _ _ _ _ (verdict (decision_checks t q))
