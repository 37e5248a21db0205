-- `entries_answer`: an entry's answer is the list's where it is a reason, and else the rest's is.
use Rattle.rows.proofs.Prelude.{◌≡◌, sym, ◌∙◌, ◌+◌, ℕ, arith}
use Rattle.rules.specs.declared.Sender.{Sender}
use Rattle.rules.specs.declared.Tables.{Tables}
use Rattle.rows.specs.Rows.{Row}
use Rattle.rules_isolation.specs.declared.Isolation.{Isolation}
use Rattle.rules_isolation.specs.declared.Isolation.TheVariants.{Isolated}
use Rattle.rules_isolation.specs.Question.{sender_of, entry_answer}
use Rattle.isolation.proofs.EntryLaws.{entry_end, entry_found, entry_turn}
use Rattle.isolation.proofs.entries_answer.Goals as goal

-- the entry at its place in the walk
told : (t : Tables) (x : Isolation) (who : Sender) (entry : Row) (i n : ℕ)
    → x ≡ entry_answer t (i + 1) who Isolated → who ≡ sender_of entry → i ≡ n → x ≡ entry_answer t (n + 1) (sender_of entry) Isolated
told t x who entry i n e f g = rw (← f, ← g) e

pub loop-i-preserved : goal.loop-i-preserved
loop-i-preserved c =
    let step = c.in-Some.ensures.steps in
    let inv = c.loop-i.invariant in
    let is = told _ _ _ _ _ _ c.entry_answer-answer.ensures c.sender_of.ensures step.1 in
    record {
      by_two = step.0.0 ∙ inv.by_two;
      same = rw step.2 (entry_turn _ _ _ _ _ _ inv.same step.0.1.0 (step.0.1.1 ∙ inv.by_two) (sym is ∙ c.in-Isolated.is));
    }

pub returns-in_default : goal.returns-in_default
returns-in_default c =
    let step = c.in-Some.ensures.steps in
    let inv = c.loop-i.invariant in
    let is = told _ _ _ _ _ _ c.entry_answer-answer.ensures c.sender_of.ensures step.1 in
    entry_found _ _ _ _ _ _ inv.same step.0.1.0 (step.0.1.1 ∙ inv.by_two) _ is c.in_default.not-Isolated

pub returns : goal.returns
returns c = entry_end _ _ _ _ c.loop-i.invariant.same (omega (arith, c.in-None.ensures.steps.0.1.0, c.loop-i.invariant.by_two))
