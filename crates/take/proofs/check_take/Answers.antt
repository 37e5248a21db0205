-- `check_take`: the terminal, then whether a record waits.
use Rattle.rows.proofs.Prelude.{sym, ap, ◌∙◌, ℕ, eqb, not-false}
use Rattle.rules.specs.Promises.Words.{seen}
use Rattle.rules.specs.Checks.{refuse_if}
use Rattle.rules.proofs.CheckLaws.{stop, skip, last, not_applied}
use Rattle.queue.proofs.Queues.{count_is}
use Rattle.take.proofs.check_take.Goals as goal

pub returns : goal.returns
returns c =
    let h = not-false _ (not_applied _ _ c.check_terminal-c.ensures c.in-Pass.is) in
    skip _ _ _ c.check_terminal-c.ensures c.in-Pass.is
    (last _ _ (c.refuse_if.ensures
    ∙ ap (λ (k : ℕ). refuse_if 27 (eqb k 0)) (sym (count_is (seen c.args.tables) c.args.queue.now h))))

pub returns-in_default : goal.returns-in_default
returns-in_default c = stop _ _ _ _ c.check_terminal-c.ensures c.in_default.is
