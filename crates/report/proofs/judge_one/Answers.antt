-- `judge_one`: with fresh memory a record gets its outcome.
use Rattle.rows.proofs.Prelude.{◌≡◌, ap, ap₂, ◌∙◌, subst, List, ℕ}
use Rattle.rules.specs.declared.Head.{Head}
use Rattle.rules.specs.declared.Tables.{Tables}
use Rattle.rules.specs.Tables.{tables_of, head_of}
use Rattle.rules.specs.Record.{Request}
use Rattle.rules.specs.Defaults.{no_defaults}
use Rattle.rules.specs.Outcome.{Response}
use Rattle.rules.specs.Promises.Results.{Result}
use Rattle.rules_terminal.specs.Slots.{empty_queue}
use Rattle.rules_terminal.specs.Terminal.{terminal}
use Rattle.rules_terminal.specs.Calls.{Judges}
use Rattle.rules_terminal.proofs.Direct.{fresh_whole, as_outcome}
use Rattle.report.specs.declared.Judged.{Judged}
use Rattle.report.specs.Run.{lent}
use Rattle.report.specs.Judged.{judged_as}
use Rattle.report.proofs.judge_one.Goals as goal

-- what a line needs of what is reported
abbrev told : Result → Judged
told s = record { answer = s.answer; permission = s.permission; tables = s.tables }

as_judged : (t : Tables) (h : Head) → h ≡ head_of t → (q : Request) (s : Result) (lent queue buffer : List ℕ)
    → Judges no_defaults (terminal (tables_of h t.creds t.aces) empty_queue) q s lent queue buffer → told s ≡ judged_as t q
as_judged t h is q s lent queue buffer g =
    let a = as_outcome no_defaults (terminal t empty_queue) q (fresh_whole t) in
    let whole = subst (λ (k : Head). Judges no_defaults (terminal (tables_of k t.creds t.aces) empty_queue) q s lent queue buffer) is g in
    ap told whole.says
    ∙ ap₂ (λ (r : Response) (u : Tables). record { answer = r.answer; permission = r.permission; tables = u }) a.response a.tables

pub returns : goal.returns
returns c = rw c.from_parts.ensures (as_judged c.args.t _ c.head.ensures (lent c.args.clock c.args.rec.now) _ _ _ _ c.judge-j.ensures)
