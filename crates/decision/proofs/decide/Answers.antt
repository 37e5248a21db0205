-- `decide`: the caller, and what is left to check.
use Rattle.rows.proofs.Prelude.{◌≡◌, refl, ap, ◌∙◌, List, ℕ, length}
use Rattle.rules.specs.declared.Tables.{Tables}
use Rattle.rules.specs.declared.Table.TheVariants.{Creds}
use Rattle.rules.specs.declared.Caller.{Caller}
use Rattle.rules.specs.declared.Check.{Check}
use Rattle.rules.specs.declared.Check.TheVariants.{Pass, Refuse}
use Rattle.rules.specs.declared.Decision.{Decision}
use Rattle.rules.specs.Record.{Request, received, body}
use Rattle.rules.specs.Tables.{tables_of, rows}
use Rattle.rules.specs.Checks.{verdict}
use Rattle.rules.specs.Promises.Groups.{sender_checks}
use Rattle.rules.specs.Promises.Callers.{caller_of, caller_checks}
use Rattle.rules.specs.Promises.Decision.{nothing_permitted, decision_by, decided_by, decided}
use Rattle.rules.proofs.CheckLaws.{stop_all, skip_all}
use Rattle.rules.proofs.CallerLaws.{caller_row_lem, caller_checks_lem}
use Rattle.decision.proofs.Laws.{turned}
use Rattle.decision.proofs.decide.Goals as goal

-- the caller that was found, and what 2 to 7 say of it
module _ (t : Tables) (q : Request) (k : Caller) (c : Check) (is : k ≡ caller_of (rows Creds t) q.bytes) (told : c ≡ verdict (caller_checks (length q.bytes) k)) where
  checked : c ≡ verdict (sender_checks (rows Creds t) q.bytes)
  checked = told ∙ ap (λ (x : Caller). verdict (caller_checks (length q.bytes) x)) is ∙ ap verdict (caller_checks_lem (rows Creds t) q.bytes)

  refused : (n : ℕ) (d : Decision) → c ≡ Refuse n → d ≡ nothing_permitted k c → d ≡ decided t q
  unfolding decided
  refused n d r f = turned _ _ _ _ c _ n d (stop_all (sender_checks (rows Creds t) q.bytes) _ n checked r) r (f ∙ ap (λ (x : Caller). nothing_permitted x c) is)

  -- where 2 to 7 pass, the decision is that of the rest
  rest_decides : (b : List ℕ) → b ≡ body q.bytes → c ≡ Pass → decided_by q.clock t k b q.capacity ≡ decided t q
  unfolding decided_by decided
  rest_decides b e p =
      rw (e, is, caller_row_lem t q.bytes) (ap (decision_by _ _ _ _) (skip_all (sender_checks (rows Creds t) q.bytes) _ checked p refl))

pub returns-in_default : goal.returns-in_default
returns-in_default c =
    let a = c.args in
    refused (tables_of a.tables.head a.tables.creds.now a.tables.aces.now) (received a.clock a.rec.now a.capacity) _ _ c.caller_of-caller.ensures c.check_caller-c.ensures _ _
    c.in_default.is c.turned_away.ensures

pub returns : goal.returns
returns c =
    let a = c.args in
    c.decide_request.ensures
    ∙ rest_decides (tables_of a.tables.head a.tables.creds.now a.tables.aces.now) (received a.clock a.rec.now a.capacity) _ _ c.caller_of-caller.ensures c.check_caller-c.ensures _
    c.body_of.ensures c.in-Pass.is
