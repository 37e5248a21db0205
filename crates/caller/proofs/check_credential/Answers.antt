-- `check_credential`: a row is lacked where the sender has a connection and no index.
use Rattle.rows.proofs.Prelude.{◌≡◌, refl, ℕ, ◌&&◌, not, eqb, arith}
use Rattle.std.proofs.lemmas.Bool.Decides.{nat_tests}
use Rattle.std.specs.Option.{is_some}
use Rattle.std.specs.Prelude.{Option, Some, None}
use Rattle.rules.specs.declared.Sender.{Sender}
use Rattle.rules.specs.declared.Sender.TheVariants.{Unauthenticated, Partner}
use Rattle.rules.specs.Permission.{connection_of}
use Rattle.rules.specs.Checks.{refuse_if}
use Rattle.rules.specs.Promises.Callers.{lacks_row}
use Rattle.caller.proofs.check_credential.Goals as goal

lacks : (who : Sender) (found : Option ℕ) → lacks_row who found ≡ (not (eqb (connection_of who) 0) && not (is_some found))
lacks Unauthenticated found = refl
lacks (Partner n) (Some i) = refl
lacks (Partner n) None = refl

pub returns-then-connection-eq0 : goal.returns-then-connection-eq0
unfolding refuse_if
returns-then-connection-eq0 c = λ who e. grind (arith, nat_tests, lacks who c.args.found)

pub returns-then-is_none : goal.returns-then-is_none
unfolding refuse_if
returns-then-is_none c = λ who e. grind (arith, nat_tests, lacks who c.args.found)

pub returns : goal.returns
unfolding refuse_if
returns c = λ who e. grind (arith, nat_tests, lacks who c.args.found)
