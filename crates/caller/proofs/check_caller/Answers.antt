-- `check_caller`: the header, then the sender.
use Rattle.rows.proofs.Prelude.{sym}
use Rattle.rules.specs.Promises.Groups.{header_checks}
use Rattle.rules.proofs.CheckLaws.{last, stop_all, skip_all}
use Rattle.caller.proofs.check_caller.Goals as goal

pub returns-in_default : goal.returns-in_default
returns-in_default c = stop_all (let a = c.args in header_checks a.length a.caller.header) _ _ c.check_header-c.ensures c.in_default.is

pub returns : goal.returns
returns c =
    skip_all (let a = c.args in header_checks a.length a.caller.header) _ c.check_header-c.ensures c.in-Pass.is
    (last _ _ (c.check_credential.ensures c.args.caller.header.sender (sym c.connection_of.ensures)))
