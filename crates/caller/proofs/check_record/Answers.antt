-- `check_record`: the checks by what was found are the record's.
use Rattle.rules.proofs.CallerLaws.{caller_checks_lem}
use Rattle.caller.proofs.check_record.Goals as goal

pub returns : goal.returns
returns c = rw (c.check_caller.ensures, c.caller_of.ensures, caller_checks_lem)
