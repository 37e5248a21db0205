-- The number of the answer to a call for the rows that an old list becomes.
use Rattle.std.specs.Prelude.{Result}
use Rattle.std.specs.declared.result.Result.TheVariants.{Ok, Err}
use Rattle.rules.specs.Types.{Answer, Size}
use Rattle.list_convert.specs.declared.ConvertError.{ConvertError}
use Rattle.list_convert.specs.declared.ConvertError.TheVariants.{BadFile, TooManyRows, TooShort}

abbrev pub refusal : ConvertError → Answer
refusal BadFile = 23
refusal TooManyRows = 24
refusal TooShort = 25

-- 0 where the rows are made
abbrev pub answer_of : Result Size ConvertError → Answer
answer_of (Ok size) = 0
answer_of (Err error) = refusal error
