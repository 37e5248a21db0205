-- The number of the answer to a call for the access list as office text.
use Rattle.std.specs.Prelude.{Result}
use Rattle.std.specs.declared.result.Result.TheVariants.{Ok, Err}
use Rattle.rules.specs.Types.{Answer, Size}
use Rattle.office_list.specs.declared.TextError.{TextError}
use Rattle.office_list.specs.declared.TextError.TheVariants.{NotSound, TooShort}

abbrev pub refusal : TextError → Answer
refusal NotSound = 17
refusal TooShort = 18

-- 0 where the text is written
abbrev pub answer_of : Result Size TextError → Answer
answer_of (Ok size) = 0
answer_of (Err error) = refusal error
