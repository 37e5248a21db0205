-- The result of the test of a list, by what is reported of it.
use Rattle.std.specs.Prelude.{Result, cond, eqb}
use Rattle.std.specs.declared.result.Result.TheVariants.{Ok, Err}
use Rattle.rules_lists.specs.declared.ListError.{ListError}
use Rattle.rules_lists.specs.declared.ListError.TheVariants.{BadSize, BadRow}
use Rattle.rules_lists.specs.declared.Tested.{Tested}

-- with 0 there is no fault; 19 is of the list as a whole; every other number is the fault of the row that is named
unfoldable pub result_for : Tested → Result (Unit {0}) ListError
result_for t = cond (eqb t.answer 0) (Ok tt) (cond (eqb t.answer 19) (Err BadSize) (Err (BadRow t.answer t.row)))
