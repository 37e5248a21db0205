-- The kinds of write, as columns of the definitions' table.
use Rattle.rules.specs.States.{WriteKind, doxm_write, row_owner_write, row_write, target_write}
use Rattle.check_state.specs.declared.Write.{Write}
use Rattle.check_state.specs.declared.Write.TheVariants.{Doxm, RowOwner, Row, Target}

abbrev pub column : Write → WriteKind
column Doxm = doxm_write
column RowOwner = row_owner_write
column Row = row_write
column Target = target_write
