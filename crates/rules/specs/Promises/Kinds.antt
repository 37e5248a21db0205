-- For contracts: the number of a subject's kind, as an access row has it.
use Rattle.std.specs.Prelude.{ℕ}
use Rattle.rules.specs.declared.Subject.{Subject}
use Rattle.rules.specs.declared.Subject.TheVariants.{Uuid, Role, Connection, Other}

abbrev pub kind_number : Subject → ℕ
kind_number Uuid = 0
kind_number Role = 1
kind_number Connection = 2
kind_number Other = 3
