-- Words of contracts: the tables of a head with the caller's rows, as they are given, and before and after a call.
-- A `requires` speaks of them as they are given, an `ensures` of what they were before the call and became by it.
use Rattle.rules.specs.declared.Tables.{Tables}
use Rattle.rules.specs.declared.Head.{Head}
use Rattle.rules.specs.declared.TablesView.{TablesView}
use Rattle.rules.specs.Tables.{tables_of}
pub use Rattle.rows.specs.Words.{Given, Lent, was, became}

-- the tables as given, before and after
abbrev pub given : Head → Given → Given → Tables
given head creds aces = tables_of head creds.now aces.now

abbrev pub before : Head → Lent → Lent → Tables
before head creds aces = tables_of head (was creds) (was aces)

abbrev pub after : Head → Lent → Lent → Tables
after head creds aces = tables_of head (became creds) (became aces)

-- the tables that a view shows
abbrev pub seen : TablesView → Tables
seen view = tables_of view.head view.creds.now view.aces.now
