-- What a line of a run tells of a record, and the tables for the next one.
use Rattle.rules.specs.declared.Tables.{Tables}
use Rattle.rules.specs.Record.{Request}
use Rattle.rules.specs.Defaults.{no_defaults}
use Rattle.rules.specs.Outcome.{response_to, tables_after}
use Rattle.report.specs.declared.Judged.{Judged}

abbrev pub judged_as : Tables → Request → Judged
judged_as t q = record { answer = (response_to no_defaults t q).answer; permission = (response_to no_defaults t q).permission; tables = tables_after no_defaults t q }
