-- The answer about isolation as three words, and the number that identifies the library.
-- The tables are passed in as five arrays (Memory).
use Rattle.std.specs.Prelude.{ℕ, ◌+◌, ◌*◌, [], ◌∷◌}
use Rattle.rules_isolation.specs.declared.IsolationReport.{IsolationReport}
use Rattle.rules_interface.specs.Memory.{Words}

abbrev pub report_words : IsolationReport → Words
report_words report = report.reason ∷ report.entry ∷ report.row ∷ []

-- of the bytes of tables and waiting records; and of the C functions, 1,000 for each major version
abbrev pub format_version : ℕ
format_version = 1

abbrev pub interface_version : ℕ
interface_version = 2000

abbrev pub identity : ℕ
identity = 1000000 * format_version + interface_version
