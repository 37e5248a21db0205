-- Records that are judged directly, with memory that is sound where the tables are.
use Rattle.std.specs.Prelude.{true, ◌≡◌}
use Rattle.rules.specs.Defaults.{Defaults}
use Rattle.rules.specs.Outcome.{response_to, tables_after}
use Rattle.rules.specs.Record.{Request}
use Rattle.rules.specs.Tables.{sound}
use Rattle.rules_terminal.specs.Terminal.{Terminal, judged, sound_terminal}

-- the memory is sound where the tables are
abbrev pub Whole : Terminal → Type 0
Whole x = sound x.tables ≡ true → sound_terminal x ≡ true

pub record AsOutcome (d : Defaults) (x : Terminal) (q : Request) : Type 0 where
  pub response : (judged d x q).response ≡ response_to d x.tables q
  pub tables : (judged d x q).terminal.tables ≡ tables_after d x.tables q
  pub whole : Whole (judged d x q).terminal
