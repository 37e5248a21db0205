-- Demand 3 over a list of records that are judged directly, 1 included.
use Rattle.std.specs.Prelude.{◌≡◌, Bool, List}
use Rattle.rules.specs.declared.Tables.{Tables}
use Rattle.rules.specs.declared.Sender.{Sender}
use Rattle.rules.specs.Record.{Request}
use Rattle.rules.specs.Defaults.{Defaults}
use Rattle.rules.specs.Outcome.{Response, response_to, tables_after}
use Rattle.rules.specs.Run.{replies, final, kept, kept_of}
use Rattle.rules.specs.Isolation.{is_others, compared}

-- from the tables t, the others get what the book answers, and the tables at the end are the book's except for the chosen partners'
-- asserted roles
pub record DirectIsolated (d : Defaults) (chosen : Sender → Bool) (t : Tables) (qs : List Request) (replied : List Response) (end : Tables) : Type 0 where
  pub responses_same : kept_of (is_others chosen) qs replied ≡ replies (response_to d) (tables_after d) t (kept (is_others chosen) qs)
  pub tables_same : compared chosen end ≡ compared chosen (final (tables_after d) t (kept (is_others chosen) qs))
