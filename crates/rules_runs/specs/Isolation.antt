-- Demand 3 as U13 words it: the book of 01 is fed the others' records, byte for byte as they were handed in or waited at the start.
-- For a terminal x, inputs and their answers.
use Rattle.std.specs.Prelude.{◌≡◌, Bool, true, List}
use Rattle.rules.specs.declared.Tables.{Tables}
use Rattle.rules.specs.declared.Sender.{Sender}
use Rattle.rules.specs.Record.{Request}
use Rattle.rules.specs.Defaults.{Defaults}
use Rattle.rules.specs.Outcome.{Response, response_to, tables_after}
use Rattle.rules.specs.Run.{replies, final, Along, kept, kept_of}
use Rattle.rules.specs.Isolation.{Premise, is_others, compared}
use Rattle.rules_terminal.specs.Terminal.{Terminal, Transition, sound_terminal}
use Rattle.rules_terminal.specs.Inputs.{Input, records_in, next, transition}
use Rattle.rules_runs.specs.Events.{requests, event_of, responses_of, gathered}

-- the records judged, with the bytes of the hand-ins, and the responses
abbrev pub requests_of : Terminal → List Input → List Transition → List Request
requests_of x is answers = requests (records_in x) (gathered event_of is answers)

abbrev pub all_responses : List Input → List Transition → List Response
all_responses is answers = gathered responses_of is answers

-- these records, judged one after the other from the tables t by only the rules, get these responses and leave the tables t'
pub record AsRules (d : Defaults) (t : Tables) (qs : List Request) (told : List Response) (t' : Tables) : Type 0 where
  pub responses_same : told ≡ replies (response_to d) (tables_after d) t qs
  pub tables_same : t' ≡ final (tables_after d) t qs

module _ (d : Defaults) (chosen : Sender → Bool) (x : Terminal) (is : List Input) (answers : List Transition) where
  -- what the book is fed
  abbrev pub others_of : List Request
  others_of = kept (is_others chosen) (requests_of x is answers)

  -- the premise, in the book's tables before its first record and after each; a terminal that is not sound needs none
  abbrev pub BookPremise : Type 0
  BookPremise = sound_terminal x ≡ true → Along (tables_after d) (Premise chosen) x.tables others_of

  -- the others get the book's responses, and the tables at the end are the book's except for the chosen partners' asserted roles
  pub record Isolated (end : Terminal) : Type 0 where
    pub responses_same : kept_of (is_others chosen) (requests_of x is answers) (all_responses is answers) ≡ replies (response_to d) (tables_after d) x.tables others_of
    pub tables_same : compared chosen end.tables ≡ compared chosen (final (tables_after d) x.tables others_of)

-- the answers of the definitions to a run
abbrev pub answers_to : Defaults → Terminal → List Input → List Transition
answers_to d = replies (transition d) (next d)
