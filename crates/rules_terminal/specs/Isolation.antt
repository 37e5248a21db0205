-- Demand 3 with waiting records: what the book of 01 is fed, and what is compared with it.
-- The book holds tables only, so seats and round are left out of what is compared.
use Rattle.std.specs.Prelude.{Bool, true, List, map, ◌≡◌}
use Rattle.rules.specs.declared.Sender.{Sender}
use Rattle.rules.specs.Defaults.{Defaults}
use Rattle.rules.specs.Isolation.{Premise, compared}
use Rattle.rules.specs.Outcome.{response_to, tables_after}
use Rattle.rules.specs.Run.{Along, final, kept, replies}
use Rattle.rules.specs.declared.Tables.{Tables}
use Rattle.rules_terminal.specs.Inputs.{Input, Turn, all_judged, others_turn, request_of, turn_response}
use Rattle.rules_terminal.specs.Terminal.{Terminal, sound_terminal}

module _ (d : Defaults) (chosen : Sender → Bool) where
  -- the others' records that are judged
  abbrev pub others : Terminal → List Input → List Turn
  others x is = kept (others_turn chosen) (all_judged d x is)

  -- the premise, read in the book's tables before its first record and after each, where it is fed these
  abbrev pub Premises : Terminal → List Turn → Type 0
  Premises x us = sound_terminal x ≡ true → Along (tables_after d) (Premise chosen) x.tables (map request_of us)

  -- these turns got what the book answers: numbers, permissions, payloads, replies, places and
  -- links; and the tables at the end are the book's except for the chosen partners' asserted roles
  abbrev pub AsTheBook : Terminal → List Turn → Tables → Type 0
  AsTheBook x us end =
      (map turn_response us ≡ replies (response_to d) (tables_after d) x.tables (map request_of us))
      × (compared chosen end ≡ compared chosen (final (tables_after d) x.tables (map request_of us)))
