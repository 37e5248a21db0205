-- Demands 1 and 2: what a call gives is the typed outcome, written. Demand 3: the book keeps typed tables.
-- Of a terminal, inputs and their answers; d are the build's default lists.
use Rattle.std.specs.Prelude.{ℕ, ◌≡◌, Bool, true, List, [], ◌∷◌, map}
use Rattle.rules.specs.declared.Tables.{Tables as ByteTables}
use Rattle.rules.specs.declared.Sender.{Sender}
use Rattle.rules.specs.Record.{Request as ByteRequest}
use Rattle.rules.specs.Defaults.{Defaults}
use Rattle.rules.specs.Reading.{filled}
use Rattle.rules.specs.Outcome.{Response as ByteResponse}
use Rattle.rules.specs.Promises.Results.{Result, result_of}
use Rattle.rules.specs.Run.{replies, final, Along, kept, kept_of}
use Rattle.rules.specs.Isolation.{is_others as isOthersBytes}
use Rattle.rules_typed.specs.Lists.{Maybe, none, when}
use Rattle.rules_typed.specs.Types.{Record, Tables, Outcome}
use Rattle.rules_typed.specs.Tables.{is_bytes}
use Rattle.rules_typed.specs.Writing.{reply_bytes, written, written_outcome}
use Rattle.rules_typed.specs.Reading.{tables_of, read_tables, read_record, read_fresh}
use Rattle.rules_typed.specs.Outcome.{outcome, respond, next}
use Rattle.rules_typed.specs.Isolation.{Premise, is_others, compared}
use Rattle.rules_queue.specs.Queue.{step, stepped}
use Rattle.rules_queue.specs.QueueBytes.{written_transition, read_terminal, read_input}
use Rattle.rules_terminal.specs.Terminal.{Terminal, Transition, sound_terminal}
use Rattle.rules_terminal.specs.Inputs.{Input, Turn, hand_in, take_at, direct}
use Rattle.rules_runs.specs.Isolation.{requests_of, all_responses}
use Rattle.rules_isolation.specs.Yards.{turns_of, requests_without}

-- ---- demands 1 and 2, of one call

-- the fresh tables of a build
abbrev pub fresh_of : Defaults → Tables
fresh_of d = read_fresh d

-- the tables of a terminal; none also where the queue beside them is not sound
unfoldable pub tables_in : Terminal → Maybe Tables
tables_in x = when (sound_terminal x) (tables_of x.tables)

-- the typed outcome of a record in a terminal
abbrev pub judged_in : Defaults → Terminal → ByteRequest → Outcome
judged_in d x q = outcome (fresh_of d) (tables_in x) (read_record q)

-- what is reported is this outcome, written over the tables t, and the caller's buffer is filled with its reply
pub record Tells (o : Outcome) (t : ByteTables) (s : Result) (lent buffer : List ℕ) : Type 0 where
  pub says : s ≡ result_of (written_outcome t o)
  pub fills : buffer ≡ filled lent (reply_bytes o.response.reply)

-- ---- of a run

-- these records, judged one after the other by the typed rules from the tables t, are told this and leave the tables t'
pub record AsTyped (d : Defaults) (t : ByteTables) (qs : List ByteRequest) (told : List ByteResponse) (t' : ByteTables) : Type 0 where
  pub responses_same : told ≡ map written (replies (respond (fresh_of d)) (next (fresh_of d)) (read_tables t) (map read_record qs))
  pub tables_same : read_tables t' ≡ final (next (fresh_of d)) (read_tables t) (map read_record qs)
  -- tables that are not sound stay, byte for byte
  pub unread : read_tables t ≡ none → t' ≡ t

-- ---- of a run of hand-ins, takes and records judged at once: the queue too (U13)

-- each gives what the typed rules give in the terminal that is read, written, and the terminal at the end is read as theirs
pub record AsQueue (d : Defaults) (x : Terminal) (is : List Input) (answers : List Transition) (end : Terminal) : Type 0 where
  pub shown_same : answers ≡ map (written_transition x) (replies (step (fresh_of d)) (stepped (fresh_of d)) (read_terminal x) (map read_input is))
  pub end_same : read_terminal end ≡ final (stepped (fresh_of d)) (read_terminal x) (map read_input is)

-- ---- demand 3

module _ (d : Defaults) (chosen : Sender → Bool) (x : Terminal) (is : List Input) (answers : List Transition) where
  -- what the book is fed: the others' records, as they were handed in or waited at the start
  abbrev pub fed : List Record
  fed = kept (is_others chosen) (map read_record (requests_of x is answers))

  -- the premise, in the book's typed tables before its first record and after each; a terminal that is not sound needs none
  abbrev pub TypedPremise : Type 0
  TypedPremise = sound_terminal x ≡ true → Along (next (fresh_of d)) (Premise chosen) (read_tables x.tables) fed

  -- the others get the book's responses, and the tables at the end are the book's except for the chosen partners' asserted roles
  pub record TypedIsolated (end : Terminal) : Type 0 where
    pub responses_same : kept_of (isOthersBytes chosen) (requests_of x is answers) (all_responses is answers)
        ≡ map written (replies (respond (fresh_of d)) (next (fresh_of d)) (read_tables x.tables) fed)
    pub tables_same : compared chosen (read_tables end.tables) ≡ compared chosen (final (next (fresh_of d)) (read_tables x.tables) fed)
    -- tables that are not sound stay, byte for byte
    pub unread : read_tables x.tables ≡ none → end.tables ≡ x.tables

-- ---- yards

-- the book's run of these requests in typed tables: each with its response, written
abbrev pub typed_turns : Defaults → Maybe Tables → List ByteRequest → List Turn
typed_turns d t [] = []
typed_turns d t (q ∷ qs) =
    record { request = q; response = written (respond (fresh_of d) t (read_record q)) } ∷ typed_turns d (next (fresh_of d) t (read_record q)) qs

-- what our senders sent and got is what the typed book has that never saw a record of theirs, and so are the tables except for the roles that
-- their partners asserted
pub record TypedAlone (d : Defaults) (ours theirs : Sender → Bool) (t : ByteTables) (us : List Turn) (end : ByteTables) : Type 0 where
  pub response : turns_of ours us ≡ turns_of ours (typed_turns d (read_tables t) (requests_without theirs us))
  pub tables : compared theirs (read_tables end) ≡ compared theirs (final (next (fresh_of d)) (read_tables t) (map read_record (requests_without theirs us)))

-- ---- the records of the inputs are bytes

abbrev pub InputBytes : List Input → Type 0
InputBytes [] = Unit {0}
InputBytes (hand_in r ∷ is) = (is_bytes r ≡ true) × InputBytes is
InputBytes (take_at clock capacity ∷ is) = InputBytes is
InputBytes (direct q ∷ is) = (is_bytes q.bytes ≡ true) × InputBytes is
