-- A day on which only the tables are stored: stretches of calls, and a restart between each two of them, which drops the queue.
-- What such a day shows: the records judged, what their senders get, and when a waiting record is given out.
use Rattle.std.specs.Prelude.{ℕ, ◌≤◌, ◌≡◌, Bool, true, ◌&&◌, List, [], ◌∷◌, ◌++◌, map}
use Rattle.rows.specs.Rows.{same, some}
use Rattle.rules.specs.declared.Sender.{Sender}
use Rattle.rules.specs.Record.{Request}
use Rattle.rules.specs.Defaults.{Defaults}
use Rattle.rules.specs.Outcome.{Response, response_to, tables_after}
use Rattle.rules.specs.Run.{replies, final, Along, kept, kept_of}
use Rattle.rules.specs.Isolation.{Premise, is_others, compared}
use Rattle.rules_terminal.specs.Terminal.{Terminal, Transition}
use Rattle.rules_terminal.specs.Inputs.{Input, takes, records_in}
use Rattle.rules_terminal.specs.CallRun.{Call, Built, handed_back, all_shown}
use Rattle.rules_runs.specs.Events.{requests, event_of, gathered}
use Rattle.rules_runs.specs.Isolation.{all_responses}
use Rattle.rules_runs.specs.Waits.{record_taken, QuietFor}
use Rattle.rules_power.specs.Day.{Event, replied, cut, idle}
use Rattle.rules_power.specs.Kept.{Act, input, is_input, nothing_waits}

-- ---- the calls

-- those of the first stretch on the terminal x; those of each later one on the tables that the one before left, where nothing waits
abbrev pub BuiltAcross : Defaults → Terminal → List (List Input) → List (List Call) → Type 0
BuiltAcross d x [] [] = Unit {0}
BuiltAcross d x [] (cs ∷ css) = ⊥
BuiltAcross d x (is ∷ iss) [] = ⊥
BuiltAcross d x (is ∷ iss) (cs ∷ css) = Built d x is cs × BuiltAcross d (nothing_waits (handed_back x cs)) iss css

-- the terminal after the last of them
abbrev pub left_across : Terminal → List (List Call) → Terminal
left_across x [] = x
left_across x (cs ∷ []) = handed_back x cs
left_across x (cs ∷ ds ∷ css) = left_across (nothing_waits (handed_back x cs)) (ds ∷ css)

-- what they show
abbrev pub shown_across : List (List Input) → List (List Call) → List (List Transition)
shown_across [] css = []
shown_across (is ∷ iss) [] = []
shown_across (is ∷ iss) (cs ∷ css) = all_shown is cs ∷ shown_across iss css

-- ---- the records judged

-- with the bytes of the hand-ins of the same stretch; rs are the records that wait at the start, and after a restart none does
abbrev pub requests_across : List (List ℕ) → List (List Input) → List (List Transition) → List Request
requests_across rs [] answers = []
requests_across rs (is ∷ iss) [] = []
requests_across rs (is ∷ iss) (first ∷ answers) = requests rs (gathered event_of is first) ++ requests_across [] iss answers

-- what their senders get
abbrev pub responses_across : List (List Input) → List (List Transition) → List Response
responses_across [] answers = []
responses_across (is ∷ iss) [] = []
responses_across (is ∷ iss) (first ∷ answers) = all_responses is first ++ responses_across iss answers

-- demand 3: the book is fed the others' records, byte for byte as they were handed in or waited at the start
module _ (d : Defaults) (chosen : Sender → Bool) (x : Terminal) (iss : List (List Input)) (answers : List (List Transition)) where
  abbrev pub others_across : List Request
  others_across = kept (is_others chosen) (requests_across (records_in x) iss answers)

  -- the premise, in the book's tables before its first record and after each
  abbrev pub PremiseAcross : Type 0
  PremiseAcross = Along (tables_after d) (Premise chosen) x.tables others_across

  -- the others get the book's responses, and the tables at the end are the book's except for the chosen partners' asserted roles
  pub record IsolatedAcross (end : Terminal) : Type 0 where
    pub responses_same : kept_of (is_others chosen) (requests_across (records_in x) iss answers) (responses_across iss answers)
        ≡ replies (response_to d) (tables_after d) x.tables others_across
    pub tables_same : compared chosen end.tables ≡ compared chosen (final (tables_after d) x.tables others_across)

-- ---- within 25 takes

-- a record that waits in the terminal x is given out if these inputs have 25 takes, and no credential row comes or goes and the tables are
-- not cleared while it waits
abbrev pub Serves : Terminal → List Input → List Transition → Type 0
Serves x is answers =
    (r : List ℕ) → some (same r) (records_in x) ≡ true → QuietFor r x is answers → 25 ≤ takes is → some (same r) (gathered record_taken is answers) ≡ true

-- so from each moment of a stretch on
abbrev pub ServesAlways : Terminal → List Input → List Transition → Type 0
ServesAlways x [] answers = Unit {0}
ServesAlways x (i ∷ is) [] = Unit {0}
ServesAlways x (i ∷ is) (a ∷ answers) = Serves x (i ∷ is) (a ∷ answers) × ServesAlways a.terminal is answers

-- so of each stretch: only a restart drops a record that was kept
abbrev pub ServesAcross : Terminal → List (List Input) → List (List Call) → Type 0
ServesAcross x [] css = Unit {0}
ServesAcross x (is ∷ iss) [] = Unit {0}
ServesAcross x (is ∷ iss) (cs ∷ css) = ServesAlways x is (all_shown is cs) × ServesAcross (nothing_waits (handed_back x cs)) iss css

-- ---- what is seen of such a day. Inputs are stored and answered in rounds

-- The events are those of these stretches: each round that was answered is in one, with its answers; a round that was cut ends a stretch, or is
-- left out; nothing else is in them; and all in their order
pub data SeenAcross {Input Answer : Type 0} : List (List Input) → List (List Answer) → List (Event (List Input) (List Answer)) → Type 0 where
  none : SeenAcross ([] ∷ []) ([] ∷ []) []
  answered : {is : List Input} {bs : List Answer} {iss : List (List Input)} {bss : List (List Answer)} {es : List (Event (List Input) (List Answer))}
      (round : List Input) (answers : List Answer) → SeenAcross (is ∷ iss) (bs ∷ bss) es
      → SeenAcross ((round ++ is) ∷ iss) ((answers ++ bs) ∷ bss) (replied round answers ∷ es)
  counted : {iss : List (List Input)} {bss : List (List Answer)} {es : List (Event (List Input) (List Answer))}
      (round : List Input) (answers : List Answer) → SeenAcross iss bss es → SeenAcross (round ∷ iss) (answers ∷ bss) (cut round ∷ es)
  left_out : {iss : List (List Input)} {bss : List (List Answer)} {es : List (Event (List Input) (List Answer))} (round : List Input)
      → SeenAcross iss bss es → SeenAcross ([] ∷ iss) ([] ∷ bss) (cut round ∷ es)
  unseen : {iss : List (List Input)} {bss : List (List Answer)} {es : List (Event (List Input) (List Answer))}
      → SeenAcross iss bss es → SeenAcross ([] ∷ iss) ([] ∷ bss) (idle ∷ es)

-- the clear button is not pressed
abbrev pub all_inputs : List Act → Bool
all_inputs [] = true
all_inputs (act ∷ acts) = is_input act && all_inputs acts

abbrev pub no_clear_in : {Answer : Type 0} → List (Event (List Act) (List Answer)) → Bool
no_clear_in [] = true
no_clear_in (replied round answers ∷ es) = all_inputs round && no_clear_in es
no_clear_in (cut round ∷ es) = all_inputs round && no_clear_in es
no_clear_in (idle ∷ es) = no_clear_in es

-- a day as stretches of calls: the inputs and calls up to the first restart, and those of the later stretches
pub record AsStretches (d : Defaults) (x : Terminal) (es : List (Event (List Act) (List Call))) (z : Terminal) : Type 0 where
  pub inputs : List Input
  pub calls : List Call
  pub later : List (List Input)
  pub later_calls : List (List Call)
  pub built : BuiltAcross d x (inputs ∷ later) (calls ∷ later_calls)
  pub ends : z ≡ left_across x (calls ∷ later_calls)
  pub seen : SeenAcross (map (map input) (inputs ∷ later)) (calls ∷ later_calls) es

-- each input stored and answered by itself: a round of one
abbrev pub alone : {Input Answer : Type 0} → Event Input Answer → Event (List Input) (List Answer)
alone (replied i a) = replied (i ∷ []) (a ∷ [])
alone (cut i) = cut (i ∷ [])
alone idle = idle
