-- What is stored of a terminal: the tables and the queue, as one image; or only the tables, so that after a restart nothing waits.
use Rattle.std.specs.Prelude.{ℕ, ◌+◌, ◌≡◌, Bool, true, false, ◌&&◌, List, [], ◌∷◌, map}
use Rattle.rules.specs.Defaults.{Defaults}
use Rattle.rules_terminal.specs.Slots.{empty_queue}
use Rattle.rules_terminal.specs.Terminal.{Terminal, terminal, Transition, number_transition, cleared_terminal}
use Rattle.rules_terminal.specs.Inputs.{Input, transition, next, takes}
use Rattle.rules_terminal.specs.CallRun.{Call, Meets, left, Built, handed_back}
use Rattle.rules_power.specs.Image.{tables_image, terminal_image, tables_size, terminal_size, tables_in, terminal_in}
use Rattle.rules_power.specs.Day.{Machine, Event, replied, cut, idle, SeenOf}

-- an input, or the clear button; the first image of a new terminal is stored as the button's is
pub data Act : Type 0 where
  input : Input → Act
  clear : Act

abbrev pub act_next : Defaults → Terminal → Act → Terminal
act_next d x (input i) = next d x i
act_next d x clear = cleared_terminal d x

-- by the rules
pub data Answers (d : Defaults) : Terminal → Act → Transition → Terminal → Type 0 where
  gives : (x : Terminal) (i : Input) → Answers d x (input i) (transition d x i) (next d x i)
  clears : (x : Terminal) → Answers d x clear (number_transition 0 (cleared_terminal d x)) (cleared_terminal d x)

-- by a call that meets its contract. For the clear button's call only the tables and the queue count
pub data Calls (d : Defaults) : Terminal → Act → Call → Terminal → Type 0 where
  gives : (x : Terminal) (i : Input) (c : Call) → Meets d x i c → Calls d x (input i) c (left c)
  clears : (x : Terminal) (c : Call) → left c ≡ cleared_terminal d x → Calls d x clear c (left c)

-- how many takes there are, and how many were answered
abbrev pub take_of : Act → ℕ
take_of (input i) = takes (i ∷ [])
take_of clear = 0

abbrev pub takes_answered : {Answer : Type 0} → List (Event Act Answer) → ℕ
takes_answered [] = 0
takes_answered (replied act a ∷ es) = take_of act + takes_answered es
takes_answered (cut act ∷ es) = takes_answered es
takes_answered (idle ∷ es) = takes_answered es

-- the clear button is not pressed
abbrev pub is_input : Act → Bool
is_input (input i) = true
is_input clear = false

abbrev pub no_clear : {Answer : Type 0} → List (Event Act Answer) → Bool
no_clear [] = true
no_clear (replied act a ∷ es) = is_input act && no_clear es
no_clear (cut act ∷ es) = is_input act && no_clear es
no_clear (idle ∷ es) = no_clear es

-- what a restart leaves, where only the tables are stored
abbrev pub nothing_waits : Terminal → Terminal
nothing_waits x = terminal x.tables empty_queue

module _ {Answer : Type 0} (Gives : Terminal → Act → Answer → Terminal → Type 0) where
  abbrev pub whole : Machine Terminal Act Answer
  whole = record { Gives = Gives; size = terminal_size; image = terminal_image; load = terminal_in; restart = λ x. x }

  abbrev pub tables_alone : Machine Terminal Act Answer
  tables_alone = record {
    Gives = Gives;
    size = tables_size;
    image = λ x. tables_image x.tables;
    load = λ bytes. terminal (tables_in bytes) empty_queue;
    restart = nothing_waits;
  }

module _ (d : Defaults) where
  -- a terminal that is stored whole, by the rules and by calls
  abbrev pub by_rules : Machine Terminal Act Transition
  by_rules = whole (Answers d)

  abbrev pub by_calls : Machine Terminal Act Call
  by_calls = whole (Calls d)

  -- a terminal of which only the tables are stored
  abbrev pub tables_by_rules : Machine Terminal Act Transition
  tables_by_rules = tables_alone (Answers d)

  abbrev pub tables_by_calls : Machine Terminal Act Call
  tables_by_calls = tables_alone (Calls d)

  -- a day on which the clear button is not pressed, as calls that the other theorems take: each on what was returned last
  pub record AsCalls (x : Terminal) (es : List (Event Act Call)) (z : Terminal) : Type 0 where
    pub inputs : List Input
    pub calls : List Call
    pub built : Built d x inputs calls
    pub ends : z ≡ handed_back x calls
    pub seen : SeenOf (map input inputs) calls es
