-- A machine that keeps its state in a store while the power is cut again and again, and runs of it without power cuts.
-- Over any state, input and answer.
use Rattle.std.specs.Prelude.{◌≡◌, List, [], ◌∷◌, length, Bool, false, true, ℕ}
use Rattle.rules_store.specs.declared.Step.TheVariants.{Done}
use Rattle.rules_store.specs.Store as store
use Rattle.rules_store.specs.Store.{Address, Image, Store, size_for, current}
use Rattle.rules_store.specs.Cuts.{Attempt}
use Rattle.rules.specs.Types.{Size}

-- what an input is answered and which state it leaves; how long an image is, the image of a state, the state in an image;
-- and what a restart leaves of a state
pub record Machine (State Input Answer : Type 0) : Type 1 where
  pub Gives : State → Input → Answer → State → Type 0
  pub size : Size
  pub image : State → Image
  pub load : Image → State
  pub restart : State → State

-- what is seen of a day: an input and its answer; an input without one, since the power was cut; a power cut between two inputs
pub data Event (Input Answer : Type 0) : Type 0 where
  replied : Input → Answer → Event Input Answer
  cut : Input → Event Input Answer
  idle : Event Input Answer

module _ {State Input Answer : Type 0} (m : Machine State Input Answer) where
  -- the state that a program finds in the store when the power comes on
  unfoldable pub found : Store → State
  found s = m.load (current m.size s)

  -- A day, from a state and a store to a state and a store. The image of the state that an input leaves is stored. Once that is done,
  -- the input is answered. Or the power is cut, with anything left in the part that is being written, and the program goes on with what it finds
  pub data Day : State → Store → List (Event Input Answer) → State → Store → Type 0 where
    ends : {x : State} {s : Store} → Day x s [] x s
    answers : {x y z : State} {s t end : Store} {es : List (Event Input Answer)} (i : Input) (a : Answer) → m.Gives x i a y
        → Attempt (m.image y) s t → (from : Address) → store.next t (m.image y) from ≡ Done
        → Day y t es z end → Day x s (replied i a ∷ es) z end
    cuts : {x y z : State} {s t end : Store} {es : List (Event Input Answer)} (i : Input) (a : Answer) → m.Gives x i a y
        → Attempt (m.image y) s t → Day (found t) t es z end → Day x s (cut i ∷ es) z end
    idles : {x z : State} {s end : Store} {es : List (Event Input Answer)} → Day (found s) s es z end → Day x s (idle ∷ es) z end

  -- The same without a store. An input that was cut counts, or it is left out; and a restart leaves of the state what it does
  pub data Restarts : State → List (Event Input Answer) → State → Type 0 where
    ends : {x : State} → Restarts x [] x
    answers : {x y z : State} {es : List (Event Input Answer)} (i : Input) (a : Answer) → m.Gives x i a y → Restarts y es z → Restarts x (replied i a ∷ es) z
    counts : {x y z : State} {es : List (Event Input Answer)} (i : Input) (a : Answer) → m.Gives x i a y → Restarts (m.restart y) es z
        → Restarts x (cut i ∷ es) z
    leaves_out : {x z : State} {es : List (Event Input Answer)} (i : Input) → Restarts (m.restart x) es z → Restarts x (cut i ∷ es) z
    idles : {x z : State} {es : List (Event Input Answer)} → Restarts (m.restart x) es z → Restarts x (idle ∷ es) z

  -- a run: each input meets the state that the one before left
  pub data Run : State → List Input → List Answer → State → Type 0 where
    none : {x : State} → Run x [] [] x
    more : {x y z : State} {is : List Input} {bs : List Answer} (i : Input) (a : Answer) → m.Gives x i a y → Run y is bs z → Run x (i ∷ is) (a ∷ bs) z

-- The events are those of a run: each input that was answered is in it, with its answer; each input that was cut is in it or is left out;
-- nothing else is in it; and all in their order
pub data SeenOf {Input Answer : Type 0} : List Input → List Answer → List (Event Input Answer) → Type 0 where
  none : SeenOf [] [] []
  transition : {is : List Input} {bs : List Answer} {es : List (Event Input Answer)} (i : Input) (a : Answer) → SeenOf is bs es
      → SeenOf (i ∷ is) (a ∷ bs) (replied i a ∷ es)
  counted : {is : List Input} {bs : List Answer} {es : List (Event Input Answer)} (i : Input) (a : Answer) → SeenOf is bs es
      → SeenOf (i ∷ is) (a ∷ bs) (cut i ∷ es)
  left_out : {is : List Input} {bs : List Answer} {es : List (Event Input Answer)} (i : Input) → SeenOf is bs es → SeenOf is bs (cut i ∷ es)
  unseen : {is : List Input} {bs : List Answer} {es : List (Event Input Answer)} → SeenOf is bs es → SeenOf is bs (idle ∷ es)

-- there is a run without power cuts, of which the events are seen
pub record AsRun {State Input Answer : Type 0} (m : Machine State Input Answer) (x : State) (es : List (Event Input Answer)) (y : State) : Type 0 where
  pub inputs : List Input
  pub replies : List Answer
  pub run : Run m x inputs replies y
  pub seen : SeenOf inputs replies es

-- the state at hand, and a store that keeps it
pub record Kept {State Input Answer : Type 0} (m : Machine State Input Answer) (Good : State → Type 0) (x : State) (s : Store) : Type 0 where
  pub fits : length s ≡ size_for m.size
  pub good : Good x
  pub finds : found m s ≡ m.restart x

-- ---- several inputs are stored together, and then answered

abbrev pub in_rounds : {State Input Answer : Type 0} → Machine State Input Answer → Machine State (List Input) (List Answer)
in_rounds m = record { Gives = Run m; size = m.size; image = m.image; load = m.load; restart = m.restart }

-- ---- machines whose states have images

-- a good state has an image of the length, from which what a restart leaves of it is loaded; good states are what is loaded and what inputs leave
pub record Keeps {State Input Answer : Type 0} (m : Machine State Input Answer) (Good : State → Type 0) : Type 0 where
  pub loads : (bytes : List ℕ) → length bytes ≡ m.size → Good (m.load bytes)
  pub goes_on : (x y : State) (i : Input) (a : Answer) → m.Gives x i a y → Good x → Good y
  pub sized : (x : State) → Good x → length (m.image x) ≡ m.size
  pub back : (x : State) → Good x → m.load (m.image x) ≡ m.restart x
  pub rests : (bytes : List ℕ) → m.restart (m.load bytes) ≡ m.load bytes

-- ---- what is seen of a day

-- every input is answered
abbrev pub all_answered : {Input Answer : Type 0} → List (Event Input Answer) → Bool
all_answered [] = true
all_answered (replied i a ∷ es) = all_answered es
all_answered (cut i ∷ es) = false
all_answered (idle ∷ es) = false

-- the same event with another answer
abbrev pub event_of : {Input Answer Other : Type 0} → (Input → Answer → Other) → Event Input Answer → Event Input Other
event_of f (replied i a) = replied i (f i a)
event_of f (cut i) = cut i
event_of f idle = idle

-- each input with its answer
abbrev pub all_responses : {Input Answer : Type 0} → List Input → List Answer → List (Event Input Answer)
all_responses [] bs = []
all_responses (i ∷ is) [] = []
all_responses (i ∷ is) (a ∷ bs) = replied i a ∷ all_responses is bs

-- a day on which each input is stored to the end
pub record Uncut {State Input Answer : Type 0} (m : Machine State Input Answer) (x : State) (s : List ℕ) (is : List Input) (bs : List Answer) (z : State)
    : Type 0 where
  pub end : List ℕ
  pub seen : Day m x s (all_responses is bs) z end
