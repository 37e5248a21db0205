-- A run: each input meets the state that the one before left. Over any state, input and output.
-- The others' inputs are kept by a test, and their outputs by the same test.
use Rattle.std.specs.Prelude.{Bool, cond, List, [], ◌∷◌}

module _ {State Input Output : Type 0} (reply : State → Input → Output) (next : State → Input → State) where
  -- the replies, in order
  abbrev pub replies : State → List Input → List Output
  replies s [] = []
  replies s (i ∷ is) = reply s i ∷ replies (next s i) is

module _ {State Input : Type 0} (next : State → Input → State) where
  -- the state at the end
  abbrev pub final : State → List Input → State
  final s [] = s
  final s (i ∷ is) = final (next s i) is

  -- a condition holds before the first input and after each
  abbrev pub Along : (State → Type 0) → State → List Input → Type 0
  Along P s [] = P s
  Along P s (i ∷ is) = P s × Along P (next s i) is

module _ {Input : Type 0} (keep : Input → Bool) where
  -- the inputs that the test keeps
  abbrev pub kept : List Input → List Input
  kept [] = []
  kept (i ∷ is) = cond (keep i) (i ∷ kept is) (kept is)

  -- of one output for each input, those of the inputs that the test keeps
  abbrev pub kept_of : {Output : Type 0} → List Input → List Output → List Output
  kept_of [] xs = []
  kept_of (i ∷ is) [] = []
  kept_of (i ∷ is) (x ∷ xs) = cond (keep i) (x ∷ kept_of is xs) (kept_of is xs)
