-- Two runs in step: one over all inputs, one over those that are kept, and a relation between their states.
use Rattle.std.specs.Prelude.{Bool, false, true, List, ◌≡◌}
use Rattle.rules.specs.Run.{final, kept, kept_of, replies}

module _ {State Input Output : Type 0} (reply : State → Input → Output) (next : State → Input → State)
    (keep : Input → Bool) (P : State → Type 0) (R : State → State → Type 0) where
  -- an input that is not kept leaves the first state in relation
  abbrev pub Silent : Type 0
  Silent = (s b : State) (r : Input) → keep r ≡ false → P b → R s b → R (next s r) b

  -- a kept input gets the same reply in both, and leaves both in relation
  abbrev pub Alike : Type 0
  Alike = (s b : State) (r : Input) → keep r ≡ true → P b → R s b → (reply s r ≡ reply b r) × R (next s r) (next b r)

  -- the outputs at the kept inputs, and the last states
  abbrev pub Together : State → State → List Input → Type 0
  Together s b rs = (kept_of keep rs (replies reply next s rs) ≡ replies reply next b (kept keep rs)) × R (final next s rs) (final next b (kept keep rs))
