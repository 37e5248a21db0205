-- What a verdict says: no check of a list applies, or the first that does (demand 1).
use Rattle.std.specs.Prelude.{ℕ, Bool, ◌&&◌, not, true, List, [], ◌++◌, ◌∷◌, ◌≡◌}
use Rattle.rules.specs.Action.{action}
use Rattle.rules.specs.Promises.Groups.{form_checks, request_checks, state_checks}
use Rattle.rules.specs.Record.{header_of}
use Rattle.rules.specs.Tables.{head_of}
use Rattle.rules.specs.declared.Tables.{Tables}

-- no check of the list applies
abbrev pub none_applies : List (ℕ × Bool) → Bool
none_applies [] = true
none_applies (e ∷ es) = not e.1 && none_applies es

-- check n applies, and none before it
pub record FirstOf (n : ℕ) (es : List (ℕ × Bool)) : Type 0 where
  pub before : List (ℕ × Bool)
  pub after : List (ℕ × Bool)
  pub stands : es ≡ before ++ (n, true) ∷ after
  pub passed : none_applies before ≡ true

-- the checks before 13: 1 to 7, 16 and 8 to 12, where p is the record's effective permission
abbrev pub earlier : Tables → ℕ → List ℕ → List (ℕ × Bool)
earlier t p r = form_checks t r ++ request_checks p (header_of r) (action r) ++ state_checks (head_of t) (action r)
