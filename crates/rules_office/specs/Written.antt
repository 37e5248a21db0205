-- Rows whose text in the office's list tells them apart: rows of bytes that a body could store, for every second.
use Rattle.std.specs.Prelude.{Bool, ◌&&◌, true, List, [], ◌∷◌, ℕ, ltb}
use Rattle.rows.specs.Rows.{Row}
use Rattle.rules.specs.Bodies.{ace_storable}
use Rattle.rules_office.specs.Office.{always}

-- every element passes the test, and some element does
abbrev pub all : {A : Type 0} → (A → Bool) → List A → Bool
all p [] = true
all p (x ∷ xs) = p x && all p xs

-- a byte
abbrev pub is_byte : ℕ → Bool
is_byte b = ltb b 256

-- a row of bytes that a body could store, for every second
unfoldable pub stored_row : Row → Bool
stored_row w = ace_storable w && all is_byte w && always w
