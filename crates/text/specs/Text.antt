-- Texts as lists of bytes: a text as it is printed, and a number in decimal.
-- Definitions that contracts cite use these, so that the paper's words are in them as they are.
use Rattle.std.specs.Prelude.{cond, List, [], ◌∷◌, ◌++◌, ℕ, zero, suc, ◌+◌, ◌/◌, ◌%◌, ltb}
use Prim.Native.Char.{code}
use Prim.Native.String.{String, [] as []ˢ, ◌∷◌ as ◌∷ˢ◌}

-- one byte for each character
abbrev pub Text : Type 0
Text = List ℕ

-- the bytes of an ASCII text
unfoldable pub ascii : String → Text
ascii []ˢ = []
ascii (c ∷ˢ s) = code c ∷ ascii s

-- a number's last digit, where 48 is the character 0
abbrev pub last_digit : ℕ → ℕ
last_digit n = 48 + n % 10

-- below ten its one digit; from ten on the digits of its tenth and then its last; in at most that many steps
unfoldable pub decimal_in : ℕ → ℕ → Text
decimal_in zero n = last_digit n ∷ []
decimal_in (suc steps) n = cond (ltb n 10) (last_digit n ∷ []) (decimal_in steps (n / 10) ++ last_digit n ∷ [])

-- a number in decimal, without leading zeros: a tenth is less than the number, so n steps are enough
unfoldable pub decimal : ℕ → Text
decimal n = decimal_in n n
