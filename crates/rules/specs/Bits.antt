-- Bit-packed numbers, most significant bit first: the one reader of every numeric field.
-- A bit past the end is 0.
use Rattle.std.specs.Prelude.{ℕ, zero, suc, ◌+◌, ◌*◌, ◌-◌, ◌/◌, ◌%◌, ◌^◌, [], ◌∷◌, get_or}
use Rattle.rules.specs.Types.{Bit, Bytes, Offset, Size}

-- bit i of the bytes, counted from the most significant bit of the first
unfoldable pub bit : Bytes → Offset → Bit
bit bytes at = get_or bytes (at / 8) 0 / 2 ^ (7 - at % 8) % 2

-- the field of `width` bits that starts at bit `start`
unfoldable pub bits : Bytes → Offset → Size → ℕ
bits bytes start zero = 0
bits bytes start (suc width) = bits bytes start width * 2 + bit bytes (start + width)

-- the two bytes of a 16-bit number
unfoldable pub be16 : ℕ → Bytes
be16 n = n / 256 ∷ n % 256 ∷ []
