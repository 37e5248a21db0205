-- A buffer after a text was put into it at a position, and the position after it.
-- Both are total: what does not fit is not written, and the position goes on, up to the largest one.
use Rattle.std.specs.Prelude.{◌≡◌, List, [], ◌∷◌, ℕ, zero, suc, ◌+◌, ◌≤◌, min, length, take}
use Rattle.text.specs.Text.{Text}

-- the bytes that a caller gives to be written to, and how many of them are written
abbrev pub Buffer : Type 0
Buffer = List ℕ

abbrev pub Position : Type 0
Position = ℕ

-- the buffer after a text was written over it from a position on, as far as the buffer goes
unfoldable pub written : Buffer → Position → Text → Buffer
written [] at text = []
written (b ∷ out) zero [] = b ∷ out
written (b ∷ out) zero (x ∷ text) = x ∷ written out zero text
written (b ∷ out) (suc at) text = b ∷ written out at text

-- the largest usize, and so the largest position
abbrev pub largest : Position
largest = 18446744073709551615

-- a text was put into a buffer at a position: the position after it, and the buffer after it
pub record Puts (out : Buffer) (at : Position) (text : Text) (out' : Buffer) (r : Position) : Type 0 where
  pub next : r ≡ min (at + length text) largest
  pub buffer : out' ≡ written out at text

-- r bytes at the start of a buffer: of these two facts the proof of a caller's `&out[..r]` is made with no file
abbrev pub Counts : Position → Buffer → Type 0
Counts end out = (end ≤ length out) × (end ≡ length (take end out))
