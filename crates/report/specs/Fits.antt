-- How much room the text of a run takes, so that a caller's buffer is known to hold all of it.
-- A record takes at least six bytes of the input and its line at most 18, and `cut` takes 4, so each byte has at most four bytes of text.
use Rattle.std.specs.Prelude.{◌≡◌, ◌≤◌, ◌<◌, length}
use Rattle.report.specs.Run.{line, lines, run_text}
use Rattle.rules.specs.Types.{Answer, Bytes, Number, Permission, Size, State}

abbrev pub LineFits : Number → Answer → Permission → State → Type 0
LineFits number answer permission state = number < 100000 → length (line number answer permission state) ≤ 18

abbrev pub LinesFit : Bytes → Type 0
LinesFit input = length input ≤ 32768 → length (lines input) ≤ 131072

-- the size of the whole text, if the run is no longer than the run program reads and the buffer has room
abbrev pub Whole : Bytes → Bytes → Size → Type 0
Whole input out size = length input ≤ 32768 → 131092 ≤ length out → size ≡ length (run_text input)
