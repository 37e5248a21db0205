-- The text of a run: "A run, whole" of document 01, with the clocks of U8.
-- The records are taken from the front of the input, one after the other, and each is judged on the tables that the one before left.
use Rattle.std.specs.Prelude.{Bool, cond, [], ◌++◌, ℕ, zero, suc, ◌+◌, eqb, ltb, length, take, drop}
use Rattle.text.specs.Text.{Text, ascii, decimal}
use Rattle.rules.specs.declared.Tables.{Tables}
use Rattle.rules.specs.Bits.{bits}
use Rattle.rules.specs.Record.{Request, received}
use Rattle.rules.specs.Defaults.{no_defaults, fresh}
use Rattle.rules.specs.Outcome.{response_to, tables_after}
use Rattle.rules.specs.Reading.{longest_reply}
use Rattle.rules.specs.Types.{Answer, Bytes, Clock, Number, Permission, Size, State}

unfoldable pub header : Text
header = ascii "n answer perm state\n"

-- number of the record in the run, answer, permission and the state it leaves: decimals, a space between each two
unfoldable pub line : Number → Answer → Permission → State → Text
line number answer permission state =
    decimal number ++ ascii " " ++ decimal answer ++ ascii " " ++ decimal permission ++ ascii " " ++ decimal state ++ ascii "\n"

-- each record is passed in a buffer that fits any reply
abbrev pub lent : Clock → Bytes → Request
lent clock r = received clock r longest_reply

-- of a record that is judged on the tables t
abbrev pub line_for : Tables → Number → Request → Text
line_for t number q = line number (response_to no_defaults t q).answer (response_to no_defaults t q).permission (tables_after no_defaults t q).state

unfoldable pub cut : Text
cut = ascii "cut\n"

-- the 32-bit clock that the input starts with (U8), the 16-bit length and the record after it, and the input after that
abbrev pub clock_of : Bytes → Clock
clock_of input = bits input 0 32

abbrev pub length_of : Bytes → Size
length_of input = bits (drop 4 input) 0 16

abbrev pub first_of : Bytes → Request
first_of input = lent (clock_of input) (take (length_of input) (drop 6 input))

abbrev pub rest_of : Bytes → Bytes
rest_of input = drop (6 + length_of input) input

-- a clock cut short or with no length after it, or a length whose record isn't all there
abbrev pub is_cut : Bytes → Bool
is_cut input = ltb (length input) (6 + length_of input)

-- the lines for this input, in at most this many steps
unfoldable pub lines_from : ℕ → Tables → Number → Bytes → Text
lines_from zero t number input = []
lines_from (suc steps) t number input =
    cond (eqb (length input) 0) []
    (cond (is_cut input) cut
    (line_for t number (first_of input) ++ lines_from steps (tables_after no_defaults t (first_of input)) (number + 1) (rest_of input)))

-- from fresh tables; a record takes at least six bytes, so as many steps as there are bytes are enough
unfoldable pub lines : Bytes → Text
lines input = lines_from (length input) (fresh no_defaults) 1 input

unfoldable pub run_text : Bytes → Text
run_text input = header ++ lines input
