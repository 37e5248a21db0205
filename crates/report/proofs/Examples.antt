-- Worked examples of the definitions, by computing: a line, and the runs that hold no whole record.
-- The run of document 01 is the run program's own test.
use Rattle.rows.proofs.Prelude.{◌≡◌, refl, List, [], ◌∷◌, ◌++◌, map, ℕ, replicate}
use Rattle.rules.specs.Bits.{bit, bits}
use Rattle.text.specs.Text.{ascii, decimal_in, decimal}
use Rattle.report.specs.Run.{header, line, cut, lines_from, lines, run_text}

pub line_example : line 5 12 0 2 ≡ ascii "5 12 0 2\n"
unfolding ascii decimal_in decimal line
line_example = refl

pub clock : List ℕ
clock = replicate 4 0

-- empty input; a clock cut short; only a clock; a clock and one byte; only a length; a record of which a byte is missing
pub no_record :
    map run_text ([] ∷ replicate 3 0 ∷ clock ∷ (clock ++ (0x00 ∷ [])) ∷ (clock ++ (0x00 ∷ 0x04 ∷ [])) ∷ (clock ++ (0x00 ∷ 0x04 ∷ 0x22 ∷ 0x00 ∷ 0x00 ∷ [])) ∷ [])
    ≡ map ascii ("n answer perm state\n" ∷ replicate 5 "n answer perm state\ncut\n")
unfolding clock bit bits ascii header cut lines_from lines run_text
no_record = refl
