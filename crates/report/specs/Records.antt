-- What the iterator over the records of a run gives: a record with its clock, or that the rest is no whole record.
use Rattle.std.specs.Prelude.{◌≡◌, ◌<◌, Option, Some, None, Result, Ok, Err, [], length, take, drop, true, false}
use Rattle.rules.specs.Types.{Bytes}
use Rattle.report.specs.declared.records.Record.{Record}
use Rattle.report.specs.declared.records.Cut.{Cut}
use Rattle.report.specs.Run.{clock_of, length_of, rest_of, is_cut}

-- from the input that is left: what is given, and what is left then
abbrev pub gives : Bytes → Option (Result Record Cut) → Bytes → Type 0
gives input None rest = (length input ≡ 0) × (rest ≡ input)
gives input (Some (Err cut)) rest = (0 < length input) × (is_cut input ≡ true) × (rest ≡ [])
gives input (Some (Ok given)) rest =
    (0 < length input) × (is_cut input ≡ false) × (given.clock ≡ clock_of input)
    × (given.bytes.now ≡ take (length_of input) (drop 6 input)) × (rest ≡ rest_of input)
