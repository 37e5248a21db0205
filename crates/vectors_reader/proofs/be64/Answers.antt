-- `be64`: a field of 64 bits splits into two of 32, and the second is the first of what comes after four bytes.
use Rattle.rows.proofs.Prelude.{sym}
use Rattle.rules.proofs.BitLaws.{bits_split}
use Rattle.rules_legacy.proofs.BitParts.{bits_drop}
use Rattle.vectors_reader.proofs.be64.Goals as goal

pub returns : goal.returns
returns c =
    rw (c.be32-high.ensures, c.be32-low.ensures, c.skip.ensures, bits_drop 4 c.args.s.now 0 32)
    (sym (bits_split c.args.s.now 0 32 32))
