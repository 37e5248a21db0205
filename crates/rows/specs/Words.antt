-- Words of contracts: bytes that a function is given, and bytes that it changes.
-- A `requires` speaks of them as they are given, an `ensures` of what they were before the call and became by it.
use Rattle.std.specs.Borrow.{Bor}
use denote.Triple.Both.{Both}
use Rattle.rows.specs.Types.{Bytes}

-- bytes of the caller, in a `requires` and in an `ensures`
abbrev pub Given : Type 0
Given = Bor Bytes

abbrev pub Lent : Type 0
Lent = Both Given Given

abbrev pub was : Lent → Bytes
was lent = lent.entry.now

abbrev pub became : Lent → Bytes
became lent = lent.exit.now
