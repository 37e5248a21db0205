-- The bytes of a file that are left of a walk over its entries.
use Rattle.rules.specs.Types.{Bytes}
use Rattle.vectors_queries.specs.declared.entries.Entries.{Entries}

abbrev pub left : Entries → Bytes
left entries = entries.rest.now
