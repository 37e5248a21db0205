-- Tables as a file of test vectors has them: the fields of the head one after the other, then the rows of either kind.
-- Rows are after their length (16 bits), without the zeros after them. Any bytes are tables.
use Rattle.std.specs.Prelude.{take, drop, get_or, replicate}
use Rattle.text.specs.Buffer.{written}
use Rattle.rules.specs.declared.Tables.{Tables}
use Rattle.rules.specs.Bits.{bits}
use Rattle.rules.specs.declared.Table.TheVariants.{Aces, Creds}
use Rattle.rules.specs.Tables.{table_size}
use Rattle.rules.specs.Types.{Bytes, Size}

-- bytes of this size, of which the first are these
abbrev pub padded : Size → Bytes → Bytes
padded size bytes = written (replicate size 0) 0 bytes

-- the length before the bytes, and that many of them
abbrev pub counted : Bytes → Bytes
counted bytes = take (bits bytes 0 16) (drop 2 bytes)

abbrev pub after_counted : Bytes → Bytes
after_counted bytes = drop (bits bytes 0 16) (drop 2 bytes)

abbrev pub tables_in : Bytes → Tables
tables_in bytes = record {
  state = get_or bytes 0 0;
  owned = get_or bytes 1 0;
  ncreds = get_or bytes 2 0;
  naces = get_or bytes 3 0;
  devowner = padded 16 (drop 4 bytes);
  rowners = padded 64 (drop 20 bytes);
  creds = padded (table_size Creds) (counted (drop 84 bytes));
  aces = padded (table_size Aces) (counted (after_counted (drop 84 bytes)));
}
