-- Names for bytes and for numbers that count or point at them. Each is the plain type: a name tells a reader, and a proof nothing.
use Rattle.std.specs.Prelude.{ℕ, List}

-- a record, a body, a row, a buffer
abbrev pub Bytes : Type 0
Bytes = List ℕ

-- how many bytes, bits or rows
abbrev pub Size : Type 0
Size = ℕ

-- which row, byte or seat of several: 0 is the first
abbrev pub Index : Type 0
Index = ℕ

-- where a field begins: how many bytes or bits come before it
abbrev pub Offset : Type 0
Offset = ℕ
