-- `put_all`: the bytes of what the rows left become are still to be put, and the numbers stay small.
use Rattle.rows.proofs.Prelude.{◌≡◌, ◌+◌, ◌≤◌, length}
use Rattle.std.specs.Slice.Iter.{chunks_exact_rest, chunks_exact_size}
use Rattle.text.proofs.Buffers.{Writing}
use Rattle.rows.specs.Rows.{joined}
use Rattle.rules_legacy.specs.OldList.{old_rows}
use Rattle.rules_legacy.specs.Conversion.{all_entries, rows_made}
use Rattle.list_convert.proofs.Files.{bytes_from}
use Rattle.list_convert.proofs.put_all.Given as goal

abbrev pub invariant-loop-row : goal.invariant-loop-row
invariant-loop-row l = record {
  whole_rows : chunks_exact_size l.row-iterator ≡ 25;
  few : l.number + length (all_entries (old_rows (chunks_exact_rest l.row-iterator))) ≤ 33;
  writing : Writing l.fn.out 0 (joined (rows_made l.file)) (bytes_from l.number (old_rows (chunks_exact_rest l.row-iterator))) l.out l.p;
}
