-- `entries_answer`: the answer for all entries is the answer for those that are left.
use Rattle.rows.proofs.Prelude.{◌≡◌}
use Rattle.std.specs.Iterator.Adapters.{enumerate_source, enumerate_count}
use Rattle.std.specs.Slice.Iter.{chunks_exact_rest, chunks_exact_size}
use Rattle.rules.specs.Promises.Words.{seen}
use Rattle.isolation.proofs.EntryLaws.{FromEntry}
use Rattle.isolation.proofs.entries_answer.Given as goal

abbrev pub invariant-loop-i : goal.invariant-loop-i
invariant-loop-i l = record {
  by_two : chunks_exact_size (enumerate_source l.i-iterator) ≡ 2;
  same : FromEntry (seen l.tables) l.list (chunks_exact_rest (enumerate_source l.i-iterator)) (enumerate_count l.i-iterator);
}
