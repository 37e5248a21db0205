-- `put_all`: a turn puts the rows that one old row becomes.
use Rattle.rows.proofs.Prelude.{ap, ◌∙◌, arith}
use Rattle.std.specs.Slice.Iter.{chunks_exact_rest}
use Rattle.text.proofs.Buffers.{writing_start, writing_step, writing_end}
use Rattle.rules_legacy.specs.OldList.{old_rows}
use Rattle.rules_legacy.specs.Conversion.{rows_made}
use Rattle.rules_legacy.proofs.Stored.{rows_count}
use Rattle.list_convert.proofs.Files.{row_comes, none_comes, entries_more, two_at_most, bytes_from, bytes_more, bytes_end, made_fits}
use Rattle.list_convert.proofs.put_all.Goals as goal

pub loop-row-init : goal.loop-row-init
unfolding rows_made
loop-row-init c =
    rw (c.into_iter-row-iterator.ensures.into_iter_gives, c.chunks_exact-row-items.ensures.rest) (record {
      whole_rows = c.chunks_exact-row-items.ensures.size;
      few = omega (arith, c.requires.0, rows_count c.args.file.now);
      writing = writing_start _ _ _ (omega arith) (omega arith);
    })

pub put_made-p-requires : goal.put_made-p-requires
put_made-p-requires c =
    let s = c.in-Some.ensures.steps in
    let l = s.1.1 ∙ c.loop-row.invariant.whole_rows in
    let e = row_comes (chunks_exact_rest c.loop-row.row-iterator) c.in-Some.row.now (chunks_exact_rest c.next.new.self) s.1.0 l in
    (omega arith, l, made_fits c.loop-row.number c.in-Some.row.now _ (rw e at c.loop-row.invariant.writing) c.requires.1)

pub loop-row-preserved : goal.loop-row-preserved
loop-row-preserved c =
    let s = c.in-Some.ensures.steps in
    let e = row_comes (chunks_exact_rest c.loop-row.row-iterator) c.in-Some.row.now (chunks_exact_rest c.next.new.self) s.1.0 (s.1.1 ∙ c.loop-row.invariant.whole_rows) in
    let m = c.made_count-number.ensures in record {
      whole_rows = s.0 ∙ c.loop-row.invariant.whole_rows;
      few = omega (arith, m, rw e at c.loop-row.invariant.few, entries_more c.in-Some.row.now (old_rows (chunks_exact_rest c.next.new.self)));
      writing = rw m (writing_step _ _ c.loop-row.invariant.writing (ap (bytes_from c.loop-row.number) e ∙ bytes_more c.loop-row.number c.in-Some.row.now _) c.put_made-p.ensures);
    }

pub overflow_add-number : goal.overflow_add-number
overflow_add-number c = omega (arith, c.made_count-number.ensures, two_at_most c.in-Some.row.now)

pub returns : goal.returns
returns c =
    writing_end c.loop-row.invariant.writing (ap (bytes_from c.loop-row.number) (none_comes (chunks_exact_rest c.loop-row.row-iterator) (omega (arith, c.in-None.ensures.steps.1.0, c.loop-row.invariant.whole_rows))) ∙ bytes_end c.loop-row.number)
