-- `tables_of`: each field by the call that reads it, and each array by what was put into zeros.
use Rattle.vectors_reader.proofs.tables_of.Goals as goal

pub returns : goal.returns
returns c =
    rw (
      c.put.ensures.buffer,
      c.skip.ensures,
      c.put-2.ensures.buffer,
      c.skip-2.ensures,
      c.put-3.ensures.buffer,
      c.counted.ensures,
      c.put-4.ensures.buffer,
      c.counted-2.ensures,
      c.after_counted.ensures,
      c.skip-rows.ensures,
      c.byte_at.ensures,
      c.byte_at-2.ensures,
      c.byte_at-3.ensures,
      c.byte_at-4.ensures,
    )
