-- `enqueue`: the slot stored, and the count.
use Rattle.rows.proofs.Prelude.{ap, ◌∙◌, arith, length}
use Rattle.rules_terminal.proofs.SlotLaws.{slot_long}
use Rattle.queue.proofs.Laws.{slots_table, fits, rows_few, kept_is}
use Rattle.queue.proofs.enqueue.Goals as goal

pub store-left-requires : goal.store-left-requires
store-left-requires c =
    let made = c.slot_of-slot.ensures in
    let counted = rw c.new.ensures at c.count-count.ensures in
    rw counted (record {
      table = slots_table c.args.queue.now c.requires.0;
      row_len = (ap length made ∙ slot_long _ c.requires.3, fits c.args.queue.now c.args.rec.now _ c.requires.0 c.requires.1 made);
    })

pub overflow_cast-queue : goal.overflow_cast-queue
overflow_cast-queue c =
    let counted = rw c.new.ensures at c.count-count.ensures in
    omega (
      arith,
      rw counted at c.store-left.ensures.value,
      rows_few c.args.queue.now c.args.rec.now _ c.requires.0 c.requires.1 c.slot_of-slot.ensures,
    )

pub returns : goal.returns
returns c =
    let counted = rw c.new.ensures at c.count-count.ensures in
    kept_is c.args.queue.now c.args.rec.now _ c.requires.0 c.requires.1
    c.slot_of-slot.ensures _ _ (rw counted at c.store-left.ensures.value) (rw counted at c.store-left.ensures.rows_value)
