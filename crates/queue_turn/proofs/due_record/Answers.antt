-- `due_record`: the slot's bytes are the record's, and its first two the seat's.
use Rattle.rows.proofs.Prelude.{ap, ◌∙◌, length}
use Rattle.rules.specs.Tables.{tables_of}
use Rattle.queue.proofs.Queues.{sound_queue_lem}
use Rattle.queue_turn.proofs.DueLaws.{slot_read, slot_whole_long, due_record_is}
use Rattle.queue_turn.proofs.due_record.Goals as goal

pub new-queue-requires : goal.new-queue-requires
new-queue-requires c =
    let queue = sound_queue_lem (tables_of c.args.tables.head c.args.tables.creds.now c.args.tables.aces.now) c.args.queue.now c.requires.0 in (queue.long, queue.few)

pub record_bytes-requires : goal.record_bytes-requires
record_bytes-requires c =
    let tables = tables_of c.args.tables.head c.args.tables.creds.now c.args.tables.aces.now in
    let m = c.args.queue.now in
    ap length (slot_read tables m c.requires.0 c.requires.1 _ c.new-queue.ensures _ c.slots.ensures _ c.cred_rows.ensures _ c.next_slot-due.ensures _ c.row_at-slot.ensures)
    ∙ slot_whole_long tables m c.requires.0 c.requires.1

pub returns : goal.returns
returns c =
    let tables = tables_of c.args.tables.head c.args.tables.creds.now c.args.tables.aces.now in
    let m = c.args.queue.now in
    due_record_is tables m c.requires.0 c.requires.1 _ _ _
    (slot_read tables m c.requires.0 c.requires.1 _ c.new-queue.ensures _ c.slots.ensures _ c.cred_rows.ensures _ c.next_slot-due.ensures _ c.row_at-slot.ensures)
    c.record_bytes.ensures c.record_in.ensures
