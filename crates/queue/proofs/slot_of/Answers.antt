-- `slot_of`: the head, then the record over zeros.
use Rattle.queue.proofs.Laws.{slot_is}
use Rattle.queue.proofs.slot_of.Goals as goal

pub returns : goal.returns
returns c =
    slot_is c.args.rec.now c.to_be_bytes.result _ _ (c.type_inv.rec 2).fits (c.type_inv.rec 3).fits
    c.requires.1 c.to_be_bytes.ensures c.copy_bytes.ensures c.copy_bytes-2.ensures
