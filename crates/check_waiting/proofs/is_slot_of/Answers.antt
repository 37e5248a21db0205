-- `is_slot_of`: the head and the zeros.
use Rattle.check_waiting.proofs.Laws.{tested_slot}
use Rattle.check_waiting.proofs.is_slot_of.Goals as goal

pub returns : goal.returns
returns c =
    tested_slot c.args.slot.now c.args.rec.now _ c.requires (c.type_inv.rec 2).fits (c.type_inv.rec 3).fits c.to_be_bytes-size.ensures
    _ _ _ c.eq.ensures c.eq-2.ensures c.zeros_from.ensures
