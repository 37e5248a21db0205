-- `slot_sound`: by its length and the checks of its record, then by the slot's other bytes.
use Rattle.check_waiting.proofs.Laws.{other_length, bad_record, fits, kept_is}
use Rattle.check_waiting.proofs.slot_sound.Goals as goal

pub returns-then-slot-ne-SLOT : goal.returns-then-slot-ne-SLOT
returns-then-slot-ne-SLOT c = other_length _ _ c.if-slot-ne-SLOT.true

pub is_slot_of-requires : goal.is_slot_of-requires
is_slot_of-requires c =
    let f = fits _ _ _ c.record_in-rec.ensures _ c.check_kept.ensures c.in-Pass.is in
    (c.if-slot-ne-SLOT.false, f.0, f.1, f.2)

pub returns : goal.returns
returns c =
    kept_is _ _ _ c.record_in-rec.ensures _ c.check_kept.ensures c.in-Pass.is _ c.is_slot_of.ensures

pub returns-in_default : goal.returns-in_default
returns-in_default c = bad_record _ _ _ c.record_in-rec.ensures _ c.check_kept.ensures _ c.in_default.is
