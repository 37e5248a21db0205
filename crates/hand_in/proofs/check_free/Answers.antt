-- `check_free`: the record's own two bytes are the key of its sender's seat.
use Rattle.rows.proofs.Prelude.{ap, ◌∙◌, take, drop}
use Rattle.rows.specs.Rows.{has_key}
use Rattle.rows.specs.Promises.{index_of}
use Rattle.rules.specs.Checks.{refuse_if}
use Rattle.queue.specs.Viewed.{viewed}
use Rattle.hand_in.proofs.Laws.{free_is}
use Rattle.hand_in.proofs.check_free.Goals as goal

pub returns : goal.returns
returns c =
    let found = c.find.ensures ∙ ap (index_of (has_key 0 (take 2 (drop 2 c.args.rec.now)))) c.slots.ensures in
    c.refuse_if.ensures ∙ ap (refuse_if 26) (c.is_some.ensures ∙ free_is (viewed c.args.queue) c.args.rec.now _ c.requires (c.type_inv.rec 2).fits (c.type_inv.rec 3).fits found)
