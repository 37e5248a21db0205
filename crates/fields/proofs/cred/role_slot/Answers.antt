-- `cred::role_place`: the row of that number in the table after the body.
use Rattle.rows.proofs.Prelude.{◌∙◌, ◌*◌, drop, drop-drop}
use Rattle.rows.proofs.Laws.{row_is}
use Rattle.rules.specs.Sizes.{cred_body_size, role_slot_size, role_slots}
use Rattle.fields.proofs.cred.role_slot.Goals as goal

pub returns : goal.returns
returns c =
    let i = c.args.i in
    let w = c.args.row.now in
    c.part.ensures ∙ rw (row_is role_slot_size role_slots i (drop cred_body_size w) c.requires, drop-drop (i * role_slot_size) cred_body_size w)
