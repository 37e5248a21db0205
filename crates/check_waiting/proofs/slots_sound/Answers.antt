-- `slots_sound`: each slot of the walk.
use Rattle.rows.proofs.Prelude.{◌∙◌, rules}
use Rattle.std.proofs.lemmas.Iterator.Search.{all_from_yields_List}
use Rattle.std.proofs.lemmas.Iterator.Consumers.{YieldsList-from_first}
use Rattle.rows.specs.Listed.{listed, left}
use Rattle.rows.proofs.Walk.{every_is}
use Rattle.rules_terminal.specs.Terminal.{slot_sound}
use Rattle.check_waiting.proofs.slots_sound.Goals as goal

pub returns : goal.returns
returns c =
    let slots = listed c.args.slots in
    let test = slot_sound (listed c.args.creds) in
    all_from_yields_List test c.all.new.self _ _ c.all.ensures.ran (YieldsList-from_first (λ r. r.now) left slots c.iter.ensures) (λ x b q k. search rules)
    ∙ every_is test slots
