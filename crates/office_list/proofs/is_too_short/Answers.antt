-- `is_too_short`: no text is longer than all of them; else the length that was measured is the text's.
use Rattle.rows.proofs.Prelude.{sym, arith, le-ltb}
use Rattle.rules_office.proofs.Bounds.{rows_text_short}
use Rattle.office_list.proofs.is_too_short.Goals as goal

pub returns-then-capacity-ge-TEXT_MAX : goal.returns-then-capacity-ge-TEXT_MAX
returns-then-capacity-ge-TEXT_MAX c =
    sym (le-ltb c.args.capacity _ (omega (arith, c.if-capacity-ge-TEXT_MAX.true, rows_text_short c.args.naces c.args.aces.now)))
