-- `hand_in`: refused, or kept.
use Rattle.rows.proofs.Prelude.{refl, sym, ap, ◌∙◌}
use Rattle.rules.specs.declared.Tables.{Tables}
use Rattle.rules.specs.declared.Check.{Check}
use Rattle.rules.specs.Tables.{tables_of}
use Rattle.rules.specs.Checks.{number_of}
use Rattle.rules.specs.Promises.Results.{number_judgement}
use Rattle.hand_in.proofs.Laws.{can_keep, transition}
use Rattle.hand_in.proofs.hand_in.Goals as goal

pub returns-in_default : goal.returns-in_default
returns-in_default c =
    transition c.args.tables.head c.args.tables.creds.now c.args.tables.aces.now c.args.queue.now c.args.rec.now
    _ _ c.check_hand_in-c.ensures c.in_default.is _ _ c.number_alone.ensures refl refl

pub enqueue-requires : goal.enqueue-requires
enqueue-requires c =
    let tables : Tables = tables_of c.args.tables.head c.args.tables.creds.now c.args.tables.aces.now in
    can_keep tables c.args.queue.now c.args.rec.now (sym c.check_hand_in-c.ensures ∙ c.in-Pass.is)

pub returns : goal.returns
returns c =
    transition c.args.tables.head c.args.tables.creds.now c.args.tables.aces.now c.args.queue.now c.args.rec.now
    _ _ c.check_hand_in-c.ensures c.in-Pass.is _ _
    (c.number_alone-2.ensures ∙ ap (λ (v : Check). number_judgement c.args.tables.head (number_of v)) (sym c.in-Pass.is)) c.enqueue.ensures refl
