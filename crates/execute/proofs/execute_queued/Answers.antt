-- `execute_queued`: an application record has no reply, and leaves the tables, and so the memory; any other may change both:
-- the memory by whether the tables are cleared and credential rows moved.
use Rattle.rows.proofs.Prelude.{refl, sym, ap, ◌∙◌, arith, length, not-true}
use Rattle.text.proofs.Buffers.{puts_none}
use Rattle.rows.specs.Rows.{without}
use Rattle.rules.specs.declared.Tables.{Tables}
use Rattle.rules.specs.Record.{Request, received, body}
use Rattle.rules.specs.Tables.{tables_of}
use Rattle.rules.specs.Defaults.{Defaults}
use Rattle.rules.specs.Outcome.{effect_by}
use Rattle.rules.specs.StoreRange.{store_range_of}
use Rattle.rules.specs.Promises.Supplied.{supplied}
use Rattle.rules_terminal.specs.Slots.{Round, waiting, queue_of}
use Rattle.rules_terminal.specs.Round.{seats, orphaned, valid_round}
use Rattle.rules_terminal.specs.Terminal.{is_reset}
use Rattle.execute.proofs.Laws.{serves, no_reply, gives, fills, links_as}
use Rattle.execute.proofs.QueueLaws.{left_as, served, cleared_queue, same_queue, moved_queue}
use Rattle.execute.proofs.execute_queued.Goals as goal

pub returns-then-not-resource : goal.returns-then-not-resource
returns-then-not-resource c =
    let t : Tables = tables_of c.args.h c.args.creds.now c.args.aces.now in
    let q : Request = received c.args.clock c.args.rec.now (length c.args.reply.now) in
    let lists : Defaults = supplied c.args.lists in
    let d = c.args.d in
    let p = c.requires.decided in
    let plain = not-true d.caller.header.resource.configuration c.if-not-resource.true in
    let serve = serves t q d p.1 p.2 plain in
    record {
      executes = record {
        says = gives t q d p.1 p.2 p.0 lists _ _ _ _ _ _ c.permitted.ensures
            (c.none.ensures ∙ sym (ap (store_range_of t (body q.bytes)) serve))
            (c.links_of-links.ensures ∙ links_as t q d p.1 p.2 p.0)
            (sym (ap (effect_by lists t q) serve));
        fills = fills t q d p.1 p.2 p.0 lists _ _ _ refl (sym (no_reply t q d p.1 p.2 plain)) (puts_none _ (omega arith));
      };
      leaves_queue = c.requires.whole_queue.1
          ∙ same_queue t q d p lists _ (sym (ap is_reset serve)) t (sym (served t q d p lists serve)) _ _ refl refl;
    }

pub returns-then-is_reset-clause-leaves_queue : goal.returns-then-is_reset-clause-leaves_queue
returns-then-is_reset-clause-leaves_queue c =
    let t : Tables = tables_of c.args.h c.args.creds.now c.args.aces.now in
    let q : Request = received c.args.clock c.args.rec.now (length c.args.reply.now) in
    c.clear.ensures
    ∙ cleared_queue t q c.args.d c.requires.decided (supplied c.args.lists) _ c.is_reset.ensures _ (left_as c.execute-j.ensures) _ _ c.if-is_reset.true

pub returns-then-ncreds-h-clause-leaves_queue : goal.returns-then-ncreds-h-clause-leaves_queue
returns-then-ncreds-h-clause-leaves_queue c =
    let t : Tables = tables_of c.args.h c.args.creds.now c.args.aces.now in
    let q : Request = received c.args.clock c.args.rec.now (length c.args.reply.now) in
    c.requires.whole_queue.1
    ∙ same_queue t q c.args.d c.requires.decided (supplied c.args.lists) _ c.is_reset.ensures _ (left_as c.execute-j.ensures) _ _
    c.if-is_reset.false c.if-ncreds-h.true

pub returns-clause-leaves_queue : goal.returns-clause-leaves_queue
unfolding seats
returns-clause-leaves_queue c =
    let t : Tables = tables_of c.args.h c.args.creds.now c.args.aces.now in
    let q : Request = received c.args.clock c.args.rec.now (length c.args.reply.now) in
    let left : Tables = tables_of c.execute-j.result.head c.execute-j.new.creds c.execute-j.new.aces in
    c.settle.ensures
    ∙ ap (λ (k : Round). queue_of (valid_round (seats left) k) (without (orphaned (seats left)) (waiting c.args.queue.now)))
    (sym c.round_valid-was_valid.ensures)
    ∙ moved_queue t q c.args.d c.requires.decided (supplied c.args.lists) _ c.is_reset.ensures left (left_as c.execute-j.ensures) _ _
    c.if-is_reset.false c.if-ncreds-h.false
