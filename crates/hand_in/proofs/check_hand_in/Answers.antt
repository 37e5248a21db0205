-- `check_hand_in`: the groups in their order.
use Rattle.rows.proofs.Prelude.{sym, ◌∙◌, not-false}
use Rattle.rules.specs.declared.Tables.{Tables}
use Rattle.rules.specs.Tables.{rows, tables_of}
use Rattle.rules.specs.Promises.Groups.{sender_checks}
use Rattle.rules.proofs.Answers.{passed, long_enough}
use Rattle.rules.proofs.CheckLaws.{stop, skip, last, stop_all, skip_all, not_applied}
use Rattle.queue.proofs.Queues.{sound_queue_lem}
use Rattle.hand_in.proofs.check_hand_in.Goals as goal
use Rattle.rules.specs.declared.Table.TheVariants.{Creds}

pub returns-in_default-c : goal.returns-in_default-c
returns-in_default-c c =
    let tables : Tables = tables_of c.args.tables.head c.args.tables.creds.now c.args.tables.aces.now in
    skip _ _ _ c.check_terminal-c.ensures c.in-Pass.is
    (stop_all (sender_checks (rows Creds tables) c.args.rec.now) _ _ c.check_record-c.ensures c.in_default-c.is)

pub new-requires : goal.new-requires
new-requires c =
    let tables : Tables = tables_of c.args.tables.head c.args.tables.creds.now c.args.tables.aces.now in
    let q = sound_queue_lem tables c.args.queue.now (not-false _ (not_applied _ _ c.check_terminal-c.ensures c.in-Pass.is)) in (q.long, q.few)

pub check_free-requires : goal.check_free-requires
check_free-requires c =
    let tables : Tables = tables_of c.args.tables.head c.args.tables.creds.now c.args.tables.aces.now in
    long_enough c.args.rec.now
    (passed (sender_checks (rows Creds tables) c.args.rec.now) (sym c.check_record-c.ensures ∙ c.in-Pass-c.is) 2)

pub returns : goal.returns
returns c =
    let tables : Tables = tables_of c.args.tables.head c.args.tables.creds.now c.args.tables.aces.now in
    skip _ _ _ c.check_terminal-c.ensures c.in-Pass.is
    (skip_all (sender_checks (rows Creds tables) c.args.rec.now) _
    c.check_record-c.ensures c.in-Pass-c.is (last _ _ (rw c.new.ensures at c.check_free.ensures)))

pub returns-in_default : goal.returns-in_default
returns-in_default c = stop _ _ _ _ c.check_terminal-c.ensures c.in_default.is
