-- `judge`: refused with 1, or judged with a sound terminal.
use Rattle.rows.proofs.Prelude.{◌≡◌, true, length}
use Rattle.rules.specs.declared.Tables.{Tables}
use Rattle.rules.specs.Record.{Request, received}
use Rattle.rules.specs.Tables.{tables_of}
use Rattle.rules.specs.Promises.Supplied.{supplied}
use Rattle.rules_terminal.specs.Terminal.{terminal, sound_terminal}
use Rattle.rules_terminal.proofs.Sound.{terminal_parts}
use Rattle.queue.proofs.Queues.{sound_queue_lem}
use Rattle.judge.proofs.Laws.{sound_here, judged_so, stays, refused_1}
use Rattle.judge.proofs.judge.Goals as goal

pub returns-in_default : goal.returns-in_default
returns-in_default c =
    let a = c.args in
    let q : Request = received a.clock a.rec.now (length a.reply.now) in
    refused_1 (supplied a.lists) a.h a.creds.now a.aces.now a.queue.now q _ c.check_terminal-c.ensures _ c.in_default.is _ _ c.number_alone.ensures

pub judge_sound-requires : goal.judge_sound-requires
judge_sound-requires c =
    let a = c.args in
    let t : Tables = tables_of a.h a.creds.now a.aces.now in
    let q : Request = received a.clock a.rec.now (length a.reply.now) in
    let told = c.check_terminal-c.ensures in
    let pass = c.in-Pass.is in
    let here : sound_terminal (terminal t a.queue.now) ≡ true = sound_here (supplied a.lists) t a.queue.now q _ told pass in
    record {
      sound_tables = (terminal_parts (terminal t a.queue.now) here).tables;
      whole_queue = (sound_queue_lem t a.queue.now here, stays (supplied a.lists) t a.queue.now q _ told pass);
    }

pub returns : goal.returns
returns c =
    let a = c.args in
    let t : Tables = tables_of a.h a.creds.now a.aces.now in
    let q : Request = received a.clock a.rec.now (length a.reply.now) in
    let done = c.judge_sound.ensures in
    judged_so (supplied a.lists) t a.queue.now q _ c.check_terminal-c.ensures c.in-Pass.is _ _ _ _ done.executes.says done.executes.fills done.leaves_queue
