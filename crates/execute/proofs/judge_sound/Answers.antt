-- `judge_sound`: a record that the decision turns away leaves all as it was.
use Rattle.rows.proofs.Prelude.{◌∙◌, length}
use Rattle.rules.specs.declared.Tables.{Tables}
use Rattle.rules.specs.Record.{Request, received}
use Rattle.rules.specs.Tables.{tables_of}
use Rattle.rules.specs.Promises.Supplied.{supplied}
use Rattle.execute.proofs.TurnedAway.{turned_buffer, turned_queue, turned_result}
use Rattle.execute.proofs.judge_sound.Goals as goal

pub returns-in_default : goal.returns-in_default
returns-in_default c =
    let a = c.args in
    let t : Tables = tables_of a.h a.creds.now a.aces.now in
    let q : Request = received a.clock a.rec.now (length a.reply.now) in
    let sound = c.requires.sound_tables in
    let refused = c.in_default.is in
    record {
      executes = record {
        says = turned_result (supplied a.lists) a.h a.creds.now a.aces.now q sound _ c.decide-d.ensures _ refused _ c.number_alone.ensures;
        fills = turned_buffer (supplied a.lists) t q sound _ c.decide-d.ensures _ refused _;
      };
      leaves_queue = c.requires.whole_queue.1 ∙ turned_queue (supplied a.lists) t q sound _ c.decide-d.ensures _ refused _ _;
    }
