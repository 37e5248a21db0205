-- `take`: nothing taken, or the record that is due, its seat emptied, and judged.
use Rattle.rows.proofs.Prelude.{◌≡◌, refl, true, false, length, eqb}
use Rattle.rules.specs.Record.{Request}
use Rattle.rules.specs.Tables.{tables_of}
use Rattle.rules.specs.Promises.Supplied.{supplied}
use Rattle.rules_terminal.specs.Slots.{waiting}
use Rattle.rules_terminal.specs.Terminal.{Terminal, terminal, sound_terminal}
use Rattle.rules_terminal.proofs.Sound.{terminal_parts}
use Rattle.take.proofs.Laws.{seat_is, can_leave, emptied, left_whole, left_after, ready, nothing_taken, handed, one_taken}
use Rattle.take.proofs.take.Goals as goal

pub returns-in_default : goal.returns-in_default
returns-in_default c =
    let a = c.args in
    nothing_taken (supplied a.lists) a.h a.creds.now a.aces.now a.queue.now a.clock (length a.reply.now) _ c.check_take-c.ensures _ c.in_default.is _
    c.number_alone.ensures _ refl _

pub due_record-due-requires : goal.due_record-due-requires
due_record-due-requires c =
    let a = c.args in
    let x : Terminal = terminal (tables_of a.h a.creds.now a.aces.now) a.queue.now in
    ready (supplied a.lists) x.tables x.queue a.clock (length a.reply.now) _ c.check_take-c.ensures c.in-Pass.is

pub dequeue-requires : goal.dequeue-requires
dequeue-requires c =
    let a = c.args in
    let x : Terminal = terminal (tables_of a.h a.creds.now a.aces.now) a.queue.now in
    let can : (sound_terminal x ≡ true) × (eqb (length (waiting x.queue)) 0 ≡ false) =
    ready (supplied a.lists) x.tables x.queue a.clock (length a.reply.now) _ c.check_take-c.ensures c.in-Pass.is in
    can_leave x.tables x.queue can.0 can.1 _ (seat_is x _ c.due_record-due.ensures)

pub judge_sound-requires : goal.judge_sound-requires
judge_sound-requires c =
    let a = c.args in
    let x : Terminal = terminal (tables_of a.h a.creds.now a.aces.now) a.queue.now in
    let can : (sound_terminal x ≡ true) × (eqb (length (waiting x.queue)) 0 ≡ false) =
    ready (supplied a.lists) x.tables x.queue a.clock (length a.reply.now) _ c.check_take-c.ensures c.in-Pass.is in
    record {
      sound_tables = (terminal_parts x can.0).tables;
      whole_queue = left_whole x.tables x.queue can.0 can.1 _ (emptied x _ c.due_record-due.ensures _ c.dequeue.ensures);
    }

pub returns : goal.returns
returns c =
    let a = c.args in
    let x : Terminal = terminal (tables_of a.h a.creds.now a.aces.now) a.queue.now in
    let told = c.check_take-c.ensures in
    let pass = c.in-Pass.is in
    let due = c.due_record-due.ensures in
    let q : Request = handed (supplied a.lists) x.tables x.queue a.clock (length a.reply.now) _ told pass _ due _ c.part-rec.ensures in
    let can : (sound_terminal x ≡ true) × (eqb (length (waiting x.queue)) 0 ≡ false) =
    ready (supplied a.lists) x.tables x.queue a.clock (length a.reply.now) _ told pass in
    let done = c.judge_sound.ensures in
    one_taken (supplied a.lists) x.tables x.queue a.clock (length a.reply.now) _ told pass _ due _ c.part-rec.ensures _ _ _ _
    done.executes.says done.executes.fills
    (left_after x.tables x.queue can.0 can.1 _ (emptied x _ due _ c.dequeue.ensures) (supplied a.lists) q _ done.leaves_queue)
