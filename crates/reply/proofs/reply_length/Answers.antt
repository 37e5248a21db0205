-- `reply_length`: the position after the reply, which no buffer's end holds up.
use Rattle.rows.proofs.Prelude.{◌≡◌, arith, length, rules}
use Rattle.rules.specs.Promises.Words.{seen}
use Rattle.rules.specs.Promises.Callers.{caller_row}
use Rattle.reply.proofs.Short.{reply_short}
use Rattle.reply.proofs.reply_length.Goals as goal

pub returns : goal.returns
returns c =
    let owner_long : length c.args.tables.head.devowner ≡ 16 = search rules in
    let t = seen c.args.tables in
    omega (arith, c.put_reply.ensures.next, reply_short c.args.clock t (caller_row t c.args.caller) c.args.caller.header owner_long)
