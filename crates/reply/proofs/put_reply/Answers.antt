-- `put_reply`: nothing, or the contents of the resource.
use Rattle.rows.proofs.Prelude.{sym, ◌∙◌}
use Rattle.rules.specs.Reading.{reply_to}
use Rattle.reply.proofs.put_reply.Goals as goal

pub returns-then-not-is_read : goal.returns-then-not-is_read
unfolding reply_to
returns-then-not-is_read c =
    rw (sym c.is_read.ensures ∙ c.if-not-is_read.true) c.put.ensures

pub returns : goal.returns
unfolding reply_to
returns c =
    rw (sym c.is_read.ensures ∙ c.if-not-is_read.false) c.put_contents.ensures
