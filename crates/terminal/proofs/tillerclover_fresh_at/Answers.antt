-- `tillerclover_fresh_at`: rows, head and the queue, one after the other.
use Rattle.rules_interface.proofs.Lent.{fresh_at}
use Rattle.terminal.proofs.tillerclover_fresh_at.Goals as goal

pub returns : goal.returns
returns c =
    fresh_at _ _ _ (record { counts = c.put_head.ensures.counts_value; devowner = c.put_head.ensures.devowner_value; rowners = c.put_head.ensures.rowners_value })
    c.fresh_in-h.ensures c.clear.ensures
