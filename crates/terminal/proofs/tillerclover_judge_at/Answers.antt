-- `tillerclover_judge_at`: what is judged, in the caller's bytes.
use Rattle.rules_interface.proofs.Lent.{judges_at}
use Rattle.terminal.proofs.tillerclover_judge_at.Goals as goal

pub returns : goal.returns
returns c =
    judges_at _ _ c.head_at-h.ensures _ _ _ _ _ _ _ c.judge-j.ensures c.words_of.ensures
    (record { counts = c.put_head.ensures.counts_value; devowner = c.put_head.ensures.devowner_value; rowners = c.put_head.ensures.rowners_value })
