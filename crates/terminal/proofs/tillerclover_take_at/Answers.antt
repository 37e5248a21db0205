-- `tillerclover_take_at`: what is taken, in the caller's bytes.
use Rattle.rows.proofs.Prelude.{refl}
use Rattle.rules_interface.proofs.Lent.{takes_at}
use Rattle.terminal.proofs.tillerclover_take_at.Goals as goal

pub returns : goal.returns
returns c =
    takes_at _ _ c.head_at-h.ensures _ _ _ c.take-u.result _ _ _ _ _ _ c.take-u.ensures c.words_of.ensures refl refl
    (record { counts = c.put_head.ensures.counts_value; devowner = c.put_head.ensures.devowner_value; rowners = c.put_head.ensures.rowners_value })
