-- `tillerclover_hand_in_at`: what is reported of a hand_in, in words.
use Rattle.rules_interface.proofs.Lent.{hands_in_at}
use Rattle.terminal.proofs.tillerclover_hand_in_at.Goals as goal

pub returns : goal.returns
returns c =
    hands_in_at _ _ c.head_at-h.ensures _ _ _ _ c.hand_in-kept.ensures c.words_of.ensures
