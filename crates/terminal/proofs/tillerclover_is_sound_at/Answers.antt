-- `tillerclover_is_sound_at`: by the test.
use Rattle.rows.proofs.Prelude.{refl, true, false}
use Rattle.rules_interface.proofs.Lent.{sound_at}
use Rattle.terminal.proofs.tillerclover_is_sound_at.Goals as goal

pub returns-then-terminal_sound : goal.returns-then-terminal_sound
returns-then-terminal_sound c = sound_at _ _ c.head_at-head.ensures _ true 1 c.terminal_sound.ensures c.if-terminal_sound.true refl

pub returns-else-terminal_sound : goal.returns-else-terminal_sound
returns-else-terminal_sound c = sound_at _ _ c.head_at-head.ensures _ false 0 c.terminal_sound.ensures c.if-terminal_sound.false refl
