-- `access_list`: tables that are not sound, a buffer that is too short, and the text.
use Rattle.rows.proofs.Prelude.{sym, ◌∙◌}
use Rattle.office_list.proofs.Ends.{not_sound, too_short, all_written}
use Rattle.office_list.proofs.access_list.Goals as goal

pub returns-then-not-terminal_sound : goal.returns-then-not-terminal_sound
returns-then-not-terminal_sound c = not_sound _ _ (sym c.terminal_sound.ensures ∙ c.if-not-terminal_sound.true)

pub returns-then-is_too_short : goal.returns-then-is_too_short
returns-then-is_too_short c =
    too_short _ _ (sym c.terminal_sound.ensures ∙ c.if-not-terminal_sound.false) (sym c.is_too_short.ensures ∙ c.if-is_too_short.true)

pub returns : goal.returns
returns c =
    all_written _ _ _ (sym c.terminal_sound.ensures ∙ c.if-not-terminal_sound.false)
    (sym c.is_too_short.ensures ∙ c.if-is_too_short.false) c.put_list.ensures
