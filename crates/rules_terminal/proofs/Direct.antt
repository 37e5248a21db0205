-- Lists of records that are judged directly, with memory that is sound wherever the tables are.
-- Such a record gets the outcome of the rules over the tables, 1 included; so fresh memory changes nothing for a run without hand-ins.
use Rattle.rows.proofs.Prelude.{◌≡◌, refl, false, List, [], ◌∷◌, bool_cases, contradiction}
use Rattle.rules.specs.declared.Tables.{Tables}
use Rattle.rules.specs.Record.{Request}
use Rattle.rules.specs.Tables.{sound}
use Rattle.rules.specs.Defaults.{Defaults}
use Rattle.rules.specs.Checks.{verdict}
use Rattle.rules.specs.Outcome.{Response, response_to, tables_after}
use Rattle.rules.specs.Run.{replies, final}
use Rattle.rules.proofs.Refusals.{unsound_refused}
use Rattle.rules_terminal.specs.Slots.{empty_queue}
use Rattle.rules_terminal.specs.Terminal.{Terminal, terminal, number_transition, sound_terminal, judged}
use Rattle.rules_terminal.specs.Inputs.{direct}
use Rattle.rules_terminal.specs.Direct.{AsOutcome, Whole}
use Rattle.rules_terminal.proofs.Sound.{terminal_whole, fresh_queue, sound_next}
use Rattle.rules_terminal.proofs.Stays.{judged_is}

-- fresh memory is, with any tables
pub fresh_whole : (t : Tables) → Whole (terminal t empty_queue)
fresh_whole t h = terminal_whole (terminal t empty_queue) h (fresh_queue t h)

judged_unsound : (d : Defaults) (x : Terminal) (q : Request) → sound_terminal x ≡ false → judged d x q ≡ number_transition 1 x
unfolding judged verdict
judged_unsound d x q e = rw e

pub as_outcome : (d : Defaults) (x : Terminal) (q : Request) → Whole x → AsOutcome d x q
as_outcome d x q w =
    bool_cases (sound_terminal x)
    (λ h. let j = judged_is d x q h in record { response = rw j; tables = rw j; whole = λ _. sound_next d x (direct q) h })
    (λ e.
    let u : sound x.tables ≡ false = bool_cases (sound x.tables) (λ s. contradiction (w s) e) (λ f. f) in
    let o = unsound_refused d x.tables q u in
    let j = judged_unsound d x q e in
    record { response = rw (j, o, response_to); tables = rw (j, o, tables_after); whole = rw j w })

-- what a list of them gets, and the tables at the end
abbrev pub direct_replies : Defaults → Terminal → List Request → List Response
direct_replies d = replies (λ x q. (judged d x q).response) (λ x q. (judged d x q).terminal)

abbrev pub direct_end : Defaults → Terminal → List Request → Terminal
direct_end d = final (λ x q. (judged d x q).terminal)

pub directs_same : (d : Defaults) (x : Terminal) (qs : List Request) → Whole x
    → (direct_replies d x qs ≡ replies (response_to d) (tables_after d) x.tables qs) × ((direct_end d x qs).tables ≡ final (tables_after d) x.tables qs)
directs_same d x [] w = (refl, refl)
directs_same d x (q ∷ qs) w =
    let a = as_outcome d x q w in
    let more = directs_same d (judged d x q).terminal qs a.whole in
    (rw (a.response, more.0, a.tables), rw (more.1, a.tables))
