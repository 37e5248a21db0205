-- Every input leaves arrays of the struct's lengths, on a sound terminal or not: what the types of the code give, of the definitions.
use Rattle.rows.proofs.Prelude.{◌≡◌, refl, ap, ◌∙◌, true, List, [], ◌∷◌, ℕ, ◌*◌, ◌≤◌, arith, length, eqb, eqb-true, not-false}
use Rattle.rows.proofs.Prelude.{length-append, length-take, length-drop, cond_cases, bool_cases}
use Rattle.rows.specs.Rows.{Row, packed, with_row}
use Rattle.rows.proofs.Kept.{every_long, length_packed}
use Rattle.rules.specs.declared.Tables.{Tables}
use Rattle.rules.specs.declared.Table.{Table}
use Rattle.rules.specs.declared.Table.TheVariants.{Creds, Aces}
use Rattle.rules.specs.declared.Action.{Action}
use Rattle.rules.specs.declared.Action.TheVariants.{Serve, Read, SetRowOwner, SetOwner, SetState, Store, Remove, Assert, Malformed}
use Rattle.rules.specs.Record.{Request, body, received}
use Rattle.rules.specs.Bodies.{nil}
use Rattle.rules.specs.Tables.{stride, storable, with_rows, sound, empty, table_size, SoundRows}
use Rattle.rules.specs.Defaults.{Defaults, fresh}
use Rattle.rules.specs.Keys.{goes}
use Rattle.rules.specs.Action.{action}
use Rattle.rules.specs.Checks.{checks, verdict}
use Rattle.rules.specs.Permission.{permission}
use Rattle.rules.specs.Outcome.{outcome, outcome_at, effect_by, entered, tables_after}
use Rattle.rules.proofs.Answers.{passed}
use Rattle.rules.proofs.CheckLaws.{check_cases}
use Rattle.rules.proofs.BodyLaws.{sized}
use Rattle.rules.proofs.SoundKept.{Passed, passed_all, default_sound, stored_sound, removed_sound, asserted_sound}
use Rattle.rules_terminal.specs.Slots.{queue_size}
use Rattle.rules_terminal.specs.Terminal.{Terminal, sound_terminal, hand_in_checks, handed_in, take_checks, due, taken, direct_checks, judged, fresh_terminal}
use Rattle.rules_terminal.specs.Inputs.{Input, hand_in, take_at, direct, next}
use Rattle.rules_terminal.proofs.SlotLaws.{queue_parts}
use Rattle.rules_terminal.proofs.Sound.{terminal_parts, sound_next, fresh_terminal_lem}
use Rattle.rules_terminal.proofs.Refused.{unsound_run}
use Rattle.rules_power.specs.Image.{SizedTables, SizedTerminal}

-- ---- tables

length_rows : (k : Table) (size : ℕ) (ws : List Row) → length ws * stride k ≤ size → SoundRows k ws → length (packed size ws) ≡ size
length_rows k size ws fits s = length_packed (stride k) size ws (every_long (stride k) (storable k) (sized k) ws s.stores) fits

rows_sized : (k : Table) (t : Tables) (ws : List Row) → SoundRows k ws → SizedTables t → SizedTables (with_rows k t ws)
rows_sized Creds t ws s l =
    record { devowner = l.devowner; rowners = l.rowners; creds = length_rows Creds (table_size Creds) ws (omega (arith, s.few)) s; aces = l.aces }
rows_sized Aces t ws s l =
    record { devowner = l.devowner; rowners = l.rowners; creds = l.creds; aces = length_rows Aces (table_size Aces) ws (omega (arith, s.few)) s }

empty_sized : SizedTables empty
unfolding empty nil
empty_sized = record { devowner = refl; rowners = refl; creds = refl; aces = refl }

fresh_tables_lem : (d : Defaults) → SizedTables (fresh d)
unfolding fresh
fresh_tables_lem d = rows_sized Aces _ _ (default_sound Aces d.aces) (rows_sized Creds _ _ (default_sound Creds d.creds) empty_sized)

length_owners : (n : ℕ) (owner owners : List ℕ) → n ≤ 3 → length owner ≡ 16 → length owners ≡ 64 → length (with_row 16 n owner owners) ≡ 64
unfolding with_row
length_owners n owner owners h r l = simp (length-append, length-take, length-drop) (omega arith)

effect_sized : (d : Defaults) (t : Tables) (q : Request) (a : Action) → sound t ≡ true → Passed t q a → SizedTables t
    → SizedTables (effect_by d t q a)
unfolding entered
effect_sized d t q Serve h x l = l
effect_sized d t q Read h x l = l
effect_sized d t q (SetRowOwner n) h x l =
    record { devowner = l.devowner; rowners = length_owners n _ _ x.valid.1 x.valid.0 l.rowners; creds = l.creds; aces = l.aces }
effect_sized d t q (SetOwner o) h x l =
    record { devowner = omega (arith, length-drop 1 (body q.bytes), x.valid.0); rowners = l.rowners; creds = l.creds; aces = l.aces }
effect_sized d t q (SetState n) h x l =
    cond_cases SizedTables (eqb n 0)
    (λ _. fresh_tables_lem d)
    (λ _. record { devowner = l.devowner; rowners = l.rowners; creds = l.creds; aces = l.aces })
effect_sized d t q (Store k) h x l = rows_sized k t _ (stored_sound k t q h x) l
effect_sized d t q (Remove k key) h x l = rows_sized k t _ (removed_sound k t (goes key (body q.bytes)) h) l
effect_sized d t q (Assert c) h x l = rows_sized Creds t _ (asserted_sound c t q h x) l
effect_sized d t q Malformed h x l = l

outcome_sized : (d : Defaults) (t : Tables) (q : Request) → SizedTables t → SizedTables (tables_after d t q)
unfolding outcome outcome_at
outcome_sized d t q l =
    let p = permission q.clock t q.bytes in
    check_cases (verdict (checks t p q))
    (λ e. rw (e, tables_after) (effect_sized d t q (action q.bytes) (not-false _ (passed (checks t p q) e 1)) (passed_all t p q e) l))
    (λ n e. rw (e, tables_after) l)

pub tables_sized : (d : Defaults) (x : Terminal) (i : Input) → SizedTables x.tables → SizedTables (next d x i).tables
unfolding handed_in taken judged
tables_sized d x (hand_in r) l = check_cases (verdict (hand_in_checks x r)) (λ e. rw (e, next) l) (λ n e. rw (e, next) l)
tables_sized d x (take_at clock fits) l =
    check_cases (verdict (take_checks x)) (λ e. rw (e, next) (outcome_sized d x.tables (received clock (due x) fits) l)) (λ n e. rw (e, next) l)
tables_sized d x (direct q) l =
    check_cases (verdict (direct_checks x)) (λ e. rw (e, next) (outcome_sized d x.tables q l)) (λ n e. rw (e, next) l)

-- ---- and memory

queue_long : (x : Terminal) → sound_terminal x ≡ true → length x.queue ≡ queue_size
queue_long x h = eqb-true (length x.queue) queue_size (queue_parts x.tables x.queue (terminal_parts x h).queue).long

queue_sized : (d : Defaults) (x : Terminal) (i : Input) → length x.queue ≡ queue_size → length (next d x i).queue ≡ queue_size
queue_sized d x i l =
    bool_cases (sound_terminal x)
    (λ h. queue_long (next d x i) (sound_next d x i h))
    (λ e. ap (λ (y : Terminal). length y.queue) (unsound_run d x (i ∷ []) e).1 ∙ l)

pub next_sized : (d : Defaults) (x : Terminal) (i : Input) → SizedTerminal x → SizedTerminal (next d x i)
next_sized d x i l = record { tables = tables_sized d x i l.tables; queue = queue_sized d x i l.queue }

pub fresh_sized : (d : Defaults) → SizedTerminal (fresh_terminal d)
unfolding fresh_terminal
fresh_sized d = record { tables = fresh_tables_lem d; queue = queue_long (fresh_terminal d) (fresh_terminal_lem d) }
