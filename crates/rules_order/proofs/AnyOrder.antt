-- Theorem, U14: terminals whose tables differ only in the order of their access rows answer every run the same, except for that order.
-- A run is of hand-ins, takes and records that are judged directly, mixed in any way,
-- each with its clock and its buffer's length. One claim over the whole list.
use Rattle.rows.proofs.Prelude.{◌≡◌, refl, sym, ap₂, ◌∙◌, Bool, true, List, [], ◌∷◌, ℕ, length}
use Rattle.rows.specs.Rows.{Row, packed, every}
use Rattle.rows.proofs.Laws.{kept}
use Rattle.rules.specs.declared.Tables.{Tables}
use Rattle.rules.specs.declared.Table.TheVariants.{Creds, Aces}
use Rattle.rules.specs.Tables.{storable, rows, with_rows, sound, table_size, SoundRows}
use Rattle.rules.specs.Defaults.{Defaults}
use Rattle.rules.specs.Run.{replies, final}
use Rattle.rules.proofs.Answers.{table_parts, rows_are, rows_count}
use Rattle.rules.proofs.TableLaws.{aces_are, table_is, few_rows, rows_with}
use Rattle.rules.proofs.SoundKept.{sound_with}
use Rattle.rules_terminal.specs.Slots.{waiting}
use Rattle.rules_terminal.specs.Round.{seats}
use Rattle.rules_terminal.specs.Terminal.{Terminal, terminal, slot_sound, queue_sound, sound_terminal}
use Rattle.rules_terminal.specs.Inputs.{Input, transition, next}
use Rattle.rules_terminal.proofs.Sound.{terminal_parts, terminal_whole, every_same}
use Rattle.rules_order.specs.Reorder.{Reordered, sorted}
use Rattle.rules_order.specs.Order.{InStep, with_access, SameAnswer, InPairs, none, more, StepInRelation}
use Rattle.rules_order.proofs.ReorderLaws.{order_length, order_every, order_distinct, order_sorted}
use Rattle.rules_order.proofs.OneRecord.{order_is}
use Rattle.rules_order.proofs.OneInput.{owners_next, input_step}
use Rattle.rules.specs.Sizes.{ace_row_size}

-- ---- two runs over the same inputs, with a relation between their states, and one between what is reported

module _ {State Input Output : Type 0} (reply : State → Input → Output) (next : State → Input → State)
    (R : State → State → Type 0) (S : Input → Output → Output → Type 0) where
  pub two_runs : StepInRelation reply next R S → (s b : State) (is : List Input) → R s b
      → InPairs S is (replies reply next s is) (replies reply next b is) × R (final next s is) (final next b is)
  two_runs step s b [] e = (none, e)
  two_runs step s b (i ∷ is) e =
      let h = step s b i e in
      let m = two_runs step (next s i) (next b i) is h.1 in
      (more h.0 m.0, m.1)

-- ---- a run

-- in step, and with row owners of the length that the struct's type gives
record Together (x y : Terminal) : Type 0 where
  step : InStep x y
  owners : length x.tables.rowners ≡ 64

together_step : (d : Defaults) → StepInRelation (transition d) (next d) Together SameAnswer
together_step d x y i s =
    let both = input_step d x y i s.step s.owners in
    (both.0, record { step = both.1; owners = owners_next d x i s.owners })

-- at each input the same record given out, the same answer, permission, payload, links and, except for the order, reply; places that differ for acl2 only;
-- at the end sound terminals in which the same waits and whose tables differ at most in the order
pub any_order :
    (d : Defaults) (x y : Terminal) (is : List Input)
    → InStep x y → length x.tables.rowners ≡ 64
    → InPairs SameAnswer is (replies (transition d) (next d) x is) (replies (transition d) (next d) y is)
    × InStep (final (next d) x is) (final (next d) y is)
any_order d x y is s l =
    let both = two_runs (transition d) (next d) Together SameAnswer (together_step d) x y is (record { step = s; owners = l }) in
    (both.0, both.1.step)

-- ---- what the relation says: nothing else differs, byte for byte

-- the second terminal is the first with the access rows of the second
pub order_whole : (x y : Terminal) → InStep x y → length y.tables.aces ≡ table_size Aces → y ≡ with_access x (rows Aces y.tables)
order_whole x y s l =
    let u = y.tables in
    let h = (terminal_parts y s.sound_right).tables in
    let stands : u.aces ≡ packed (table_size Aces) (rows Aces u) = kept ace_row_size u.naces u.aces (table_is Aces u h l) ∙ ap₂ packed l (sym (rows_are Aces u h)) in
    ap₂ terminal
    (order_is x.tables u s.tables
    ∙ aces_are x.tables (rows Aces u) x.tables.naces (table_size Aces) u.aces (s.tables.counted ∙ sym (rows_count Aces u h)) stands refl)
    (sym s.queue)

-- ---- the office's question: a sound terminal whose access rows are put in any order is sound, and in step with it

reordered_rows : (t : Tables) (ws : List Row) → sound t ≡ true → Reordered (rows Aces t) ws → SoundRows Aces ws
reordered_rows t ws h o =
    let p = table_parts Aces t h in
    record {
      few = rw (← order_length o) (few_rows Aces t h);
      stores = sym (order_every (storable Aces) o) ∙ p.stores;
      distinct = sym (order_distinct o) ∙ p.distinct;
    }

-- the queue is sound with any tables with the same seats
beside : (t u : Tables) (m : List ℕ) → seats u ≡ seats t → every (slot_sound (rows Creds t)) (waiting m) ≡ true → queue_sound (rows Creds t) m ≡ true → queue_sound (rows Creds u) m ≡ true
unfolding queue_sound
beside t u m e keeps h = rw (every_same t u (waiting m) e keeps) (rw keeps at h)

pub reordered_in_step : (x : Terminal) (ws : List Row) → sound_terminal x ≡ true → Reordered (rows Aces x.tables) ws → InStep x (with_access x ws)
unfolding seats
reordered_in_step x ws h o =
    let s = terminal_parts x h in
    let t = x.tables in
    let r = reordered_rows t ws s.tables o in
    record {
      sound_left = h;
      sound_right = terminal_whole (with_access x ws) (sound_with Aces t ws s.tables r)
          (beside t (with_rows Aces t ws) x.queue refl s.keeps s.queue);
      queue = refl;
      tables = record {
        others = refl;
        counted = sym (rows_count Aces t s.tables) ∙ order_length o;
        order = rw (rows_with Aces t ws r.few r.stores) o;
      };
    }

-- sorted by any test of two rows
pub sorted_in_step : (before : Row → Row → Bool) (x : Terminal) → sound_terminal x ≡ true → InStep x (with_access x (sorted before (rows Aces x.tables)))
sorted_in_step before x h = reordered_in_step x (sorted before (rows Aces x.tables)) h (order_sorted before (rows Aces x.tables))
