-- Theorem: of a run of hand-ins, takes and records judged at once, in a terminal of any content, each gives what the typed rules give, written,
-- and the terminal at the end is read as the typed one.
use Rattle.rows.proofs.Prelude.{◌≡◌, refl, sym, ap, ap₂, ◌∙◌, true, false, List, [], ◌∷◌, map, bool_cases, contradiction}
use Rattle.rules.specs.Defaults.{Defaults}
use Rattle.rules.specs.Run.{replies, final}
use Rattle.rules_typed.specs.Lists.{Maybe, none, just, is_none, when}
use Rattle.rules_typed.specs.Types.{Tables}
use Rattle.rules_typed.specs.Tables.{is_bytes}
use Rattle.rules_typed.specs.Struct.{IsStruct, DefaultBytes}
use Rattle.rules_typed.specs.Reading.{read_fresh}
use Rattle.rules_terminal.specs.Terminal.{Terminal as ByteTerminal, Transition as ByteTransition, sound_terminal}
use Rattle.rules_terminal.specs.Inputs.{Input as ByteInput, hand_in, take_at, direct, transition, next}
use Rattle.rules_terminal.proofs.Sound.{sound_next}
use Rattle.rules_terminal.proofs.Refused.{unsound_run}
use Rattle.rules_queue.specs.Queue.{Terminal, Transition, step, stepped}
use Rattle.rules_queue.specs.QueueBytes.{terminal_as, terminal_or, written_transition, read_terminal, read_input, IsInput, InputBytes, Follows}
use Rattle.rules_queue.proofs.QueueExact.{read_terminal_lem}
use Rattle.rules_queue.proofs.Transitions.{hand_in_follows, taken_follows, judged_follows}

-- a terminal that is there is written alike, whatever it is written over
written_over : (x y : ByteTerminal) (a : Transition) (z : Terminal) → a.terminal ≡ just z → written_transition x a ≡ written_transition y a
written_over x y a z e =
    let same : terminal_or x a.terminal ≡ terminal_or y a.terminal = rw e in
    ap (λ (v : ByteTerminal). record { bytes = (written_transition x a).bytes; response = (written_transition x a).response; terminal = v }) same

module _ (d : Defaults) (e : DefaultBytes d) where
  abbrev first : Tables
  first = read_fresh d

  pub step_follows : (x : ByteTerminal) → IsStruct x.tables → is_bytes x.queue ≡ true → (i : ByteInput) → IsInput i
      → Follows x (transition d x i) (step first (read_terminal x) (read_input i))
  step_follows x s q (hand_in r) h = hand_in_follows x s q r h 0 0
  step_follows x s q (take_at clock capacity) h = taken_follows x s q d e clock capacity
  step_follows x s q (direct r) h = judged_follows x s q d e r h

  module _ (start : ByteTerminal) where
    -- bytes that are no terminal are those at the start
    abbrev Unread : ByteTerminal → Type 0
    Unread x = read_terminal x ≡ none → x ≡ start

    there : (x : ByteTerminal) → IsStruct x.tables → is_bytes x.queue ≡ true → sound_terminal x ≡ true → read_terminal x ≡ just (terminal_as x)
    unfolding when
    there x s q h = rw (read_terminal_lem x s q, h)

    gone : (x : ByteTerminal) → IsStruct x.tables → is_bytes x.queue ≡ true → sound_terminal x ≡ false → read_terminal x ≡ none
    unfolding when
    gone x s q h = rw (read_terminal_lem x s q, h)

    step_written : (x : ByteTerminal) → IsStruct x.tables → is_bytes x.queue ≡ true → Unread x → (i : ByteInput) → IsInput i
        → (transition d x i ≡ written_transition start (step first (read_terminal x) (read_input i))) × Unread (next d x i)
    step_written x s q u i h =
        let f = step_follows x s q i h in
        bool_cases (sound_terminal x)
        (λ k. let r = there (next d x i) f.struct f.bytes (sound_next d x i k) in (
          f.is_written ∙ written_over x start (step first (read_terminal x) (read_input i)) (terminal_as (next d x i)) (sym f.is_read ∙ r),
          λ n. contradiction (ap is_none n) (ap is_none r),
        ))
        (λ k. let same : x ≡ start = u (gone x s q k) in (
          f.is_written ∙ ap (λ (y : ByteTerminal). written_transition y (step first (read_terminal x) (read_input i))) same,
          λ _. (unsound_run d x (i ∷ []) k).1 ∙ same,
        ))

    steps_from : (x : ByteTerminal) → IsStruct x.tables → is_bytes x.queue ≡ true → Unread x → (is : List ByteInput) → InputBytes is
        → (replies (transition d) (next d) x is ≡ map (written_transition start) (replies (step first) (stepped first) (read_terminal x) (map read_input is)))
        × (read_terminal (final (next d) x is) ≡ final (stepped first) (read_terminal x) (map read_input is))
    steps_from x s q u [] h = (refl, refl)
    steps_from x s q u (i ∷ is) h =
        let f = step_follows x s q i h.0 in
        let w = step_written x s q u i h.0 in
        let more = steps_from (next d x i) f.struct f.bytes w.1 is h.1 in
        let left : read_terminal (next d x i) ≡ stepped first (read_terminal x) (read_input i) = f.is_read in (
          ap₂ (λ (a : ByteTransition) (b : List ByteTransition). a ∷ b) w.0
              (more.0 ∙ ap (λ (y : Maybe Terminal). map (written_transition start) (replies (step first) (stepped first) y (map read_input is))) left),
          more.1 ∙ ap (λ (y : Maybe Terminal). final (stepped first) y (map read_input is)) left,
        )

  -- from any terminal of bytes
  pub steps_written : (x : ByteTerminal) → IsStruct x.tables → is_bytes x.queue ≡ true → (is : List ByteInput) → InputBytes is
      → replies (transition d) (next d) x is ≡ map (written_transition x) (replies (step first) (stepped first) (read_terminal x) (map read_input is))
  steps_written x s q is h = (steps_from x x s q (λ _. refl) is h).0

  pub steps_read : (x : ByteTerminal) → IsStruct x.tables → is_bytes x.queue ≡ true → (is : List ByteInput) → InputBytes is
      → read_terminal (final (next d) x is) ≡ final (stepped first) (read_terminal x) (map read_input is)
  steps_read x s q is h = (steps_from x x s q (λ _. refl) is h).1
