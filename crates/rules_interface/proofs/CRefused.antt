-- Theorems of C calls: a refusal says its number and zeros, and changes no byte of the tables, of the queue and of the buffer.
-- A take that refuses its record empties its place and moves the round, and changes nothing else.
use Rattle.rows.proofs.Prelude.{◌≡◌, refl, sym, ap, ◌∙◌, true, false, ◌||◌, eqb, List, [], ◌∷◌, ℕ, suc, arith, length, get_or, replicate}
use Rattle.rows.specs.Rows.{has_key, without}
use Rattle.rules.specs.Record.{Request}
use Rattle.rules.specs.Defaults.{Defaults}
use Rattle.rules.specs.Reading.{filled}
use Rattle.rules_terminal.specs.Terminal.{Transition, terminal, sound_terminal, turn, due}
use Rattle.rules_terminal.specs.Slots.{after_seat, padded, waiting, queue_of}
use Rattle.rules_terminal.specs.Inputs.{hand_in, take_at, direct}
use Rattle.rules_terminal.proofs.Refused.{take_nothing, refused_take, refused_direct, refused_hand_in}
use Rattle.rules_interface.specs.Memory.{Memory, terminal_at, memory_of, with_queue}
use Rattle.rules_interface.specs.Interface.{offset_of, words_of, number_words}
use Rattle.rules_interface.specs.Calls.{CCall, Promised}

-- four bytes, read and written
four : (l : List ℕ) → length l ≡ 4 → get_or l 0 0 ∷ get_or l 1 0 ∷ get_or l 2 0 ∷ get_or l 3 0 ∷ [] ≡ l
four [] e = absurd (omega (arith, e))
four (a ∷ []) e = absurd (omega (arith, e))
four (a ∷ b ∷ []) e = absurd (omega (arith, e))
four (a ∷ b ∷ c ∷ []) e = absurd (omega (arith, e))
four (a ∷ b ∷ c ∷ d ∷ []) e = refl
four (a ∷ b ∷ c ∷ d ∷ f ∷ l) e = absurd (omega (arith, e))

-- memory, read as a terminal and written, is the same bytes
pub memory_back : (m : Memory) → length m.counts ≡ 4 → memory_of (terminal_at m) ≡ m
memory_back m e =
    ap (λ (b : List ℕ). record { counts = b; devowner = m.devowner; rowners = m.rowners; creds = m.creds; aces = m.aces; queue = m.queue })
    (four m.counts e)

-- the same with another queue
queue_back : (m : Memory) (queue : List ℕ) → length m.counts ≡ 4 → memory_of (terminal (terminal_at m).tables queue) ≡ with_queue m queue
queue_back m queue e =
    ap (λ (b : List ℕ). record { counts = b; devowner = m.devowner; rowners = m.rowners; creds = m.creds; aces = m.aces; queue = queue })
    (four m.counts e)

module _ (d : Defaults) (m : Memory) (sized : length m.counts ≡ 4) (c : CCall) (n : ℕ) where
  -- a record judged directly that is refused
  pub c_refused : (q : Request) → Promised d m (direct q) c → get_or c.words 0 0 ≡ suc n
      → (c.words ≡ number_words (suc n)) × (c.memory ≡ m) × (c.buffer ≡ c.lent)
  unfolding offset_of filled
  c_refused q p a =
      let r = refused_direct d (terminal_at m) q n (sym (ap (λ (l : List ℕ). get_or l 0 0) p.0.says) ∙ a) in (
        p.0.says ∙ ap words_of r,
        p.0.keeps ∙ ap (λ (t : Transition). memory_of t.terminal) r ∙ memory_back m sized,
        p.0.fills ∙ ap (λ (t : Transition). filled c.lent t.response.contents) r,
      )

  -- a take that answers 1 or 27: no record either, and 256 zeros in its place
  pub c_nothing : (clock capacity : ℕ) → Promised d m (take_at clock capacity) c → get_or c.words 0 0 ≡ n → (eqb n 1 || eqb n 27) ≡ true
      → (c.words ≡ number_words n) × (c.size ≡ 0 ∷ []) × (c.bytes ≡ replicate 256 0) × (c.memory ≡ m) × (c.buffer ≡ c.lent)
  unfolding offset_of filled padded
  c_nothing clock capacity p a e =
      let r = take_nothing d (terminal_at m) clock capacity n e (sym (ap (λ (l : List ℕ). get_or l 0 0) p.0.says) ∙ a) in (
        p.0.says ∙ ap words_of r,
        p.0.sized ∙ ap (λ (t : Transition). length t.bytes ∷ []) r,
        p.0.hands ∙ ap (λ (t : Transition). padded t.bytes) r,
        p.0.keeps ∙ ap (λ (t : Transition). memory_of t.terminal) r ∙ memory_back m sized,
        p.0.fills ∙ ap (λ (t : Transition). filled c.lent t.response.contents) r,
      )

  -- a take whose record is refused: the record is given out whole and leaves its place, and the round is after that place. Nothing else
  -- changes: no byte of the tables, no other record that waits
  pub c_refused_take : (clock capacity : ℕ) → Promised d m (take_at clock capacity) c → sound_terminal (terminal_at m) ≡ true
      → eqb (length (waiting m.queue)) 0 ≡ false → get_or c.words 0 0 ≡ suc n
      → (c.words ≡ number_words (suc n))
      × (c.size ≡ length (due (terminal_at m)) ∷ [])
      × (c.bytes ≡ padded (due (terminal_at m)))
      × (c.memory ≡ with_queue m (queue_of (after_seat (turn (terminal_at m))) (without (has_key 0 (turn (terminal_at m))) (waiting m.queue))))
      × (c.buffer ≡ c.lent)
  unfolding offset_of filled
  c_refused_take clock capacity p h w a =
      let r = refused_take d (terminal_at m) clock capacity n h w (sym (ap (λ (l : List ℕ). get_or l 0 0) p.0.says) ∙ a) in (
        p.0.says ∙ ap words_of r,
        p.0.sized ∙ ap (λ (t : Transition). length t.bytes ∷ []) r,
        p.0.hands ∙ ap (λ (t : Transition). padded t.bytes) r,
        p.0.keeps ∙ ap (λ (t : Transition). memory_of t.terminal) r ∙ queue_back m _ sized,
        p.0.fills ∙ ap (λ (t : Transition). filled c.lent t.response.contents) r,
      )

-- a hand-in that is refused
pub c_not_kept : (d : Defaults) (m : Memory) (c : CCall) (r : List ℕ) (n : ℕ) → Promised d m (hand_in r) c → get_or c.words 0 0 ≡ suc n
    → (c.words ≡ number_words (suc n)) × (c.memory ≡ m)
unfolding offset_of
c_not_kept d m c r n p a =
    let t = refused_hand_in (terminal_at m) r n (sym (ap (λ (l : List ℕ). get_or l 0 0) p.0.says) ∙ a) in (
      p.0.says ∙ ap words_of t,
      p.1 ∙ ap (with_queue m) (p.0.keeps ∙ ap (λ (u : Transition). u.terminal.queue) t),
    )
