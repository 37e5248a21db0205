-- Theorem: the same start and the same inputs give the same answers and the same bytes. So a journal of what C was asked can be replayed:
-- whoever asks the library again, from the same memory, gets what the journal has, call by call.
use Rattle.rows.proofs.Prelude.{◌≡◌, refl, sym, ap, subst, ◌∙◌, List, [], ◌∷◌, ℕ, length, take, drop, get_or, take_at as first_part}
use Rattle.rules.specs.Defaults.{Defaults}
use Rattle.rules.specs.Reading.{filled}
use Rattle.rules_terminal.specs.Terminal.{Transition, taken, judged}
use Rattle.rules_terminal.specs.Inputs.{Input, hand_in, take_at, direct}
use Rattle.rules_power.specs.Kept.{Act, input, clear}
use Rattle.rules_terminal.specs.Slots.{empty_queue}
use Rattle.rules_interface.specs.Memory.{Memory, terminal_at, memory_of, with_queue}
use Rattle.rules_interface.specs.Interface.{words_of}
use Rattle.rules_interface.specs.Calls.{CCall, Promised, PromisedBy}
use Rattle.rules_interface.specs.Replay.{Entry, asked, restarted, CHistory, SameReply, SameInput, SameCall, SameHistory, memory_after_all}

-- the reply in the buffer, as many bytes as the words say
reply_out : (t : Transition) (words lent buffer : List ℕ) → words ≡ words_of t → buffer ≡ filled lent t.response.contents
    → take (get_or words 4 0) buffer ≡ t.response.contents
unfolding filled
reply_out t words lent buffer w f =
    let reply = t.response.contents in rw (w, f) (first_part reply (drop (length reply) lent) (length reply) refl)

same_reply : (t : Transition) (c e : CCall)
    → c.words ≡ words_of t → e.words ≡ words_of t → c.memory ≡ memory_of t.terminal → e.memory ≡ memory_of t.terminal
    → c.buffer ≡ filled c.lent t.response.contents → e.buffer ≡ filled e.lent t.response.contents → SameReply c e
same_reply t c e w v m n f g = (
  w ∙ sym v,
  m ∙ sym n,
  reply_out t c.words c.lent c.buffer w f ∙ sym (reply_out t e.words e.lent e.buffer v g),
  λ l. f ∙ ap (λ (b : List ℕ). filled b t.response.contents) l ∙ sym g,
)

module _ (d : Defaults) (m : Memory) (c e : CCall) where
  same_input : (i : Input) → Promised d m i c → Promised d m i e → SameInput i c e
  same_input (hand_in r) p q = (
    p.0.says ∙ sym q.0.says,
    p.1 ∙ ap (with_queue m) (p.0.keeps ∙ sym q.0.keeps) ∙ sym q.1,
  )
  same_input (take_at clock capacity) p q = (
    same_reply (taken d (terminal_at m) clock capacity) c e p.0.says q.0.says p.0.keeps q.0.keeps p.0.fills q.0.fills,
    p.0.sized ∙ sym q.0.sized,
    p.0.hands ∙ sym q.0.hands,
  )
  same_input (direct r) p q =
      same_reply (judged d (terminal_at m) r) c e p.0.says q.0.says p.0.keeps q.0.keeps p.0.fills q.0.fills

  same_memory : (i : Input) → SameInput i c e → c.memory ≡ e.memory
  same_memory (hand_in r) s = s.1
  same_memory (take_at clock capacity) s = s.0.1
  same_memory (direct q) s = s.1

  same_call : (act : Act) → PromisedBy d m act c → PromisedBy d m act e → SameCall act c e × (c.memory ≡ e.memory)
  same_call (input i) p q = let s = same_input i p q in (s, same_memory i s)
  same_call clear p q = (p ∙ sym q, p ∙ sym q)

pub c_replay : (d : Defaults) (m : Memory) (es : List Entry) (cs ds : List CCall) → CHistory d m es cs → CHistory d m es ds
    → SameHistory es cs ds × (memory_after_all m es cs ≡ memory_after_all m es ds)
c_replay d m [] [] [] a b = (tt, refl)
c_replay d m [] (c ∷ cs) ds a b = absurd a
c_replay d m [] [] (e ∷ ds) a b = absurd b
c_replay d m (asked act ∷ es) [] ds a b = absurd a
c_replay d m (asked act ∷ es) (c ∷ cs) [] a b = absurd b
c_replay d m (asked act ∷ es) (c ∷ cs) (e ∷ ds) a b =
    let s = same_call d m c e act a.0 b.0 in
    let r = c_replay d c.memory es cs ds a.1 (subst (λ (n : Memory). CHistory d n es ds) (sym s.1) b.1) in
    ((s.0, r.0), r.1 ∙ ap (λ (n : Memory). memory_after_all n es ds) s.1)
c_replay d m (restarted ∷ es) cs ds a b = c_replay d (with_queue m empty_queue) es cs ds a b
