-- Laws for the code of the C functions: what a call gives beside a head and the bytes of the rows, it gives of the memory that C passes.
use Rattle.rows.proofs.Prelude.{◌≡◌, refl, ap, ◌∙◌, subst, Bool, cond, List, [], ◌∷◌, ℕ, length}
use Rattle.rules.specs.declared.Head.{Head}
use Rattle.rules.specs.declared.Judgement.{Judgement}
use Rattle.rules.specs.Record.{Request}
use Rattle.rules.specs.Tables.{tables_of}
use Rattle.rules.specs.Defaults.{Defaults, fresh}
use Rattle.rules.specs.Reading.{filled}
use Rattle.rules.specs.Checks.{number_of}
use Rattle.rules.specs.Promises.Results.{Result, result_with}
use Rattle.rules_terminal.specs.declared.Taken.{Taken}
use Rattle.rules_terminal.specs.Slots.{empty_queue}
use Rattle.rules_terminal.specs.Terminal.{Terminal, terminal, sound_terminal, fresh_terminal, HandedOut, taken_of, judged, taken}
use Rattle.rules_terminal.specs.Calls.{HandsIn, Takes, Judges}
use Rattle.rules_office.specs.Office.{office_verdict, office_reply}
use Rattle.rules_interface.specs.Memory.{Memory, head_at, terminal_at, counts_of, memory_of}
use Rattle.rules_interface.specs.Interface.{words_in, FreshAt, IsSoundAt, HandsInAt, JudgesAt, TakesAt, ListsAt}

-- memories are the same where their bytes are
pub memory_same : (m n : Memory) → m.counts ≡ n.counts → m.devowner ≡ n.devowner → m.rowners ≡ n.rowners → m.creds ≡ n.creds
    → m.aces ≡ n.aces → m.queue ≡ n.queue → m ≡ n
memory_same m n a b c d e f =
    ap (λ (x : List ℕ). record { counts = x; devowner = m.devowner; rowners = m.rowners; creds = m.creds; aces = m.aces; queue = m.queue }) a
    ∙ ap (λ (x : List ℕ). record { counts = n.counts; devowner = x; rowners = m.rowners; creds = m.creds; aces = m.aces; queue = m.queue }) b
    ∙ ap (λ (x : List ℕ). record { counts = n.counts; devowner = n.devowner; rowners = x; creds = m.creds; aces = m.aces; queue = m.queue }) c
    ∙ ap (λ (x : List ℕ). record { counts = n.counts; devowner = n.devowner; rowners = n.rowners; creds = x; aces = m.aces; queue = m.queue }) d
    ∙ ap (λ (x : List ℕ). record { counts = n.counts; devowner = n.devowner; rowners = n.rowners; creds = n.creds; aces = x; queue = m.queue }) e
    ∙ ap (λ (x : List ℕ). record { counts = n.counts; devowner = n.devowner; rowners = n.rowners; creds = n.creds; aces = n.aces; queue = x }) f

-- the head h is put back into the memory
pub record PutBack (h : Head) (after : Memory) : Type 0 where
  pub counts : after.counts ≡ counts_of h
  pub devowner : after.devowner ≡ h.devowner
  pub rowners : after.rowners ≡ h.rowners

-- so it is the memory of the terminal with this head, and these rows and the queue
pub put_back : (h : Head) (x : Terminal) (after : Memory) → PutBack h after → tables_of h after.creds after.aces ≡ x.tables → after.queue ≡ x.queue
    → after ≡ memory_of x
put_back h x after p t q =
    let all : terminal (tables_of h after.creds after.aces) after.queue ≡ x = rw (t, q) in
    memory_same after (memory_of (terminal (tables_of h after.creds after.aces) after.queue)) p.counts p.devowner p.rowners refl refl refl
    ∙ ap memory_of all

-- ---- a new terminal

pub fresh_at : (d : Defaults) (after : Memory) (h : Head) → PutBack h after → tables_of h after.creds after.aces ≡ fresh d → after.queue ≡ empty_queue
    → FreshAt d after
unfolding fresh_terminal
fresh_at d after h p t q = put_back h (fresh_terminal d) after p t q

-- ---- beside the head that was read

module _ (m : Memory) (h : Head) (reads : h ≡ head_at m.counts m.devowner m.rowners) where
  read : (P : Terminal → Type 0) → P (terminal (tables_of h m.creds m.aces) m.queue) → P (terminal_at m)
  read P = subst (λ (k : Head). P (terminal (tables_of k m.creds m.aces) m.queue)) reads

  pub sound_at : (b told : Bool) (n : ℕ) → b ≡ sound_terminal (terminal (tables_of h m.creds m.aces) m.queue) → b ≡ told → n ≡ cond told 1 0
      → IsSoundAt m n
  sound_at b told n e f g = let is = read (λ (x : Terminal). b ≡ sound_terminal x) e in record { says = rw (← is, f, g) }

  pub judges_at : (d : Defaults) (q : Request) (j : Judgement) (words : List ℕ) (after : Memory) (lent buffer : List ℕ)
      → Judges d (terminal (tables_of h m.creds m.aces) m.queue) q (result_with j after.creds after.aces) lent after.queue buffer
      → words ≡ words_in (result_with j [] []) → PutBack j.head after → JudgesAt d m q words after lent buffer
  judges_at d q j words after lent buffer g w p =
      let is = read (λ (x : Terminal). Judges d x q (result_with j after.creds after.aces) lent after.queue buffer) g in
      record {
        says = w ∙ ap words_in is.says;
        keeps = put_back j.head (judged d (terminal_at m) q).terminal after p (ap (λ (s : Result). s.tables) is.says) is.leaves.keeps;
        fills = is.leaves.fills;
      }

  pub hands_in_at : (r : List ℕ) (j : Judgement) (words queue : List ℕ)
      → HandsIn (terminal (tables_of h m.creds m.aces) m.queue) r (result_with j m.creds m.aces) queue
      → words ≡ words_in (result_with j [] []) → HandsInAt m r words queue
  hands_in_at r j words queue g w =
      let is = read (λ (x : Terminal). HandsIn x r (result_with j m.creds m.aces) queue) g in record { says = w ∙ ap words_in is.says; keeps = is.keeps }

  pub takes_at : (d : Defaults) (clock capacity : ℕ) (u : Taken) (words size bytes : List ℕ) (after : Memory) (lent buffer : List ℕ)
      → Takes d (terminal (tables_of h m.creds m.aces) m.queue) clock capacity (taken_of u after.creds after.aces) lent after.queue buffer
      → words ≡ words_in (result_with u.judgement [] []) → size ≡ u.size ∷ [] → bytes ≡ u.bytes → PutBack u.judgement.head after
      → TakesAt d m clock capacity words size bytes after lent buffer
  takes_at d clock capacity u words size bytes after lent buffer g w n b p =
      let is = read (λ (x : Terminal). Takes d x clock capacity (taken_of u after.creds after.aces) lent after.queue buffer) g in
      let tables = ap (λ (t : HandedOut). t.judgement.tables) is.hands in
      record {
        says = w ∙ ap (λ (t : HandedOut). words_in t.judgement) is.hands;
        sized = n ∙ ap (λ (t : HandedOut). t.size ∷ []) is.hands;
        hands = b ∙ ap (λ (t : HandedOut). t.bytes) is.hands;
        keeps = put_back u.judgement.head (taken d (terminal_at m) clock capacity).terminal after p tables is.leaves.keeps;
        fills = is.leaves.fills;
      }

  pub lists_at : (answer n : ℕ) (lent buffer : List ℕ)
      → answer ≡ number_of (office_verdict (terminal (tables_of h m.creds m.aces) m.queue) (length lent))
      → n ≡ length (office_reply (terminal (tables_of h m.creds m.aces) m.queue) (length lent))
      → buffer ≡ filled lent (office_reply (terminal (tables_of h m.creds m.aces) m.queue) (length lent)) → ListsAt m (answer ∷ n ∷ []) lent buffer
  lists_at answer n lent buffer a l f = record { says = rw (a, l, reads); fills = rw (f, reads) }
