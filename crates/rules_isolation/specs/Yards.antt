-- Several yards on one plate, each a list of senders, and what it means that one yard has its run without the others.
use Rattle.std.specs.Prelude.{ℕ, ◌≡◌, Bool, true, false, not, ◌&&◌, ◌||◌, List, [], ◌∷◌, map}
use Rattle.rules.specs.declared.Tables.{Tables}
use Rattle.rules.specs.declared.Sender.{Sender}
use Rattle.rules.specs.Record.{Request, sender}
use Rattle.rules.specs.Defaults.{Defaults}
use Rattle.rules.specs.Outcome.{response_to, tables_after}
use Rattle.rules.specs.Run.{final, kept}
use Rattle.rules.specs.Isolation.{compared}
use Rattle.rules_terminal.specs.Terminal.{Terminal, Transition}
use Rattle.rules_terminal.specs.Inputs.{Input, Turn, bytes_of, request_of, others_turn}
use Rattle.rules_isolation.specs.declared.Isolation.TheVariants.{Isolated}
use Rattle.rules_isolation.specs.Question.{chosen_by, isolation_of}
use Rattle.rules_isolation.specs.Service.{turns_handed}
use Rattle.rules.specs.Types.{Bytes}

-- ---- the yards' senders

-- the sender is of some yard
abbrev pub of_yards : List Bytes → Sender → Bool
of_yards [] sender = false
of_yards (yard ∷ yards) sender = chosen_by yard sender || of_yards yards sender

-- of some yard, and not of this one
abbrev pub of_other_yards : List Bytes → Bytes → Sender → Bool
of_other_yards yards yard sender = of_yards yards sender && not (chosen_by yard sender)

-- nobody is of both
abbrev pub Disjoint : Bytes → Bytes → Type 0
Disjoint a b = (sender : Sender) → chosen_by a sender ≡ true → chosen_by b sender ≡ false

-- the question is answered 'isolated' for each yard
abbrev pub AllIsolated : List Bytes → Tables → Type 0
AllIsolated [] t = Unit {0}
AllIsolated (yard ∷ yards) t = (isolation_of t yard ≡ Isolated) × AllIsolated yards t

-- ---- a run without the others

-- the book's run of these requests: each with its response
abbrev pub book_turns : Defaults → Tables → List Request → List Turn
book_turns d t [] = []
book_turns d t (q ∷ qs) = record { request = q; response = response_to d t q } ∷ book_turns d (tables_after d t q) qs

-- the turns of these senders
abbrev pub turns_of : (Sender → Bool) → List Turn → List Turn
turns_of ours turns = kept (λ turn. ours (sender (bytes_of turn))) turns

-- the requests of all but these senders
abbrev pub requests_without : (Sender → Bool) → List Turn → List Request
requests_without theirs turns = map request_of (kept (others_turn theirs) turns)

-- of all that was judged from the tables t on, which ends with the tables `end`: what our senders sent and got is what the book has
-- that never saw a record of theirs, and so are the tables except for the roles that their partners asserted
pub record Alone (d : Defaults) (ours theirs : Sender → Bool) (t : Tables) (us : List Turn) (end : Tables) : Type 0 where
  pub response : turns_of ours us ≡ turns_of ours (book_turns d t (requests_without theirs us))
  pub tables : compared theirs end ≡ compared theirs (final (tables_after d) t (requests_without theirs us))

-- ---- the same of a run: from the terminal x, by the inputs and their answers, to the terminal `end`. The records are fed as they were handed in

module _ (d : Defaults) where
  abbrev pub AloneIn : (ours theirs : Sender → Bool) → Terminal → List Input → List Transition → Terminal → Type 0
  AloneIn ours theirs x is answers end = Alone d ours theirs x.tables (turns_handed x is answers) end.tables

  -- this yard, without those who are of only the other yards
  abbrev pub YardAlone : List Bytes → List ℕ → Terminal → List Input → List Transition → Terminal → Type 0
  YardAlone yards yard = AloneIn (chosen_by yard) (of_other_yards yards yard)

  -- each of two yards, without the other
  abbrev pub BothAlone : List ℕ → List ℕ → Terminal → List Input → List Transition → Terminal → Type 0
  BothAlone a b x is answers end = AloneIn (chosen_by a) (chosen_by b) x is answers end × AloneIn (chosen_by b) (chosen_by a) x is answers end
