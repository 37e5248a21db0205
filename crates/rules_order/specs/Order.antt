-- Tables that differ only in the order of their access rows, and answers that are the same except for it (U14).
-- A reply that lists the access rows is that to a RETRIEVE of acl2.
use Rattle.std.specs.Prelude.{◌≡◌, Bool, true, false, ◌&&◌, List, [], ◌∷◌, eqb, length}
use Rattle.rows.specs.Rows.{Row}
use Rattle.rules.specs.declared.Tables.{Tables}
use Rattle.rules.specs.declared.Table.TheVariants.{Aces}
use Rattle.rules.specs.Directory.{acl2}
use Rattle.rules.specs.Record.{retrieve, verb, resource}
use Rattle.rules.specs.Tables.{rows, with_rows}
use Rattle.rules.specs.Promises.Theorems.{owner_of_reply, rows_of_reply}
use Rattle.rules.specs.Outcome.{Response}
use Rattle.rules_terminal.specs.Terminal.{Terminal, terminal, Transition, sound_terminal}
use Rattle.rules_terminal.specs.Inputs.{Input, hand_in, take_at, direct}
use Rattle.rules_order.specs.Reorder.{Reordered}
use Rattle.rules.specs.Types.{Bytes}

-- ---- tables

-- with the access rows left out the tables are the same, as many are counted, and they are the same rows in another order
pub record OrderOnly (t u : Tables) : Type 0 where
  pub others : with_rows Aces t [] ≡ with_rows Aces u []
  pub counted : t.naces ≡ u.naces
  pub order : Reordered (rows Aces t) (rows Aces u)

-- two sound terminals whose tables differ only so, and in which the same waits
pub record InStep (x y : Terminal) : Type 0 where
  pub sound_left : sound_terminal x ≡ true
  pub sound_right : sound_terminal y ≡ true
  pub queue : x.queue ≡ y.queue
  pub tables : OrderOnly x.tables y.tables

-- the terminal with these access rows
abbrev pub with_access : Terminal → List Row → Terminal
with_access x aces = terminal (with_rows Aces x.tables aces) x.queue

-- ---- replies

-- RETRIEVE of acl2
unfoldable pub lists_access : Bytes → Bool
lists_access r = eqb (verb r) retrieve && eqb (resource r) acl2

-- equal in length, with the same row owner, and the same rows in another order
pub record SameListed (x y : Bytes) : Type 0 where
  pub long : length x ≡ length y
  pub owner : owner_of_reply x ≡ owner_of_reply y
  pub listed : Reordered (rows_of_reply Aces x) (rows_of_reply Aces y)

-- two responses to the record r that are the same except for the order of listed access rows, and for the rows of acl2 to store
pub record SameBut (r : Bytes) (x y : Response) : Type 0 where
  pub answer : x.answer ≡ y.answer
  pub permission : x.permission ≡ y.permission
  pub payload : x.payload ≡ y.payload
  pub links : x.links ≡ y.links
  pub listing : lists_access r ≡ true → SameListed x.contents y.contents
  pub contents : lists_access r ≡ false → x.contents ≡ y.contents
  pub store : eqb (resource r) acl2 ≡ false → x.store ≡ y.store

-- ---- runs of hand-ins, takes and records that are judged directly

-- the record that the answer to an input is about; a hand-in judges none
abbrev pub judged_in : Input → Transition → Bytes
judged_in (hand_in r) a = []
judged_in (take_at clock capacity) a = a.bytes
judged_in (direct q) a = q.bytes

-- the same record is given out, and the response is the same except for the order
pub record SameAnswer (i : Input) (a b : Transition) : Type 0 where
  pub bytes : a.bytes ≡ b.bytes
  pub response : SameBut (judged_in i a) a.response b.response

module _ {Input Output : Type 0} (S : Input → Output → Output → Type 0) where
  -- two lists of outputs, one for each input: those of the same input are in relation
  pub data InPairs : List Input → List Output → List Output → Type 0 where
    none : InPairs [] [] []
    more : {i : Input} {a b : Output} {is : List Input} {xs ys : List Output} → S i a b → InPairs is xs ys → InPairs (i ∷ is) (a ∷ xs) (b ∷ ys)

module _ {State Input Output : Type 0} (reply : State → Input → Output) (next : State → Input → State)
    (R : State → State → Type 0) (S : Input → Output → Output → Type 0) where
  -- an input is answered in relation, and leaves both states in relation
  abbrev pub StepInRelation : Type 0
  StepInRelation = (s b : State) (i : Input) → R s b → S i (reply s i) (reply b i) × R (next s i) (next b i)
