-- Such days there are: each run without power cuts is seen whole on a day whose inputs are all stored to the end.
use Rattle.rows.proofs.Prelude.{◌≡◌, List, ℕ, suc, length}
use Rattle.rules_store.specs.declared.Step.TheVariants.{Done}
use Rattle.rules_store.specs.Store as store
use Rattle.rules_store.specs.Store.{size_for}
use Rattle.rules_store.specs.Cuts.{Attempt}
use Rattle.rules_store.specs.Run.{position, stored, plan}
use Rattle.rules_store.proofs.Safe.{run_attempt}
use Rattle.rules_store.proofs.Ends.{ends}
use Rattle.rules_power.specs.Day as day
use Rattle.rules_power.specs.Day.{Machine, Run, Kept, Keeps, Uncut}
use Rattle.rules_power.proofs.Days.{after_done}

stored_attempt : (new s : List ℕ) → Attempt new s (stored new s)
unfolding stored
stored_attempt new s = run_attempt (suc (length new)) new s 0

module _ {State Input Answer : Type 0} (m : Machine State Input Answer) (Good : State → Type 0) (k : Keeps m Good) where
  pub uncut : (x z : State) (s : List ℕ) (is : List Input) (bs : List Answer) → Kept m Good x s → Run m x is bs z → Uncut m x s is bs z
  uncut x z s is bs h day.none = record { end = s; seen = day.ends }
  uncut x z s is bs h (day.more {y = y} {is = is'} {bs = bs'} i a g rest) =
      let new = m.image y in
      let t = stored new s in
      let w = stored_attempt new s in
      let f : length s ≡ size_for (length new) = rw (k.sized y (k.goes_on x y i a g h.good)) h.fits in
      let e : store.next t new (position 0 (plan s new)) ≡ Done = ends s new f in
      let r = uncut y z t is' bs' (after_done m Good k x y s t i a h g w (position 0 (plan s new)) e) rest in
      record { end = r.end; seen = day.answers i a g w (position 0 (plan s new)) e r.seen }
