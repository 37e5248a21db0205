-- `storing::tillerclover_store_current`: the place, if the length is right.
use Rattle.rows.proofs.Prelude.{◌≡◌, true, false, Bool, List, [], ◌∷◌, ℕ, length, eqb}
use Rattle.rules_store.specs.Store.{size_for, current_at}
use Rattle.rules_interface.specs.Storing.{current_answer, current_in, StoresCurrent}
use Rattle.terminal.proofs.storing.tillerclover_store_current.Goals as goal

module _ (n : ℕ) (store lent : List ℕ) (fit : Bool) (e : fit ≡ eqb (length store) (size_for n)) where
  found : (at : ℕ) → fit ≡ true → at ≡ current_at n store → StoresCurrent store n 0 lent (at ∷ [])
  unfolding current_answer current_in
  found at q a = record { answer = rw (← e, q); address_is = rw (← e, q, a) }

  unfit : fit ≡ false → StoresCurrent store n 2 lent lent
  unfolding current_answer current_in
  unfit q = record { answer = rw (← e, q); address_is = rw (← e, q) }

pub returns-then-fits : goal.returns-then-fits
returns-then-fits c = found _ _ _ _ c.fits.ensures _ c.if-fits.true c.current_at.ensures

pub returns : goal.returns
returns c = unfit _ _ _ _ c.fits.ensures c.if-fits.false
