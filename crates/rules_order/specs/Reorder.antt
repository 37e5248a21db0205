-- The same rows in another order, and rows sorted by any test.
-- No contract speaks of it.
use Rattle.std.specs.Prelude.{Bool, true, ◌&&◌, cond, List, [], ◌∷◌}
use Rattle.rows.specs.Rows.{Row}

-- two neighbours change places, any number of times, anywhere in the list
pub data Reordered : List Row → List Row → Type 0 where
  none : Reordered [] []
  keep : {w : Row} {vs ws : List Row} → Reordered vs ws → Reordered (w ∷ vs) (w ∷ ws)
  swap : {v w : Row} {ws : List Row} → Reordered (v ∷ w ∷ ws) (w ∷ v ∷ ws)
  then : {us vs ws : List Row} → Reordered us vs → Reordered vs ws → Reordered us ws

-- ---- sorting, where `before v w` says that v may be before w: by site, by number, by any other key

module _ (before : Row → Row → Bool) where
  -- the row in front of the first that it may be before
  unfoldable pub inserted : Row → List Row → List Row
  inserted new [] = new ∷ []
  inserted new (row ∷ rows) = cond (before new row) (new ∷ row ∷ rows) (row ∷ inserted new rows)

  unfoldable pub sorted : List Row → List Row
  sorted [] = []
  sorted (row ∷ rows) = inserted row (sorted rows)

  -- each row may be before the next
  unfoldable pub leads : Row → List Row → Bool
  leads row [] = true
  leads row (next ∷ rows) = before row next

  unfoldable pub ascending : List Row → Bool
  ascending [] = true
  ascending (row ∷ rows) = leads row rows && ascending rows
