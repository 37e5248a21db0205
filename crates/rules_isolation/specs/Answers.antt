-- What each answer to the question of isolation says: the list is isolated, or the first reason why it is not.
use Rattle.std.specs.Prelude.{suc, ℕ, length, Bool, ◌||◌, false, true, List, ◌++◌, ◌∷◌, ◌≡◌}
use Rattle.rows.specs.Rows.{Row, some}
use Rattle.rules.specs.Isolation.{Harmless, may_alter, names_owner}
use Rattle.rules.specs.Permission.{connection_of, sender_row}
use Rattle.rules.specs.Tables.{rows, sound}
use Rattle.rules.specs.declared.Table.TheVariants.{Aces}
use Rattle.rules.specs.declared.Tables.{Tables}
use Rattle.rules_isolation.specs.Question.{chosen_by, entries, lacks_owner, lets_alter, odd_length, sender_of}
use Rattle.rules_isolation.specs.declared.Isolation.{Isolation}
use Rattle.rules_isolation.specs.declared.Isolation.TheVariants.{Isolated, MayAlter, NamesOwner, NoOwner, OddLength, Unsound}

-- w is at place i, counted from 1, passes the test, and no row before it does
pub record FirstAt (passes : Row → Bool) (ws : List Row) (i : ℕ) (w : Row) : Type 0 where
  pub before : List Row
  pub after : List Row
  pub stands : ws ≡ before ++ (w ∷ after)
  pub number_is : i ≡ suc (length before)
  pub none : some passes before ≡ false
  pub does : passes w ≡ true

-- the entry's sender is not harmless
unfoldable pub harms : Tables → Row → Bool
harms t e = names_owner t (sender_of e) || may_alter t (sender_of e)

pub data Says (t : Tables) (list : List ℕ) : Isolation → Type 0 where
  isolated : odd_length list ≡ false → sound t ≡ true → Harmless (chosen_by list) t → Says t list Isolated
  odd : odd_length list ≡ true → Says t list OddLength
  unsound : odd_length list ≡ false → sound t ≡ false → Says t list Unsound
  unowned : odd_length list ≡ false → sound t ≡ true → lacks_owner t list ≡ true → Says t list NoOwner
  names : {i : ℕ} {e : Row} → odd_length list ≡ false → sound t ≡ true → lacks_owner t list ≡ false
      → FirstAt (harms t) (entries list) i e → names_owner t (sender_of e) ≡ true → Says t list (NamesOwner i)
  alters : {i j : ℕ} {e a : Row} → odd_length list ≡ false → sound t ≡ true → lacks_owner t list ≡ false
      → FirstAt (harms t) (entries list) i e → names_owner t (sender_of e) ≡ false
      → FirstAt (lets_alter (sender_row t (sender_of e)) (connection_of (sender_of e))) (rows Aces t) j a → Says t list (MayAlter i j)
