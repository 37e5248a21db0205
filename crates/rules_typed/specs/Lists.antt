-- What the rules do with lists, and with values that may be there or not.
-- Nothing here knows what a row is.
use Rattle.std.specs.Prelude.{ℕ, suc, Bool, true, false, not, cond, ◌&&◌, ◌||◌, List, [], ◌∷◌}
use Rattle.std.specs.Int.Bits.{bit_or}

-- ---- a value, or none

pub data Maybe (A : Type 0) : Type 0 where
  none : Maybe A
  just : A → Maybe A

module _ {A : Type 0} where
  abbrev pub is_none : Maybe A → Bool
  is_none none = true
  is_none (just x) = false

  -- there is a value, and it passes the test
  abbrev pub holds : Maybe A → (A → Bool) → Bool
  holds none passes = false
  holds (just x) passes = passes x

  -- the value, if the test says so
  unfoldable pub when : Bool → A → Maybe A
  when b x = cond b (just x) none

module _ {A B : Type 0} where
  -- of the value, if there is one
  abbrev pub list_of : Maybe A → (A → List B) → List B
  list_of none f = []
  list_of (just x) f = f x

-- ---- lists

module _ {A : Type 0} where
  -- some element passes the test
  unfoldable pub any : (A → Bool) → List A → Bool
  any passes [] = false
  any passes (x ∷ xs) = passes x || any passes xs

  -- every element passes
  unfoldable pub all : (A → Bool) → List A → Bool
  all passes [] = true
  all passes (x ∷ xs) = passes x && all passes xs

  -- the first that passes
  unfoldable pub find : (A → Bool) → List A → Maybe A
  find passes [] = none
  find passes (x ∷ xs) = cond (passes x) (just x) (find passes xs)

  -- those that do not pass, in their order
  unfoldable pub without : (A → Bool) → List A → List A
  without passes [] = []
  without passes (x ∷ xs) = cond (passes x) (without passes xs) (x ∷ without passes xs)

  -- a new element instead of the first that passes, else at the end
  unfoldable pub put : (A → Bool) → A → List A → List A
  put passes new [] = new ∷ []
  put passes new (x ∷ xs) = cond (passes x) (new ∷ xs) (x ∷ put passes new xs)

  -- how many come before the first that passes
  unfoldable pub before : (A → Bool) → List A → ℕ
  before passes [] = 0
  before passes (x ∷ xs) = cond (passes x) 0 (suc (before passes xs))

  -- no two are the same by this test
  unfoldable pub distinct : (A → A → Bool) → List A → Bool
  distinct sameAs [] = true
  distinct sameAs (x ∷ xs) = not (any (sameAs x) xs) && distinct sameAs xs

  -- the union of the permissions that each gives
  unfoldable pub union : (A → ℕ) → List A → ℕ
  union gives [] = 0
  union gives (x ∷ xs) = bit_or (gives x) (union gives xs)
