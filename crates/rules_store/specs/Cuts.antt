-- Power cuts: what a write that is cut may leave, an attempt to store an image, and the history of a store.
use Rattle.std.specs.Prelude.{ℕ, ◌+◌, ◌≤◌, ◌<◌, ◌⊎◌, ◌≡◌, List, [], ◌∷◌, length, true}
use Rattle.rules_store.specs.declared.Step.TheVariants.{Write, Done}
use Rattle.rules_store.specs.Store.{size_for, image_at, marks, current, next}
use Rattle.rows.specs.Types.{Bytes}
use Rattle.rows.specs.Rows.{same, some}

-- What a write at address `at` may leave of a store: anything in the part that it writes to, which is the first image, the second image
-- or the marks. The other two parts stay. A byte with any value is a case of it; so is a page written whole, and a cell that is worn out.
pub record Torn (n at : ℕ) (store after : List ℕ) : Type 0 where
  pub size : length after ≡ length store
  pub first : n ≤ at → image_at n 0 after ≡ image_at n 0 store
  pub second : (at < n) ⊎ (n + n ≤ at) → image_at n n after ≡ image_at n n store
  pub last : at < n + n → marks n after ≡ marks n store

-- An attempt to store `new`: any number of writes, each of them torn or not, each asked for with any position. It may stop at any moment
pub data Attempt (new : List ℕ) : List ℕ → List ℕ → Type 0 where
  stops : {store : List ℕ} → Attempt new store store
  tries : {store after end : List ℕ} (from at byte : ℕ) → next store new from ≡ Write at byte → Torn (length new) at store after
      → Attempt new after end → Attempt new store end

-- The history of a store from any content on: attempts, each of them done or cut. With it the images that a reader may find:
-- the image written last, and those whose attempts were cut since
pub data History (n : ℕ) : List ℕ → List Bytes → Type 0 where
  begins : (store : List ℕ) → length store ≡ size_for n → History n store (current n store ∷ [])
  done : {store after : List ℕ} {images : List Bytes} → History n store images → (new : List ℕ) → Attempt new store after
      → (from : ℕ) → next after new from ≡ Done → History n after (new ∷ [])
  cut : {store after : List ℕ} {images : List Bytes} → History n store images → (new : List ℕ) → Attempt new store after
      → History n after (new ∷ images)

-- a reader finds one of these images
pub record Found (n : ℕ) (store : List ℕ) (images : List (List ℕ)) : Type 0 where
  pub size : length store ≡ size_for n
  pub among : some (same (current n store)) images ≡ true

-- the current image of `after` is that of `store`, or it is `new`
abbrev pub OldOrNew : List ℕ → List ℕ → List ℕ → Type 0
OldOrNew new store after = (current (length new) after ≡ current (length new) store) ⊎ (current (length new) after ≡ new)
