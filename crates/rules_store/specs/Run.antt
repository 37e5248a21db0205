-- The run of a program that stores an image and is not cut: what it writes, and what it is to write.
use Rattle.std.specs.Prelude.{ℕ, zero, suc, ◌+◌, ◌<◌, ◌≡◌, Bool, true, cond, ◌&&◌, List, [], ◌∷◌, ◌++◌, eqb, leb, length, get_or, set}
use Rattle.rows.specs.Rows.{same}
use Rattle.rules_store.specs.declared.Step.{Step}
use Rattle.rules_store.specs.declared.Step.TheVariants.{Write, Done, Unfit}
use Rattle.rules_store.specs.Store.{Address, Byte, Image, Store, current, spare, spare_at, raise, next}
use Rattle.rows.specs.Types.{Offset, Size}

-- what depends on a write
abbrev pub if_write : {A : Type 0} → (Address → Byte → A) → A → Step → A
if_write f other (Write at byte) = f at byte
if_write f other Done = other
if_write f other Unfit = other

-- What a step may be: a byte of the new image, written where the spare image differs; a mark, raised where the spare image is the new one;
-- or nothing, where the current image is the new one
pub data Justified (store : Store) (new : Image) : Step → Type 0 where
  copies : (p : Offset) → p < length new → (get_or (spare (length new) store) p 0 ≡ get_or new p 0 → ⊥)
      → Justified store new (Write (spare_at (length new) store + p) (get_or new p 0))
  raises : spare (length new) store ≡ new → Justified store new (raise (length new) store)
  rests : current (length new) store ≡ new → Justified store new Done

-- ---- what a program writes

-- the writes of at most k steps: each is made, and the program asks again with the address after it
unfoldable pub writes : ℕ → Store → Image → Address → List Step
writes zero store new from = []
writes (suc k) store new from = if_write (λ at byte. Write at byte ∷ writes k (set store at byte) new (at + 1)) [] (next store new from)

-- the store after these writes
unfoldable pub written : List Step → Store → Store
written [] store = store
written (step ∷ steps) store = written steps (if_write (λ at byte. set store at byte) store step)

-- the position after them, from position `from` on
unfoldable pub position : Address → List Step → Address
position from [] = from
position from (step ∷ steps) = position (if_write (λ at byte. at + 1) from step) steps

-- a whole run: a write for each byte of the image and one for a mark are enough
unfoldable pub stored : Image → Store → Store
stored new store = written (writes (suc (length new)) store new 0) store

-- ---- what it is to write

-- a write for each byte in which the images differ; the old image starts at `at`
unfoldable pub differences : Address → Image → Image → List Step
differences at [] new = []
differences at (x ∷ old) [] = []
differences at (x ∷ old) (y ∷ new) = cond (eqb x y) (differences (suc at) old new) (Write at y ∷ differences (suc at) old new)

-- nothing, if the image is the current one; else each byte in which the spare image differs, then one mark
unfoldable pub plan : Store → Image → List Step
plan store new =
    cond (same (current (length new) store) new) []
    (differences (spare_at (length new) store) (spare (length new) store) new ++ (raise (length new) store ∷ []))

-- in how many bytes the images differ
unfoldable pub differing : Image → Image → Size
differing [] new = 0
differing (x ∷ old) [] = 0
differing (x ∷ old) (y ∷ new) = cond (eqb x y) (differing old new) (suc (differing old new))

-- each write lies at `from` or after it, and after the write before it
unfoldable pub rising : Address → List Step → Bool
rising from [] = true
rising from (step ∷ steps) = if_write (λ at byte. leb from at && rising (suc at) steps) (rising from steps) step

-- a write lies in the store, and changes its byte
pub record Changes (store : List ℕ) (at byte : ℕ) : Type 0 where
  pub inside : at < length store
  pub other : get_or store at 0 ≡ byte → ⊥
