-- What the two C functions of a store promise. A step as C gets it: an answer, an address and a byte; and where the current image is.
use Rattle.std.specs.Prelude.{ℕ, ◌≡◌, cond, [], ◌∷◌, eqb, length}
use Rattle.rules_store.specs.declared.Step.{Step}
use Rattle.rules_store.specs.declared.Step.TheVariants.{Write, Done, Unfit}
use Rattle.rules_store.specs.Store.{Address, Image, Store, size_for, current_at, next}
use Rattle.rules_store.specs.Run.{if_write}
use Rattle.rules.specs.Types.{Bytes, Size}
use Rattle.rules_interface.specs.Memory.{Words}

abbrev pub answer_in : Step → ℕ
answer_in (Write at byte) = 1
answer_in Done = 0
answer_in Unfit = 2

-- the caller's bytes stay as they were, if there is nothing to write
abbrev pub address_in : Step → Words → Words
address_in step lent = if_write (λ at byte. at ∷ []) lent step

abbrev pub byte_in : Step → Bytes → Bytes
byte_in step lent = if_write (λ at byte. byte ∷ []) lent step

-- whether the store is one for images of this size; then where the current one starts
unfoldable pub current_answer : Size → Store → ℕ
current_answer size store = cond (eqb (length store) (size_for size)) 0 2

unfoldable pub current_in : Size → Store → Words → Words
current_in size store lent = cond (eqb (length store) (size_for size)) (current_at size store ∷ []) lent

-- ---- promised

-- the next step to store an image
pub record StoresNext (store : Store) (image : Image) (from : Address) (told : ℕ) (lentAddress lentByte address byte : Words) : Type 0 where
  pub answer : told ≡ answer_in (next store image from)
  pub address_is : address ≡ address_in (next store image from) lentAddress
  pub byte_is : byte ≡ byte_in (next store image from) lentByte

-- where the current image starts
pub record StoresCurrent (store : Store) (n : Size) (told : ℕ) (lent address : Words) : Type 0 where
  pub answer : told ≡ current_answer n store
  pub address_is : address ≡ current_in n store lent
