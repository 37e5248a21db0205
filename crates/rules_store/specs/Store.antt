-- A store holds two images of n bytes and 8 marks: one image is current, the other one is spare, and the marks say which is which.
-- A new image is copied over the spare one, where bytes differ. Then one mark is raised, and the spare image is the current one.
use Rattle.std.specs.Prelude.{ℕ, suc, ◌+◌, ◌-◌, ◌%◌, Bool, cond, ◌&&◌, ◌||◌, [], ◌∷◌, eqb, ltb, length, take, drop, get_or}
use Rattle.rows.specs.Rows.{same}
use Rattle.rules_store.specs.declared.Step.{Step}
use Rattle.rules_store.specs.declared.Step.TheVariants.{Write, Done, Unfit}
use Rattle.rows.specs.Types.{Bytes, Offset, Size}

-- a store, an image in it, an address in the store, and what is there
abbrev pub Store : Type 0
Store = Bytes

abbrev pub Image : Type 0
Image = Bytes

abbrev pub Address : Type 0
Address = ℕ

abbrev pub Byte : Type 0
Byte = ℕ

-- ---- layout

abbrev pub mark_count : Size
mark_count = 8

-- the length of a store for images of this size
abbrev pub size_for : Size → Size
size_for size = size + size + mark_count

unfoldable pub image_at : Size → Address → Store → Image
image_at size at store = take size (drop at store)

unfoldable pub marks : Size → Store → Bytes
marks size store = drop (size + size) store

unfoldable pub sum : Bytes → ℕ
sum [] = 0
sum (byte ∷ bytes) = byte + sum bytes

-- how many images were stored, modulo 256
unfoldable pub counter : Size → Store → ℕ
counter size store = sum (marks size store) % 256

unfoldable pub even_counter : Size → Store → Bool
even_counter size store = eqb (counter size store % 2) 0

unfoldable pub current_at : Size → Store → Address
current_at size store = cond (even_counter size store) 0 size

unfoldable pub spare_at : Size → Store → Address
spare_at size store = cond (even_counter size store) size 0

unfoldable pub current : Size → Store → Image
current size store = image_at size (current_at size store) store

unfoldable pub spare : Size → Store → Image
spare size store = image_at size (spare_at size store) store

-- ---- the byte to copy

-- the first offset at which two images differ; the shorter one's length, if there is none
unfoldable pub mismatch : Image → Image → Offset
mismatch [] new = 0
mismatch (x ∷ old) [] = 0
mismatch (x ∷ old) (y ∷ new) = cond (eqb x y) (suc (mismatch old new)) 0

-- the first one from offset `from` on
unfoldable pub mismatch_from : Offset → Image → Image → Offset
mismatch_from from old new = from + mismatch (drop from old) (drop from new)

-- that one, else the first of all: no offset is left out, wherever the search begins
unfoldable pub to_copy : Offset → Image → Image → Offset
to_copy from old new = cond (ltb (mismatch_from from old new) (length new)) (mismatch_from from old new) (mismatch_from 0 old new)

-- ---- the next step

-- the marks are raised in turn
unfoldable pub mark_at : Size → Store → Address
mark_at size store = size + size + counter size store % mark_count

unfoldable pub raised : Byte → Byte
raised byte = (byte + 1) % 256

unfoldable pub raise : Size → Store → Step
raise size store = Write (mark_at size store) (raised (get_or store (mark_at size store) 0))

-- a byte of the spare image, or a mark where no byte is left to copy
unfoldable pub write_at : Offset → Store → Image → Step
write_at offset store new = cond (ltb offset (length new)) (Write (spare_at (length new) store + offset) (get_or new offset 0)) (raise (length new) store)

unfoldable pub write : Store → Image → Address → Step
write store new from = write_at (to_copy (from - spare_at (length new) store) (spare (length new) store) new) store new

unfoldable pub fits : Store → Image → Bool
fits store new = eqb (length store) (size_for (length new))

-- the new image is the current one. Whole images are compared at the start and after a mark, and not after each byte
unfoldable pub settled : Store → Image → Address → Bool
settled store new from = (eqb from 0 || ltb (length new + length new) from) && same (current (length new) store) new

-- what to do next to store the image `new`. `from` is 0 at the start, and then the address after the last write
unfoldable pub next : Store → Image → Address → Step
next store new from = cond (fits store new) (cond (settled store new from) Done (write store new from)) Unfit
