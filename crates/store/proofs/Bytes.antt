-- Sums of bytes.
use Rattle.rows.proofs.Prelude.{◌≡◌, List, ℕ, ◌+◌, ◌%◌, ◌<◌, ◌≤◌, add-one, arith, length, drop, get_or, drop-cons, drop_of_length-le}
use Rattle.rules_store.specs.Store.{sum}

-- a byte more: its sum and that of the bytes after it are those of the bytes from it on
pub sum_more : (bytes : List ℕ) (i total : ℕ) → i < length bytes
    → ((total + get_or bytes i 0) % 256 + sum (drop (i + 1) bytes)) % 256 ≡ (total + sum (drop i bytes)) % 256
unfolding sum
sum_more bytes i total h = rw (add-one i, drop-cons bytes i 0 h) (omega arith)

-- past the end of a store there are no marks
pub no_marks : (n : ℕ) (store : List ℕ) → length store ≤ n → sum (drop n store) ≡ 0
unfolding sum
no_marks n store h = rw (drop_of_length-le store h)
