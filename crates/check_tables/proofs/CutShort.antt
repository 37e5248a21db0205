-- Fewer bytes than rows have are not as many rows: the row that is cut short is none.
use Rattle.rows.proofs.Prelude.{◌≡◌, false, and-false, List, ℕ, zero, suc, ◌*◌, ◌/◌, ◌<◌, suc-mul, zero-mul, arith, length, take, drop, ap}
use Rattle.rows.proofs.Prelude.{length-drop, take_all, ltb, ltb-false, ltb-true, bool_cases}
use Rattle.rows.specs.Rows.{every, rows_of}
use Rattle.rules.specs.declared.Table.{Table}
use Rattle.rules.specs.declared.Table.TheVariants.{Creds, Aces}
use Rattle.rules.specs.Tables.{stride, storable}
use Rattle.rules.proofs.BodyLaws.{sized}

-- fewer bytes than a row has are no row
cut_short : (k : Table) (rest : List ℕ) → length rest < stride k → storable k (take (stride k) rest) ≡ false
cut_short k rest h =
    let all : take (stride k) rest ≡ rest = take_all (stride k) rest (omega arith) in
    bool_cases (storable k (take (stride k) rest)) (λ t. absurd (omega (arith, ap length all, sized k (take (stride k) rest) t))) (λ f. f)

-- fewer bytes than n rows have are not n rows
few_bytes : (k : Table) (n : ℕ) (b : List ℕ) → length b < n * stride k → every (storable k) (rows_of (stride k) n b) ≡ false
unfolding every rows_of
few_bytes k zero b h = absurd (omega (arith, zero-mul (stride k)))
few_bytes k (suc n) b h =
    bool_cases (ltb (length b) (stride k))
    (λ e. rw (cut_short k b (ltb-true (length b) (stride k) e)))
    (λ e. rw (few_bytes k n (drop (stride k) b) (omega (arith, suc-mul n (stride k), length-drop (stride k) b, ltb-false (length b) (stride k) e)), and-false))

past : (k : Table) (l n : ℕ) → l / stride k < n → l < n * stride k
past Creds l n h = omega arith
past Aces l n h = omega arith

pub too_few : (k : Table) (n : ℕ) (b : List ℕ) → length b / stride k < n → every (storable k) (rows_of (stride k) n b) ≡ false
too_few k n b h = few_bytes k n b (past k (length b) n h)
