-- The rows of a build's default list: each is its body and what is after a body, and over a table of zeros they are the table.
-- Over the table, so that both have one law.
use Rattle.rows.proofs.Prelude.{◌≡◌, refl, sym, ap, ◌∙◌, true, false, List, [], ◌∷◌, ◌++◌, map, append-nil, ℕ, ◌-◌, ◌*◌, ◌/◌, ◌≤◌, mul-le-mul_right, arith}
use Rattle.rows.proofs.Prelude.{length, take, replicate, length-append, length-map, length-replicate, leb-true, and_left}
use native.Mathlib.Nat.{div-add-mod', sub-zero}
use Rattle.text.specs.Buffer.{written}
use Rattle.text.proofs.Buffers.{written_start, written_length}
use Rattle.rows.specs.Rows.{Row, rows_of, joined, packed}
use Rattle.rows.proofs.Laws.{length_rows_of, drop_replicate}
use Rattle.rows.proofs.Kept.{AllLong, long_rows_of, length_joined, rows_of_packed}
use Rattle.rules.specs.declared.Table.{Table}
use Rattle.rules.specs.declared.Table.TheVariants.{Creds, Aces}
use Rattle.rules.specs.Tables.{stride, longest, capacity, row_from, table_size}
use Rattle.rules.specs.Defaults.{listed, good_list, default_rows}
use Rattle.rules.proofs.BodyLaws.{two_long}

-- the whole rows of a list lie within it
pub rows_within : (k : Table) (n : ℕ) → n / longest k * longest k ≤ n
rows_within k n = omega (arith, div-add-mod' n (longest k))

pub good_few : (k : Table) (b : List ℕ) → good_list k b ≡ true → length b / longest k ≤ 2
unfolding good_list
good_few k b h = leb-true (length b / longest k) 2 (search and_left)

-- ---- a row

-- what is after the body
pub behind : Table → List ℕ
behind k = replicate (stride k - longest k) 0

pub row_from_lem : (k : Table) (b : List ℕ) → row_from k b ≡ b ++ behind k
unfolding behind
row_from_lem Creds b = refl
row_from_lem Aces b = sym (append-nil b)

-- a part of sixteen zeros
pub zeros_part : (k : Table) → take (stride k - longest k) (replicate 16 0) ≡ behind k
unfolding behind
zeros_part Creds = refl
zeros_part Aces = refl

from_long : (k : Table) (b : List ℕ) → length b ≡ longest k → length (row_from k b) ≡ stride k
from_long Creds b l = rw (length-append, l)
from_long Aces b l = l

-- of a walk over bodies, the next row and the others
pub next_from : (k : Table) {body : List ℕ} {bodies all : List Row} → all ≡ body ∷ bodies
    → joined (map (row_from k) all) ≡ row_from k body ++ joined (map (row_from k) bodies)
unfolding joined
next_from k e = rw e

-- ---- the rows of a list over a table of zeros

all_long : (k : Table) (ws : List Row) → AllLong (longest k) ws → AllLong (stride k) (map (row_from k) ws)
all_long k [] a = tt
all_long k (w ∷ ws) a = (from_long k w a.0, all_long k ws a.1)

listed_long : (k : Table) (b : List ℕ) → AllLong (stride k) (listed k b)
listed_long k b = all_long k (rows_of (longest k) (length b / longest k) b) (long_rows_of (longest k) (length b / longest k) b (rows_within k (length b)))

pub listed_count : (k : Table) (b : List ℕ) → length (listed k b) ≡ length b / longest k
listed_count k b = length-map (rows_of (longest k) (length b / longest k) b) (row_from k) ∙ length_rows_of (longest k) (length b / longest k) b

module _ (k : Table) (b x : List ℕ) (few : length b / longest k ≤ capacity k) (over : x ≡ written (replicate (table_size k) 0) 0 (joined (listed k b))) where
  pub listed_fits : length b / longest k * stride k ≤ table_size k
  listed_fits = mul-le-mul_right (stride k) few

  short : length (joined (listed k b)) ≤ length (replicate {A = ℕ} (table_size k) 0)
  short = rw (length-replicate, length_joined (stride k) (listed k b) (listed_long k b), listed_count k b) listed_fits

  pub listed_packed : x ≡ packed (table_size k) (listed k b)
  unfolding packed
  listed_packed =
      over
      ∙ written_start (replicate (table_size k) 0) (joined (listed k b)) short
      ∙ ap (λ (z : List ℕ). joined (listed k b) ++ z) (drop_replicate (length (joined (listed k b))) (table_size k) 0)

  pub listed_rows : rows_of (stride k) (length b / longest k) x ≡ listed k b
  listed_rows =
      ap (λ (l : List ℕ). rows_of (stride k) (length b / longest k) l) listed_packed
      ∙ ap (λ (n : ℕ). rows_of (stride k) n (packed (table_size k) (listed k b))) (sym (listed_count k b))
      ∙ rows_of_packed (stride k) (table_size k) (listed k b) (listed_long k b)

  pub listed_length : length x ≡ table_size k
  listed_length = rw (over, written_length, length-replicate)

pub many_fit : (k : Table) → 24 ≤ capacity k
many_fit Creds = omega arith
many_fit Aces = omega arith

pub two_at_least : (k : Table) → 2 ≤ stride k
two_at_least k = two_long k

pub ruleset good_steps = (listed_rows, listed_fits, listed_length, many_fit, two_at_least)

-- ---- the default rows of a list, and their table

pub good_table : (k : Table) (b x : List ℕ) → good_list k b ≡ true → x ≡ written (replicate (table_size k) 0) 0 (joined (listed k b))
    → x ≡ packed (table_size k) (default_rows k b)
unfolding default_rows
good_table k b x good over = rw good (listed_packed k b x (omega (arith, good_few k b good, many_fit k)) over)

pub good_count : (k : Table) (b : List ℕ) → good_list k b ≡ true → length b / longest k ≡ length (default_rows k b)
unfolding default_rows
good_count k b good = rw good (sym (listed_count k b))

-- of a list that is not good
pub bad_none : (k : Table) (b : List ℕ) → good_list k b ≡ false → default_rows k b ≡ []
unfolding default_rows
bad_none k b bad = rw bad

pub bad_table : (k : Table) (b x : List ℕ) → good_list k b ≡ false → x ≡ replicate (table_size k) 0
    → x ≡ packed (table_size k) (default_rows k b)
unfolding packed joined
bad_table k b x bad zeros = rw (bad_none k b bad, sub-zero) zeros

pub ruleset default_steps = (good_few, good_table, good_count, bad_none, bad_table)
