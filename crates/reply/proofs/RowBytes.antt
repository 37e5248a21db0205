-- The bytes of the rows that a table holds: of access rows the first bytes of the table, of credential rows their bodies.
use Rattle.rows.proofs.Prelude.{◌≡◌, refl, sym, ap, ◌∙◌, List, ◌∷◌, ◌++◌, map, ℕ, zero, suc, ◌+◌, ◌*◌, ◌≤◌, min, arith, length, take, drop, take-take}
use Rattle.rows.proofs.Prelude.{length-append, length-drop, length-take-le}
use Rattle.text.specs.Buffer.{largest, Puts}
use Rattle.text.proofs.Buffers.{puts_beyond}
use Rattle.rows.specs.Rows.{Row, rows_of, joined}
use Rattle.rows.proofs.Laws.{joined_rows_of}
use Rattle.rows.proofs.Kept.{AllLong, long_rows_of}
use Rattle.rules.specs.declared.Table.TheVariants.{Creds, Aces}
use Rattle.rules.specs.Tables.{rows_in, table_size}
use Rattle.rules.specs.Roles.{body_of}
use Rattle.rules.specs.Sizes.{ace_row_size, cred_body_size, cred_row_size}

-- ---- access rows

-- a part that code took
pub row_part : (n m : ℕ) (b p : List ℕ) → m ≡ min n 32 → p ≡ take (m * ace_row_size) b → p ≡ joined (rows_in Aces n b)
unfolding rows_in
row_part n m b p e f = rw (f, e) (sym (joined_rows_of ace_row_size (min n 32) b))

-- ---- credential rows, each of its length

pub rows_long : (n : ℕ) (b : List ℕ) → length b ≡ table_size Creds → AllLong cred_row_size (rows_in Creds n b)
unfolding rows_in
rows_long n b l = long_rows_of cred_row_size (min n 24) b (omega (arith, l))

-- of a walk over them: the next one, and the others
pub row_next : {w : Row} {rows all : List Row} → AllLong cred_row_size all → all ≡ w ∷ rows → (length w ≡ cred_row_size) × AllLong cred_row_size rows
row_next a e = rw e at a

pub body_next : {w body : Row} {rows all : List Row} → all ≡ w ∷ rows → body ≡ body_of w → joined (map body_of all) ≡ body ++ joined (map body_of rows)
unfolding joined
body_next e f = rw (e, f)

-- ---- the bodies of that many credential rows

abbrev pub bodies : ℕ → List ℕ → List ℕ
bodies n b = joined (map body_of (rows_of cred_row_size n b))

one_more : (n : ℕ) (b : List ℕ) → bodies (suc n) b ≡ take cred_body_size b ++ bodies n (drop cred_row_size b)
unfolding rows_of joined
one_more n b = ap (λ (l : List ℕ). l ++ bodies n (drop cred_row_size b)) (take-take cred_body_size cred_row_size b (omega arith))

-- that many bytes, where the rows are there
pub bodies_long : (n : ℕ) (b : List ℕ) → n * cred_row_size ≤ length b → length (bodies n b) ≡ n * cred_body_size
unfolding rows_of joined
bodies_long zero b h = omega arith
bodies_long (suc n) b h =
    rw (one_more n b, length-append, length-take-le cred_body_size b (omega arith), bodies_long n (drop cred_row_size b) (rw length-drop (omega arith))) (omega arith)

-- as many bytes as the bodies are
pub bodies_counted : (n : ℕ) (b : List ℕ) → length b ≡ table_size Creds → length (joined (map body_of (rows_in Creds n b))) ≡ min n 24 * cred_body_size
unfolding rows_in
bodies_counted n b l = bodies_long (min n 24) b (omega (arith, l))

-- past a buffer's end texts of one length are put alike: none is written
pub counted : {o s t o' : List ℕ} {at r : ℕ} → length o ≤ at → length s ≡ length t → Puts o at s o' r → Puts o at t o' r
counted {o = o} {s = s} {t = t} {at = at} l e p = record {
  next = p.next ∙ ap (λ (n : ℕ). min (at + n) largest) e;
  buffer = p.buffer ∙ sym (puts_beyond o at s l refl).buffer ∙ (puts_beyond o at t l refl).buffer;
}
