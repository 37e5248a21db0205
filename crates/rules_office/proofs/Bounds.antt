-- Theorems: no access list has a text longer than 13,069 bytes, so a buffer of that length never gets 18.
-- 32 rows, each with a number of five digits, a UUID, all resources and wildcards, and a permission of two digits.
use Rattle.rows.proofs.Prelude.{◌≡◌, refl, Bool, true, false, List, [], ◌∷◌, map, ℕ, zero, suc, ◌+◌, ◌*◌, ◌/◌, ◌^◌, ◌≤◌, ◌<◌, min, pow-suc, arith, length, drop}
use Rattle.rows.proofs.Prelude.{length-append, length-take, eqb, ltb, le-ltb, lt-ltb, cond_cases}
use native.Mathlib.Nat.{min-le_right}
use Rattle.text.specs.Text.{ascii, decimal_in, decimal}
use Rattle.rows.specs.Rows.{Row, rows_of, joined}
use Rattle.rows.proofs.Laws.{length_rows_of}
use Rattle.rows.proofs.Kept.{length_without}
use Rattle.rules.specs.declared.Tables.{Tables}
use Rattle.rules.specs.declared.Table.TheVariants.{Aces}
use Rattle.rules.specs.Bits.{bits}
use Rattle.rules.specs.Bodies.{ace_kind, ace_subject, ace_connection, ace_permission}
use Rattle.rules.specs.declared.Check.TheVariants.{Pass}
use Rattle.rules.specs.Tables.{rows_in}
use Rattle.rules_terminal.specs.Terminal.{Terminal, sound_terminal}
use Rattle.rules.specs.Checks.{verdict}
use Rattle.rules.proofs.BitLaws.{bits_below}
use Rattle.rules_office.specs.Office.{dashed, dash, hex_byte, uuid_from, uuid_text, comma, separated, uuid_subject, role_subject, connection_subject}
use Rattle.rules_office.specs.Office.{subject_text, href, choices, chosen, picked, braced, resources_text, row_text, rows_text, list_text, seasonal}
use Rattle.rules_office.specs.Office.{rows_written, office_text, office_verdict}
use Rattle.rules.specs.Sizes.{ace_row_size}

-- ---- numbers

-- a number below a power of ten has as many digits at most
digits_length : (m n j : ℕ) → n < 10 ^ suc j → length (decimal_in m n) ≤ suc j
unfolding decimal_in
digits_length zero n j h = omega arith
digits_length (suc m) n zero h = rw (lt-ltb n 10 h) (omega arith)
digits_length (suc m) n (suc j) h =
    let l : n < 10 ^ suc j * 10 = rw pow-suc at h in
    cond_cases (λ (s : List ℕ). length s ≤ suc (suc j)) (ltb n 10)
    (λ _. omega arith)
    (λ _. simp length-append (omega (arith, digits_length m (n / 10) j (omega arith))))

word_length : (r : List ℕ) (start : ℕ) → length (decimal (bits r start 16)) ≤ 5
unfolding decimal
word_length r start = digits_length (bits r start 16) (bits r start 16) 4 (omega (arith, bits_below r start 16 16 (omega arith)))

permission_length : (w : Row) → length (decimal (ace_permission w)) ≤ 2
unfolding decimal
permission_length w = digits_length (ace_permission w) (ace_permission w) 1 (omega (arith, bits_below w 18 5 5 (omega arith)))

-- ---- a UUID

-- the dashes before that many bytes from byte i on
dashes : ℕ → ℕ → ℕ
dashes i zero = 0
dashes i (suc n) = length (dash i) + dashes (suc i) n

dashes_more : (i n k : ℕ) → n ≤ k → dashes i n ≤ dashes i k
unfolding dashes
dashes_more i zero k h = omega arith
dashes_more i (suc n) zero h = absurd (omega arith)
dashes_more i (suc n) (suc k) h = omega (arith, dashes_more (suc i) n k (omega arith))

uuid_length : (i : ℕ) (u : List ℕ) → length (uuid_from i u) ≡ 2 * length u + dashes i (length u)
unfolding hex_byte dashes
uuid_length i [] = refl
uuid_length i (b ∷ u) = simp length-append (omega (arith, uuid_length (suc i) u))

uuid_short : (u : List ℕ) → length u ≤ 16 → length (uuid_text u) ≤ 36
unfolding uuid_text dashes dash dashed ascii
uuid_short u h = omega (arith, uuid_length 0 u, dashes_more 0 (length u) 16 h)

-- ---- a subject

abbrev Few : List ℕ → Type 0
Few s = length s ≤ 47

subject_length : (w : Row) → length (subject_text w) ≤ 47
unfolding subject_text uuid_subject role_subject connection_subject joined ascii
subject_length w =
    cond_cases Few (eqb (ace_kind w) 0)
    (λ _. simp length-append (omega (arith, uuid_short (ace_subject w) (rw (length-take 16 (drop 12 w)) (omega arith)))))
    (λ _. cond_cases Few (eqb (ace_kind w) 1)
    (λ _. simp length-append (omega (arith, word_length w 192, word_length w 208)))
    (λ _. cond_cases Few (eqb (ace_kind w) 2)
    (λ _. cond_cases Few (eqb (ace_connection w) 1) (λ _. omega arith) (λ _. omega arith))
    (λ _. omega arith)))

-- ---- resources

later_items : (bs : List Bool) (xs : List (List ℕ)) → length (separated false (map braced (picked bs xs))) ≤ length (separated false (map braced xs))
later_items [] xs = omega arith
later_items (b ∷ bs) [] = omega arith
later_items (false ∷ bs) (x ∷ xs) = simp length-append (omega (arith, later_items bs xs))
later_items (true ∷ bs) (x ∷ xs) = simp length-append (omega (arith, later_items bs xs))

-- all items have the comma that the first has not
all_items : (bs : List Bool) (x : List ℕ) (xs : List (List ℕ))
    → suc (length (separated true (map braced (picked bs (x ∷ xs))))) ≤ length (separated false (map braced (x ∷ xs)))
unfolding comma ascii
all_items [] x xs = simp length-append (omega arith)
all_items (true ∷ bs) x xs = simp length-append (omega (arith, later_items bs xs))
all_items (false ∷ []) x xs = simp length-append (omega arith)
all_items (false ∷ b ∷ bs) x [] = simp length-append (omega arith)
all_items (false ∷ b ∷ bs) x (y ∷ xs) = simp length-append (omega (arith, simp length-append at (all_items (b ∷ bs) y xs)))

resources_length : (w : Row) → length (resources_text w) ≤ 303
unfolding resources_text choices href braced comma joined ascii
resources_length w = omega (arith, all_items (chosen w) (href "/oic/sec/doxm") (drop 1 choices))

-- ---- a row, and the list

row_length : (w : Row) → length (row_text w) ≤ 407
unfolding row_text joined ascii
row_length w = simp length-append (omega (arith, word_length w 0, subject_length w, resources_length w, permission_length w))

later_rows : (ws : List Row) → length (separated false (map row_text ws)) ≤ 408 * length ws
unfolding comma ascii
later_rows [] = omega arith
later_rows (w ∷ ws) = simp length-append (omega (arith, row_length w, later_rows ws))

all_rows : (ws : List Row) → length ws ≤ 32 → length (separated true (map row_text ws)) ≤ 13055
unfolding comma ascii
all_rows [] h = omega arith
all_rows (w ∷ ws) h = simp length-append (omega (arith, row_length w, later_rows ws))

list_length : (ws : List Row) → length ws ≤ 32 → length (list_text ws) ≤ 13069
unfolding list_text rows_text joined ascii
list_length ws h = simp length-append (omega (arith, all_rows ws h))

-- of that many rows in these bytes, whatever they are
pub rows_text_short : (n : ℕ) (b : List ℕ) → length (list_text (rows_written (rows_in Aces n b))) ≤ 13069
unfolding rows_in
rows_text_short n b =
    let ws = rows_of ace_row_size (min n 32) b in
    let few : length ws ≤ 32 = rw (length_rows_of ace_row_size (min n 32) b) (min-le_right n 32) in
    list_length (rows_written ws) (omega (arith, length_without seasonal ws, few))

pub text_short : (t : Tables) → length (office_text t) ≤ 13069
text_short t = rows_text_short t.naces t.aces

pub never_18 : (x : Terminal) → sound_terminal x ≡ true → office_verdict x 13069 ≡ Pass
unfolding office_verdict verdict
never_18 x h = rw (h, le-ltb 13069 (length (office_text x.tables)) (text_short x.tables))
