-- Bytes that are all 0: their union is 0, and so is each part of them.
-- Assumes nothing.
use Rattle.rows.proofs.Prelude.{◌≡◌, refl, sym, ap, ◌∙◌, Bool, true, false, ◌&&◌, List, [], ◌∷◌, ◌++◌, ℕ, zero, suc, ◌+◌, ◌*◌, ◌/◌, ◌-◌, ◌≤◌, ◌<◌, zero-mul, arith, length, take, drop}
use Rattle.rows.proofs.Prelude.{take-append-drop, length-append, drop_of_length-le, eqb, bit_or, ne_eqb, get_or, drop-cons, drop-drop, add-one}
use Rattle.std.specs.List.{list_all}
use Rattle.std.specs.Simd.{first_chunks}
use Rattle.std.specs.Slice.Iter.{chunks_exact_rest, chunks_exact_size, chunks_exact_steps}
use Rattle.std.specs.declared.slice.ChunksExact.{ChunksExact}
use Rattle.std.proofs.lemmas.Iterator.{YieldsList}
use Rattle.std.proofs.lemmas.Iterator.Splits.{YieldsList-from_shown_while}
use Rattle.std.proofs.Math.Seq.{take-append_seam, drop-append_seam}
use mathlib.Core.Bool.{and_assoc}
use native.Mathlib.Nat.{add-div_left, div-eq_of_lt}
use lib.Bits.{or_add_and, and_le_r}
use lib.Dec.{eqb-suc-zero}
use lib.Seq.{take-add}
use Rattle.rows.specs.Rows.{all_zero}
use Rattle.rows.proofs.Laws.{mul_front}

-- ---- unions

pub zero_both : (a b : ℕ) → eqb (bit_or a b) 0 ≡ (eqb a 0 && eqb b 0)
zero_both zero b = refl
zero_both (suc a) b = ne_eqb (bit_or (suc a) b) 0 (λ e. omega (arith, or_add_and (suc a) b, and_le_r (suc a) b)) ∙ rw (eqb-suc-zero a)

-- a byte more
pub zero_more : (any byte : ℕ) (rest : Bool) → (eqb any 0 && (eqb byte 0 && rest)) ≡ (eqb (bit_or any byte) 0 && rest)
zero_more any byte rest = rw zero_both (sym (and_assoc (eqb any 0) (eqb byte 0) rest))

-- ---- parts

zeros_append : (a b : List ℕ) → all_zero (a ++ b) ≡ (all_zero a && all_zero b)
unfolding all_zero
zeros_append [] b = refl
zeros_append (x ∷ a) b = rw (zeros_append a b, and_assoc)

-- the first blocks of n bytes
pub zeros_blocks : (n k : ℕ) (b : List ℕ) → list_all all_zero (first_chunks n k b) ≡ all_zero (take (k * n) b)
unfolding all_zero
zeros_blocks n zero b = rw zero-mul
zeros_blocks n (suc k) b = rw (mul_front k n, take-add n (k * n) b, zeros_append, zeros_blocks n k (drop n b))

-- from a byte on
pub zeros_from : (b : List ℕ) (i : ℕ) → i < length b → all_zero (drop i b) ≡ (eqb (get_or b i 0) 0 && all_zero (drop (i + 1) b))
unfolding all_zero
zeros_from b i h = rw (drop-cons b i 0 h, add-one)

-- past the end
pub zeros_past : (b : List ℕ) (i : ℕ) → length b ≤ i → all_zero (drop i b) ≡ true
unfolding all_zero
zeros_past b i h = rw (drop_of_length-le b h)

-- the first n bytes, and the others
zeros_split : (n : ℕ) (b : List ℕ) → all_zero b ≡ (all_zero (take n b) && all_zero (drop n b))
zeros_split n b = ap all_zero (sym (take-append-drop n b)) ∙ zeros_append (take n b) (drop n b)

-- n bytes, and those after them
pub zeros_part : (n i : ℕ) (b : List ℕ) → all_zero (drop i b) ≡ (all_zero (take n (drop i b)) && all_zero (drop (i + n) b))
zeros_part n i b = rw (← drop-drop n i b) (zeros_split n (drop i b))

twice : (a b c : Bool) → ((a && b) && (b && c)) ≡ (a && (b && c))
twice true true c = refl
twice true false c = refl
twice false b c = refl

-- the first bytes, and those from k on, where m bytes are in both
zeros_overlap : (k m : ℕ) (b : List ℕ) → (all_zero (take (k + m) b) && all_zero (drop k b)) ≡ all_zero b
zeros_overlap k m b =
    rw (take-add k m b, zeros_append, zeros_split k b, zeros_split m (drop k b))
    (twice (all_zero (take k b)) (all_zero (take m (drop k b))) (all_zero (drop m (drop k b))))

-- whole blocks of n bytes, and the last n bytes
pub zeros_by_blocks : (n : ℕ) (b last : List ℕ) (chunks : List (List ℕ)) (blocks : Bool) → 0 < n → n ≤ length b
    → chunks ≡ first_chunks n (length b / n) b → last ≡ drop (length b - n) b → blocks ≡ list_all all_zero chunks
    → (blocks && all_zero last) ≡ all_zero b
zeros_by_blocks n b last chunks blocks some enough cut at each =
    let whole = length b / n * n in
    let both : length b - n + (whole - (length b - n)) ≡ whole = omega arith in
    rw (each, cut, at, zeros_blocks, ← both) (zeros_overlap (length b - n) (whole - (length b - n)) b)

-- ---- blocks of n bytes, as `chunks_exact` gives them

block_comes : (n : ℕ) (b block rest : List ℕ) → 0 < n → b ≡ block ++ rest → length block ≡ n
    → first_chunks n (length b / n) b ≡ block ∷ first_chunks n (length rest / n) rest
block_comes n b block rest some e l =
    let more : length (block ++ rest) / n ≡ suc (length rest / n) = rw (length-append, l) (add-div_left (length rest) some ∙ add-one _) in
    let t = ap (λ (m : ℕ). take m (block ++ rest)) (sym l) ∙ take-append_seam block rest in
    let d = ap (λ (m : ℕ). drop m (block ++ rest)) (sym l) ∙ drop-append_seam block rest in
    rw (e, more, t, d)

no_block : (n : ℕ) (b : List ℕ) → length b < n → length (first_chunks n (length b / n) b) ≡ 0
no_block n b h = let none : length b / n ≡ 0 = div-eq_of_lt h in rw none

pub blocks_come : {s : ChunksExact ℕ} (n : ℕ) (b : List ℕ) → 0 < n → chunks_exact_rest s ≡ b → chunks_exact_size s ≡ n
    → YieldsList chunks_exact_steps (λ x. x.now) s (first_chunks n (length b / n) b)
blocks_come {s} n b some e l =
    rw (← e) (YieldsList-from_shown_while chunks_exact_steps (λ x. x.now)
    (λ (t : ChunksExact ℕ). first_chunks n (length (chunks_exact_rest t) / n) (chunks_exact_rest t)) (λ (t : ChunksExact ℕ). chunks_exact_size t ≡ n)
    (λ t u k h. no_block n (chunks_exact_rest t) (omega arith))
    (λ t x u k h. (h.0 ∙ k, block_comes n (chunks_exact_rest t) x.now (chunks_exact_rest u) some h.1.0 (h.1.1 ∙ k)))
    s l)
