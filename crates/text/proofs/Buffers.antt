-- Laws of texts put into a buffer one after the other, and how much of it is written.
-- A writer's proof composes what its calls ensure by `puts_then`; a loop's keeps `Writing`.
use mathlib.Core.Path.{◌≡◌, refl, ap, sym, ◌∙◌}
use mathlib.Core.List.{List, [], ◌∷◌, ◌++◌, append_assoc, append-nil}
use Prim.Native.Nat.{ℕ, zero, suc, ◌+◌, ◌-◌, ◌≤◌, min}
use native.Mathlib.Omega.{arith}
use lib.ListN.{length, take, drop, set, length-append}
use borrow.Rule.Slice.PartMut.{put_mid}
use Rattle.text.specs.Buffer.{written, largest, Puts}

-- ---- the buffer

written_none : (o : List ℕ) (at : ℕ) → written o at [] ≡ o
unfolding written
written_none [] at = refl
written_none (b ∷ o) zero = refl
written_none (b ∷ o) (suc at) = ap (λ (l : List ℕ). b ∷ l) (written_none o at)

written_one : (o : List ℕ) (at b : ℕ) → written o at (b ∷ []) ≡ set o at b
unfolding written
written_one [] at b = refl
written_one (x ∷ o) zero b = ap (λ (l : List ℕ). b ∷ l) (written_none o 0)
written_one (x ∷ o) (suc at) b = ap (λ (l : List ℕ). x ∷ l) (written_one o at b)

pub written_length : (o : List ℕ) (at : ℕ) (s : List ℕ) → length (written o at s) ≡ length o
unfolding written
written_length [] at s = refl
written_length (b ∷ o) zero [] = refl
written_length (b ∷ o) zero (x ∷ s) = ap suc (written_length o zero s)
written_length (b ∷ o) (suc at) s = ap suc (written_length o at s)

-- a text and then another at k, which is past the first as far as the buffer goes, are their join
written_then : (o : List ℕ) (at : ℕ) (s t : List ℕ) (k : ℕ) → min k (length o) ≡ min (at + length s) (length o)
    → written (written o at s) k t ≡ written o at (s ++ t)
unfolding written
written_then [] at s t k e = refl
written_then (b ∷ o) zero [] t k e = let z : k ≡ 0 = omega arith in ap (λ (n : ℕ). written (b ∷ o) n t) z
written_then (b ∷ o) zero (x ∷ s) t zero e = absurd (omega arith)
written_then (b ∷ o) zero (x ∷ s) t (suc k) e = ap (λ (l : List ℕ). x ∷ l) (written_then o zero s t k (omega arith))
written_then (b ∷ o) (suc at) s t zero e = absurd (omega arith)
written_then (b ∷ o) (suc at) s t (suc k) e = ap (λ (l : List ℕ). b ∷ l) (written_then o at s t k (omega arith))

-- a text that fits is at the start, and after it what stood there
pub written_start : (o s : List ℕ) → length s ≤ length o → written o 0 s ≡ s ++ drop (length s) o
unfolding written
written_start [] [] h = refl
written_start [] (x ∷ s) h = absurd (omega arith)
written_start (b ∷ o) [] h = refl
written_start (b ∷ o) (x ∷ s) h = ap (λ (l : List ℕ). x ∷ l) (written_start o s (omega arith))

-- past the end nothing is written
written_past : (o : List ℕ) (at : ℕ) (s : List ℕ) → length o ≤ at → written o at s ≡ o
unfolding written
written_past [] at s h = refl
written_past (b ∷ o) zero s h = absurd (omega arith)
written_past (b ∷ o) (suc at) s h = ap (λ (l : List ℕ). b ∷ l) (written_past o at s (omega arith))

-- a text, as one copy of the part that fits: n bytes from a on
written_copied : (o : List ℕ) (at : ℕ) (s : List ℕ) (a n : ℕ) → a ≡ min at (length o) → n ≡ min (length s) (length o - a)
    → put_mid a n o (take n s) ≡ written o at s
unfolding written
written_copied [] at s a n e f = let z : a ≡ 0 = omega arith in let w : n ≡ 0 = omega arith in rw (z, w)
written_copied (b ∷ o) zero [] a n e f = let z : a ≡ 0 = omega arith in let w : n ≡ 0 = omega arith in rw (z, w)
written_copied (b ∷ o) zero (x ∷ s) zero zero e f = absurd (omega arith)
written_copied (b ∷ o) zero (x ∷ s) zero (suc n) e f = ap (λ (l : List ℕ). x ∷ l) (written_copied o zero s 0 n (omega arith) (omega arith))
written_copied (b ∷ o) zero (x ∷ s) (suc a) n e f = absurd (omega arith)
written_copied (b ∷ o) (suc at) s zero n e f = absurd (omega arith)
written_copied (b ∷ o) (suc at) s (suc a) n e f = ap (λ (l : List ℕ). b ∷ l) (written_copied o at s a n (omega arith) (omega arith))

-- ---- what the writers ensure

pub puts_none : (o : List ℕ) {at : ℕ} → at ≤ largest → Puts o at [] o at
puts_none o {at} h = record { next = omega arith; buffer = sym (written_none o at) }

pub puts_one : (o : List ℕ) (at b : ℕ) {r : ℕ} → r ≡ min (at + 1) largest → Puts o at (b ∷ []) (set o at b) r
puts_one o at b e = record { next = e; buffer = sym (written_one o at b) }

pub puts_beyond : (o : List ℕ) (at : ℕ) (s : List ℕ) {r : ℕ} → length o ≤ at → r ≡ min (at + length s) largest → Puts o at s o r
puts_beyond o at s h e = record { next = e; buffer = sym (written_past o at s h) }

-- k bytes x from a on, which are the part of the text that fits
pub puts_copied : {o t x : List ℕ} {at a k n r : ℕ} → a ≡ min at (length o) → n ≡ min (length t) (length o - a) → k ≡ n → x ≡ take n t
    → r ≡ min (at + length t) largest → Puts o at t (put_mid a k o x) r
puts_copied {o} {t} {x} {at} {a} {k} {n} e f g h i = record { next = i; buffer = rw (g, h) (written_copied o at t a n e f) }

pub puts_then : {o s t o₁ o₂ : List ℕ} {at r₁ r₂ : ℕ} → length o ≤ largest → Puts o at s o₁ r₁ → Puts o₁ r₁ t o₂ r₂
    → Puts o at (s ++ t) o₂ r₂
puts_then {o} {s} {t} {o₁} {o₂} {at} {r₁} {r₂} h p q = record {
  next = simp length-append (omega (arith, p.next, q.next));
  buffer = q.buffer ∙ ap (λ (w : List ℕ). written w r₁ t) p.buffer ∙ written_then o at s t r₁ (omega (arith, p.next));
}

pub puts_length : {o s o' : List ℕ} {at r : ℕ} → Puts o at s o' r → length o' ≡ length o
puts_length {o} {s} {o'} {at} p = ap length p.buffer ∙ written_length o at s

-- ---- on the way: of the whole text that is to be from `at` on, `rest` is still to be put, at p
pub record Writing (o : List ℕ) (at : ℕ) (whole rest out : List ℕ) (p : ℕ) : Type 0 where
  pub bound : length o ≤ largest
  pub done : List ℕ
  pub puts : Puts o at done out p
  pub parts : done ++ rest ≡ whole

pub writing_start : (o : List ℕ) (at : ℕ) (whole : List ℕ) → length o ≤ largest → at ≤ largest → Writing o at whole whole o at
writing_start o at whole h l = record { bound = h; done = []; puts = puts_none o l; parts = refl }

-- `rest` is s and then t, and s is put
pub writing_step : {o whole rest out out' : List ℕ} {at p p' : ℕ} (s t : List ℕ) → Writing o at whole rest out p → rest ≡ s ++ t
    → Puts out p s out' p' → Writing o at whole t out' p'
writing_step s t w e q = record {
  bound = w.bound;
  done = w.done ++ s;
  puts = puts_then w.bound w.puts q;
  parts = rw (append_assoc, ← e) w.parts;
}

pub writing_end : {o whole rest out : List ℕ} {at p : ℕ} → Writing o at whole rest out p → rest ≡ [] → Puts o at whole out p
writing_end w e = rw (← w.parts, e, append-nil) w.puts

pub writing_length : {o whole rest out : List ℕ} {at p : ℕ} → Writing o at whole rest out p → length out ≡ length o
writing_length w = puts_length w.puts
