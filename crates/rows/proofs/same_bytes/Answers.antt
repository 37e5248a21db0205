-- `same_bytes`: slices of different lengths are not the same, and a turn compares one byte.
use Rattle.rows.proofs.Prelude.{◌≡◌, refl, sym, ◌∙◌, false, ◌&&◌, and-false, List, [], ◌∷◌, ℕ, ◌+◌, ◌<◌, add-one, length, drop, get_or, drop_of_length-le}
use Rattle.rows.proofs.Prelude.{drop-cons, eqb, eq-eqb, ne_eqb, arith}
use Rattle.rows.specs.Rows.{same}
use Rattle.rows.proofs.same_bytes.Goals as goal

apart : (a b : List ℕ) → (length a ≡ length b → ⊥) → false ≡ same a b
unfolding same
apart [] [] h = absurd (h refl)
apart [] (y ∷ b) h = refl
apart (x ∷ a) [] h = refl
apart (x ∷ a) (y ∷ b) h = rw (← apart a b (λ e. h (omega arith)), and-false)

-- the first byte of what is left, and the bytes after it
left : (a b : List ℕ) (i : ℕ) → i < length a → length a ≡ length b
    → same (drop i a) (drop i b) ≡ (eqb (get_or a i 0) (get_or b i 0) && same (drop (i + 1) a) (drop (i + 1) b))
unfolding same
left a b i h l = rw (drop-cons a i 0 h, drop-cons b i 0 (rw l at h), add-one)

pub returns-then-a-b : goal.returns-then-a-b
returns-then-a-b c = apart _ _ c.if-a-b.true

pub returns-then-a-i : goal.returns-then-a-i
returns-then-a-i c =
    sym (c.loop-i.invariant ∙ left _ _ _ c.loop-i-test.true c.if-a-b.false ∙ rw (ne_eqb _ _ c.if-a-i.true))

pub loop-i-preserved : goal.loop-i-preserved
loop-i-preserved c =
    c.loop-i.invariant ∙ left _ _ _ c.loop-i-test.true c.if-a-b.false ∙ rw (eq-eqb _ _ c.if-a-i.false)

pub returns : goal.returns
unfolding same
returns c =
    let a = c.args.a.now in
    let b = c.args.b.now in
    let i = c.loop-i.i in
    sym (c.loop-i.invariant ∙ rw (drop_of_length-le a {i = i} (omega (arith, c.loop-i-test.false)), drop_of_length-le b {i = i} (omega (arith, c.loop-i-test.false, c.if-a-b.false))))
