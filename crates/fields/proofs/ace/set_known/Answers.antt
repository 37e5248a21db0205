-- `ace::set_known`: the ranges between and after the known numbers are fields of zeros, and the bytes of such a field are 0 too.
use Rattle.rows.proofs.Prelude.{◌≡◌, sym, ap, ◌∙◌, Bool, ◌&&◌, List, ℕ, zero, suc, ◌+◌, ◌*◌, ◌%◌, ◌<◌, arith, get_or, eqb, bit_or, rules, ne_eqb}
use native.Mathlib.Nat.{zero-add}
use Rattle.rows.proofs.AllZero.{zero_both}
use Rattle.rules.specs.Bits.{bits}
use Rattle.rules.specs.Bodies.{set_known}
use Rattle.rules.proofs.BitLaws.{bits_split, bits_in_byte, bits_byte, bits_word}
use Rattle.rules.proofs.SetLaws.{set_ranges}
use Rattle.fields.proofs.ace.set_known.Goals as goal

-- a number of two bytes is 0 where they are
zero_pair : (x y : ℕ) → eqb (x * 256 + y) 0 ≡ (eqb x 0 && eqb y 0)
zero_pair zero y = ap (λ (n : ℕ). eqb n 0) (zero-add y)
zero_pair (suc x) y =
    ne_eqb (suc x * 256 + y) 0 (λ e. absurd (omega arith)) ∙ ap (λ (t : Bool). t && eqb y 0) (sym (ne_eqb (suc x) 0 (λ e. absurd (omega arith))))

module _ (r : List ℕ) where
  word_zero : (a : ℕ) → get_or r a 0 < 256 → get_or r (a + 1) 0 < 256 → eqb (bits r (8 * a) 16) 0 ≡ (eqb (get_or r a 0) 0 && eqb (get_or r (a + 1) 0) 0)
  word_zero a h l = rw (bits_word r a h l) (zero_pair (get_or r a 0) (get_or r (a + 1) 0))

  by_bytes : get_or r 7 0 < 256 → get_or r 8 0 < 256 → get_or r 9 0 < 256 → get_or r 10 0 < 256 → get_or r 11 0 < 256
      → eqb (bit_or (bit_or (bit_or (bit_or (get_or r 4 0 % 8) (get_or r 5 0 % 2)) (bit_or (get_or r 6 0 % 128) (get_or r 7 0)))
      (bit_or (get_or r 8 0) (get_or r 9 0))) (bit_or (get_or r 10 0) (get_or r 11 0))) 0 ≡ set_known r 64
  by_bytes h7 h8 h9 h10 h11 =
      let three : bits r 37 3 ≡ get_or r 4 0 % 8 = bits_in_byte r 4 5 3 (omega arith) ∙ omega arith in
      let one : bits r 47 1 ≡ get_or r 5 0 % 2 = bits_in_byte r 5 7 1 (omega arith) ∙ omega arith in
      let seven : bits r 49 7 ≡ get_or r 6 0 % 128 = bits_in_byte r 6 1 7 (omega arith) ∙ omega arith in
      let fifteen : bits r 49 15 ≡ get_or r 6 0 % 128 * 256 + get_or r 7 0 = bits_split r 49 7 8 ∙ rw (seven, bits_byte r 7 h7) in
      simp zero_both (rw (set_ranges r, three, one, fifteen, zero_pair, word_zero 8 h8 h9, word_zero 10 h10 h11))

pub returns : goal.returns
returns c =
    rw (
      c.byte_at.ensures,
      c.byte_at-2.ensures,
      c.byte_at-3.ensures,
      c.byte_at-4.ensures,
      c.byte_at-5.ensures,
      c.byte_at-6.ensures,
      c.byte_at-7.ensures,
      c.byte_at-8.ensures,
    )
    (by_bytes _ (search rules) (search rules) (search rules) (search rules) (search rules))
