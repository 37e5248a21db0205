-- The loop over the records of a run: what is written and what is still to come are the lines of the whole input.
-- The start, a turn and the two ends, over plain variables.
use Rattle.rows.proofs.Prelude.{◌≡◌, refl, ap, ◌∙◌, cond, List, [], ◌∷◌, ◌++◌, append_assoc, append-nil, ℕ, zero, suc, ◌+◌, ◌-◌, ◌*◌, ◌≤◌, ◌<◌, min, arith}
use Rattle.rows.proofs.Prelude.{length, length-append, length-drop, eq-eqb, ne_eqb}
use Rattle.rules.specs.declared.Tables.{Tables}
use Rattle.rules.specs.Defaults.{no_defaults, fresh}
use Rattle.rules.specs.Outcome.{tables_after}
use Rattle.std.specs.Prelude.{Some, None, Ok, Err}
use borrow.Author.Tests.{ltb-false}
use Rattle.report.specs.declared.Judged.{Judged}
use Rattle.report.specs.declared.records.Record.{Record}
use Rattle.report.specs.declared.records.Cut.{Cut}
use Rattle.report.specs.Records.{gives}
use Rattle.report.specs.Judged.{judged_as}
use Rattle.text.specs.Text.{ascii, decimal}
use Rattle.text.specs.Buffer.{written, largest, Puts}
use Rattle.text.proofs.Decimals.{decimal_length}
use Rattle.text.proofs.Buffers.{puts_then, puts_length, Writing, writing_start, writing_step, writing_end}
use Rattle.report.specs.Run.{header, line, line_for, cut, lent, length_of, first_of, rest_of, is_cut}
use Rattle.report.specs.Run.{lines_from, lines, run_text}
use Rattle.report.specs.Fits.{LineFits, LinesFit, Whole}

-- ---- a line

-- four numbers, each with the byte after it
pub line_numbers : (number a p s : ℕ)
    → decimal number ++ 32 ∷ [] ++ (decimal a ++ 32 ∷ []) ++ (decimal p ++ 32 ∷ []) ++ (decimal s ++ 10 ∷ []) ≡ line number a p s
unfolding line ascii
line_numbers number a p s = simp append_assoc

pub line_length : (number a p s : ℕ) → a < 256 → p < 256 → s < 256 → LineFits number a p s
line_length number a p s h k l m =
    rw (← (line_numbers number a p s))
    (simp length-append
    (omega (arith, decimal_length 4 number m, decimal_length 2 a (omega arith), decimal_length 2 p (omega arith), decimal_length 2 s (omega arith))))

cut_length : length cut ≡ 4
unfolding cut ascii
cut_length = refl

-- ---- the loop

-- `rest` is still to be judged, on the tables t, from `place` on, and its lines are to be put at p
pub record Running (s o : List ℕ) (at : ℕ) (out : List ℕ) (p : ℕ) (t : Tables) (rest : List ℕ) (number : ℕ) : Type 0 where
  pub steps : ℕ
  pub enough : length rest ≤ steps
  pub writing : Writing o at (lines s) (lines_from steps t number rest) out p
  -- each number took a byte at least, so there are no more than bytes
  pub numbers : number + length rest ≤ length s + 1
  -- four bytes of text at most for each byte of the input
  pub short : length s ≤ 32768 → length (lines s) + 4 * length rest ≤ 131072 + length (lines_from steps t number rest)

pub run_start : (s o : List ℕ) {at : ℕ} {t : Tables} → length o ≤ largest → at ≤ largest → t ≡ fresh no_defaults → Running s o at o at t s 1
unfolding lines
run_start s o {at} h l e = rw e record {
  steps = length s;
  enough = omega arith;
  writing = writing_start o at (lines s) h l;
  numbers = omega arith;
  short = λ k. omega arith;
}

lines_end : (k : ℕ) (t : Tables) (number : ℕ) (s : List ℕ) → length s ≤ 0 → lines_from k t number s ≡ []
unfolding lines_from
lines_end zero t number s h = refl
lines_end (suc k) t number s h = rw (eq-eqb (length s) 0 (omega arith))

module _ {s o : List ℕ} {at : ℕ} {out : List ℕ} {p : ℕ} {t : Tables} {rest : List ℕ} {number : ℕ} (i : Running s o at out p t rest number) where
  -- one step of the definition
  step : 0 < length rest
      → lines_from i.steps t number rest
      ≡ cond (is_cut rest) cut (line_for t number (first_of rest) ++ lines_from (i.steps - 1) (tables_after no_defaults t (first_of rest)) (number + 1) (rest_of rest))
  unfolding lines_from
  step h =
      let k : i.steps ≡ suc (i.steps - 1) = omega (arith, i.enough) in
      let z : length rest ≡ 0 → ⊥ = λ e. omega arith in
      ap (λ (n : ℕ). lines_from n t number rest) k ∙ rw (ne_eqb (length rest) 0 z)

  -- no more of the input is left
  pub run_end : {rest' : List ℕ} → gives rest None rest' → Puts o at (lines s) out p × LinesFit s
  run_end g =
      let e = lines_end i.steps t number rest (omega arith) in
      (writing_end i.writing e, λ k. omega (arith, i.short k, ap length e))

  -- a record that is not all there
  pub run_cut : {out' : List ℕ} {r : ℕ} {rest' : List ℕ} {x : Cut} → gives rest (Some (Err x)) rest'
      → Puts out p cut out' r
      → Running s o at out' r t rest' (number + 1)
  run_cut {out'} {r} {rest'} g q =
      let none : length rest' ≡ 0 = ap length g.2 in
      let more = lines_from i.steps t (number + 1) rest' in
      let ends : more ≡ [] = lines_end i.steps t (number + 1) rest' (omega arith) in
      let e : lines_from i.steps t number rest ≡ cut ++ more = rw (step g.0, g.1, ends, append-nil) in
      record {
        steps = i.steps;
        enough = omega arith;
        writing = writing_step cut more i.writing e q;
        numbers = omega (arith, i.numbers);
        short = λ k. omega (arith, i.short k, ap length e ∙ length-append cut more, cut_length);
      }

  -- a record, and what the judge says of it
  pub run_turn : {out' : List ℕ} {r : ℕ} {rest' : List ℕ} (g : Record) {j : Judged} → gives rest (Some (Ok g)) rest'
      → j ≡ judged_as t (lent g.clock g.bytes.now)
      → Puts out p (line number j.answer j.permission j.tables.state) out' r
      → LineFits number j.answer j.permission j.tables.state
      → Running s o at out' r j.tables rest' (number + 1)
  run_turn {out'} {r} {rest'} g {j} w e q l =
      let c : 6 + length_of rest ≤ length rest = ltb-false (length rest) (6 + length_of rest) w.1 in
      let taken = 6 + length_of rest in
      let len : length rest' ≡ length rest - taken = ap length w.4 ∙ length-drop taken rest in
      let text = line number j.answer j.permission j.tables.state in
      let more = lines_from (i.steps - 1) j.tables (number + 1) rest' in
      let two : lines_from i.steps t number rest ≡ text ++ more = rw (e, w.4, w.2, w.3, step w.0, w.1) in
      record {
        steps = i.steps - 1;
        enough = omega (arith, i.enough);
        writing = writing_step text more i.writing two q;
        numbers = omega (arith, i.numbers);
        short = λ k. omega (arith, i.short k, i.numbers, l (omega (arith, i.numbers)), ap length two ∙ length-append text more);
      }

-- ---- the header and the lines

header_length : length header ≡ 20
unfolding header ascii
header_length = refl

-- r bytes of the whole text are in the buffer
pub run_whole : (s : List ℕ) {o o₁ o₂ : List ℕ} {p q r : ℕ} → length o ≤ largest
    → Puts o 0 header o₁ p → Puts o₁ p (lines s) o₂ q × LinesFit s → r ≡ min q (length o₂)
    → (r ≡ min (length (run_text s)) (length o))
    × (o₂ ≡ written o 0 (run_text s))
    × Whole s o r
unfolding run_text
run_whole s {o} {o₁} {o₂} {p} {q} {r} h f g e =
    let w = puts_then h f g.0 in
    let same = puts_length w in (
      omega (arith, w.next),
      w.buffer,
      λ k l. omega (arith, w.next, length-append header (lines s), header_length, g.1 k),
    )
