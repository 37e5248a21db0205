-- The text of the rows that are left, and what the entry point ends with.
use Rattle.rows.proofs.Prelude.{◌≡◌, ap, ◌∙◌, Bool, true, false, ◌&&◌, cond, List, [], ◌∷◌, ◌++◌, map, append_assoc, append-nil, ℕ, ◌-◌, ◌≤◌, ◌<◌, min, arith}
use Rattle.rows.proofs.Prelude.{length, take, drop, ltb, ltb-false, bool_cases}
use Rattle.text.specs.Text.{ascii}
use Rattle.text.specs.Buffer.{largest, Puts}
use Rattle.text.proofs.Buffers.{puts_then, written_start}
use Rattle.rows.specs.Rows.{Row, rows_of, without, joined}
use Rattle.rows.proofs.Laws.{take_rest, rows_of_suc}
use Rattle.rules.specs.declared.Table.TheVariants.{Aces}
use Rattle.rules.specs.Tables.{rows_in}
use Rattle.rules_terminal.specs.Terminal.{Terminal, sound_terminal}
use Rattle.rules.specs.Reading.{filled}
use Rattle.rules.specs.Checks.{verdict, number_of}
use Rattle.rules_office.specs.Office.{comma, separated, row_text, rows_text, list_text, seasonal, rows_written, office_text, office_verdict, office_reply}
use Rattle.rules_office.proofs.Bounds.{text_short}
use Rattle.rules.specs.Sizes.{ace_row_size}

-- the text of these rows, those of a shorter period left out
abbrev pub entries : Bool → List Row → List ℕ
entries first rows = separated first (map row_text (rows_written rows))

-- what one row adds
abbrev pub entry : Bool → Row → List ℕ
entry first w = cond (seasonal w) [] (comma first ++ row_text w)

-- of a walk over them: the next one, and the others
pub entries_next : (first : Bool) {w : Row} {others rows : List Row} → rows ≡ w ∷ others
    → entries first rows ≡ entry first w ++ entries (seasonal w && first) others
unfolding without
entries_next first {w = w} e = rw e (bool_cases (seasonal w) (λ s. rw s) (λ s. rw s))

pub entries_end : (first : Bool) {rows : List Row} → rows ≡ [] → entries first rows ≡ []
unfolding without
entries_end first e = rw e

-- the list, in the three parts in which the code puts it
pub list_puts : {o o₁ o₂ o₃ : List ℕ} {at r₁ r₂ r₃ : ℕ} (rows : List Row) → length o ≤ largest
    → Puts o at (ascii "{\"aclist2\":[") o₁ r₁ → Puts o₁ r₁ (rows_text (rows_written rows)) o₂ r₂ → Puts o₂ r₂ (ascii "]}") o₃ r₃
    → Puts o at (list_text (rows_written rows)) o₃ r₃
unfolding list_text joined
list_puts rows h p q r =
    rw (append-nil, ← append_assoc (ascii "{\"aclist2\":[") (rows_text (rows_written rows)) (ascii "]}")) (puts_then h (puts_then h p q) r)

-- ---- the three ends

abbrev reply : Terminal → List ℕ → List ℕ
reply x o = office_reply x (length o)

-- the terminal x, the buffer o before and o' after, and the result
abbrev pub Ends : Terminal → List ℕ → List ℕ → ℕ → ℕ → Type 0
Ends x o o' answer n = record {
  answer : answer ≡ number_of (office_verdict x (length o));
  length : n ≡ length (reply x o);
  buffer : o' ≡ filled o (reply x o);
}

module _ (x : Terminal) (o : List ℕ) where
  pub not_sound : sound_terminal x ≡ false → Ends x o o 17 0
  unfolding office_reply office_verdict verdict filled
  not_sound e = record { answer = rw e; length = rw e; buffer = rw e }

  pub too_short : sound_terminal x ≡ true → ltb (length o) (length (office_text x.tables)) ≡ true → Ends x o o 18 0
  unfolding office_reply office_verdict verdict filled
  too_short e l = record { answer = rw (e, l); length = rw (e, l); buffer = rw (e, l) }

  pub all_written : {o' : List ℕ} (r : ℕ) → sound_terminal x ≡ true → ltb (length o) (length (office_text x.tables)) ≡ false
      → Puts o 0 (office_text x.tables) o' r → Ends x o o' 0 r
  unfolding office_reply office_verdict verdict filled
  all_written r e l p =
      let f = ltb-false (length o) (length (office_text x.tables)) l in
      let n : r ≡ length (office_text x.tables) = omega (arith, p.next, text_short x.tables) in
      record { answer = rw (e, l); length = rw (e, l) n; buffer = rw (e, l) (p.buffer ∙ written_start o (office_text x.tables) f) }
