-- Theorems of the C functions for lists: the office's text tells the access rows apart (U6), and the rows made of an older list give every
-- sender what the old list gave (U12).
use Rattle.rows.proofs.Prelude.{◌≡◌, refl, sym, ap, ◌∙◌, true, List, ℕ, ◌≤◌, ◌<◌, arith, length, take, drop, get_or, take_at, ltb, bool_cases}
use Rattle.rows.specs.Rows.{Row, union_of}
use Rattle.rules.specs.declared.Sender.{Sender}
use Rattle.rules.specs.declared.Table.TheVariants.{Aces}
use Rattle.rules.specs.Directory.{resource_of}
use Rattle.rules.specs.Tables.{rows}
use Rattle.rules.specs.Reading.{filled}
use Rattle.rules.specs.Permission.{sender_row_in, connection_of, grants}
use Rattle.rules.specs.Checks.{verdict, number_of}
use Rattle.rules_terminal.specs.Terminal.{Terminal, sound_terminal}
use Rattle.rules_terminal.proofs.Sound.{terminal_parts}
use Rattle.rules_office.specs.Office.{office_verdict, office_reply, office_text, rows_written}
use Rattle.rules_office.specs.Written.{all, is_byte}
use Rattle.rules_office.proofs.Injective.{tables_injective}
use Rattle.rules_lists.specs.Lists.{listed}
use Rattle.rules_legacy.specs.OldList.{old_union}
use Rattle.rules_legacy.specs.Conversion.{conversion_reply, rows_made}
use Rattle.rules_legacy.proofs.SameUnion.{same_union}
use Rattle.rules_legacy.proofs.Answered.{converted, rows_listed}
use Rattle.rules_interface.specs.Memory.{Memory, terminal_at}
use Rattle.rules_interface.specs.Interface.{ListsAt, ConvertsAt}
use Rattle.rules_interface.specs.Judged.{tables_on}

-- the bytes of a text in the buffer, as many as are reported
text_out : (lent text buffer : List ℕ) (n : ℕ) → buffer ≡ filled lent text → n ≡ length text → take n buffer ≡ text
unfolding filled
text_out lent text buffer n f e = rw (f, e) (take_at text (drop (length text) lent) (length text) refl)

-- ---- the office's list

-- 0: the terminal is sound, and the text is given out
office_zero : (x : Terminal) (capacity : ℕ) → number_of (office_verdict x capacity) ≡ 0
    → (sound_terminal x ≡ true) × (office_reply x capacity ≡ office_text x.tables)
unfolding office_verdict office_reply verdict
office_zero x capacity e =
    bool_cases (sound_terminal x)
    (λ h. bool_cases (ltb capacity (length (office_text x.tables))) (λ a. absurd (omega (arith, rw (h, a) at e))) (λ a. (h, rw (h, a))))
    (λ h. absurd (omega (arith, rw h at e)))

module _ (m : Memory) (words lent buffer : List ℕ) (lists : ListsAt m words lent buffer) (z : get_or words 0 0 ≡ 0) where
  office_text_lem : (sound_terminal (terminal_at m) ≡ true) × (take (get_or words 1 0) buffer ≡ office_text (tables_on m))
  office_text_lem =
      let x = terminal_at m in
      let told = ap (λ (l : List ℕ). get_or l 0 0) lists.says in
      let o = office_zero x (length lent) (sym told ∙ z) in
      (o.0, text_out lent (office_reply x (length lent)) buffer _ lists.fills (ap (λ (l : List ℕ). get_or l 1 0) lists.says) ∙ o.1)

-- two calls that are answered with 0 and hand out the same text: the tables have the same access rows, except for those left out
pub c_lists_injective :
    (m n : Memory) (words lent buffer words' lent' buffer' : List ℕ)
    → ListsAt m words lent buffer
    → ListsAt n words' lent' buffer'
    → get_or words 0 0 ≡ 0
    → get_or words' 0 0 ≡ 0
    → take (get_or words 1 0) buffer ≡ take (get_or words' 1 0) buffer'
    → all is_byte m.aces ≡ true
    → all is_byte n.aces ≡ true
    → rows_written (rows Aces (tables_on m)) ≡ rows_written (rows Aces (tables_on n))
c_lists_injective m n words lent buffer words' lent' buffer' a b z z' e h k =
    let one = office_text_lem m words lent buffer a z in
    let two = office_text_lem n words' lent' buffer' b z' in
    tables_injective (tables_on m) (tables_on n) (terminal_parts (terminal_at m) one.0).tables (terminal_parts (terminal_at n) two.0).tables h k
    (sym one.1 ∙ e ∙ two.1)

-- ---- an older list

-- a call that is answered with 0: the rows in the buffer give every sender, on every resource and at every clock, what the old list gave
pub c_same_union :
    (f words lent buffer : List ℕ)
    → ConvertsAt f words lent buffer
    → get_or words 0 0 ≡ 0
    → (clock n : ℕ)
    → clock ≤ 4294967295
    → n < 64
    → (ws : List Row) (s : Sender)
    → union_of (grants clock (sender_row_in ws s) (connection_of s) (resource_of n)) (listed (take (get_or words 1 0) buffer))
    ≡ old_union (sender_row_in ws s) (connection_of s) n f
c_same_union f words lent buffer c z clock n h k ws s =
    let o = converted f (length lent) (sym (ap (λ (l : List ℕ). get_or l 0 0) c.says) ∙ z) in
    let e = text_out lent (conversion_reply f (length lent)) buffer _ c.fills (ap (λ (l : List ℕ). get_or l 1 0) c.says) in
    let are : listed (take (get_or words 1 0) buffer) ≡ rows_made f = ap listed (e ∙ o.response) ∙ rows_listed f in
    ap (union_of (grants clock (sender_row_in ws s) (connection_of s) (resource_of n))) are ∙ same_union clock n h k ws s f
