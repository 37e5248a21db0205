-- Theorem, U6: lists with different rows never give the same text.
-- For rows that a body could store and that hold for every second; that they are bytes is what the struct's types give.
use Rattle.rows.proofs.Prelude.{◌≡◌, refl, sym, ap, ◌∙◌, Bool, true, false, not, ◌&&◌, List, ◌∷◌, ◌++◌, append_assoc, append_cancel_left, tail-eq_of_cons-eq, ℕ}
use Rattle.rows.proofs.Prelude.{zero, suc, ◌+◌, min, length, take, drop, get_or, eqb, eqb-true, and_left, and_right, and_both, cond_cases, not-false}
use Rattle.text.specs.Text.{ascii}
use Rattle.rows.specs.Rows.{Row, rows_of, every, without, joined, same}
use Rattle.rules.specs.declared.Tables.{Tables}
use Rattle.rules.specs.declared.Table.TheVariants.{Aces}
use Rattle.rules.specs.Bits.{bit, bits}
use Rattle.rules.specs.Bodies.{row_number, ace_permission, in_set, set_known, subject_storable, ace_storable, ace_first, ace_last}
use Rattle.rules.specs.Tables.{rows_in, rows, sound, storable}
use Rattle.rules.proofs.BitLaws.{bits_small, bit_small}
use Rattle.rules.proofs.SetLaws.{set_ranges}
use Rattle.rules.proofs.Answers.{table_parts}
use Rattle.rules_office.specs.Office.{href, choices, chosen, picked, braced, resources_text, row_text, rows_text, list_text, always, seasonal, rows_written}
use Rattle.rules_office.specs.Office.{office_text}
use Rattle.rules_office.specs.Written.{all, is_byte, stored_row}
use Rattle.rules_office.proofs.Codes.{span, elements_told, all_picked, different, picked_told}
use Rattle.rules_office.proofs.Decimals.{decimal_told}
use Rattle.rules_office.proofs.Agree.{Agree, agree_none, agree_bit, agree_field, agree_all}
use Rattle.rules_office.proofs.Subjects.{SubjectSame, subject_told, bit_same, all_take, all_drop}
use Rattle.rules.specs.Sizes.{ace_row_size}

-- ---- resources

-- no "}" inside
abbrev plain : List ℕ → Bool
plain x = all (λ b. not (eqb b 125)) x

braced_told : (x y s t : List ℕ) → plain x ≡ true → plain y ≡ true → braced x ++ s ≡ braced y ++ t → (x ≡ y) × (s ≡ t)
unfolding braced joined ascii
braced_told x y s t hx hy e =
    let r = span (λ b. not (eqb b 125)) x y hx hy refl refl (tail-eq_of_cons-eq (simp append_assoc at e)) in
    (r.0, tail-eq_of_cons-eq r.1)

choices_plain : all plain choices ≡ true
unfolding choices href joined ascii
choices_plain = refl

choices_different : different choices ≡ true
unfolding choices href joined ascii same
choices_different = refl

chosen_length : (w : Row) → length (chosen w) ≡ length choices
unfolding choices chosen
chosen_length w = refl

resources_told : (w v : Row) (s t : List ℕ) → resources_text w ++ 93 ∷ s ≡ resources_text v ++ 93 ∷ t → (chosen w ≡ chosen v) × (s ≡ t)
unfolding resources_text braced joined ascii
resources_told w v s t e =
    let r =
    elements_told braced plain (λ x s. refl) braced_told true (picked (chosen w) choices) (picked (chosen v) choices) s t
    (all_picked plain (chosen w) choices choices_plain) (all_picked plain (chosen v) choices choices_plain) e
    in
    (picked_told (chosen w) (chosen v) choices (chosen_length w) (chosen_length v) choices_different r.0, r.1)

-- ---- rows

record Stored (w : Row) : Type 0 where
  size : length w ≡ ace_row_size
  zeros : bits w 26 6 ≡ 0
  set : set_known w 64 ≡ true
  subject : subject_storable w ≡ true
  bytes : all is_byte w ≡ true
  first : ace_first w ≡ 0
  last : ace_last w ≡ 4294967295

stored : (w : Row) → stored_row w ≡ true → Stored w
unfolding stored_row ace_storable always
stored w h =
    let row = and_left (ace_storable w) _ (and_left (ace_storable w && all is_byte w) _ h) in
    let period = and_right (ace_storable w && all is_byte w) _ h in
    search (and_left, and_right, eqb-true)

-- the numbers that are not in the set
record Ranges (w : Row) : Type 0 where
  below8 : bits w 37 3 ≡ 0
  fifteen : bits w 47 1 ≡ 0
  below32 : bits w 49 15 ≡ 0
  below48 : bits w 64 16 ≡ 0
  below64 : bits w 80 16 ≡ 0

ranges : (w : Row) → set_known w 64 ≡ true → Ranges w
ranges w h = let k = sym (set_ranges w) ∙ h in search (and_left, and_right, eqb-true)

module _ (w v : Row) (gw : Stored w) (gv : Stored v) (c : chosen w ≡ chosen v) where
  -- the flag of each choice
  flag : (k : ℕ) → get_or (chosen w) k false ≡ get_or (chosen v) k false
  flag k = ap (λ (bs : List Bool). get_or bs k false) c

  in_set_lem : (n : ℕ) → in_set w n ≡ in_set v n → bit w (32 + n) ≡ bit v (32 + n)
  in_set_lem n e = bit_same (bit w (32 + n)) (bit v (32 + n)) (bit_small w (32 + n)) (bit_small v (32 + n)) e

  wildcard : (i : ℕ) → eqb (bits w i 1) 1 ≡ eqb (bits v i 1) 1 → bits w i 1 ≡ bits v i 1
  wildcard i e = bit_same (bits w i 1) (bits v i 1) (bits_small w i 1) (bits_small v i 1) e

  -- the set of resources: the known numbers by their flags, the others are zeros
  set_agrees : Agree w v 32 → Agree w v 96
  unfolding chosen
  set_agrees a =
      let rw' = ranges w gw.set in
      let rv = ranges v gv.set in
      let one = agree_bit w v in
      let field = agree_field w v in
      let b : Agree w v 36 = one 35 (one 34 (one 33 (one 32 a (in_set_lem 0 (flag 0))) (in_set_lem 1 (flag 1))) (in_set_lem 2 (flag 2))) (in_set_lem 3 (flag 3)) in
      let d : Agree w v 40 = field 37 3 (one 36 b (in_set_lem 4 (flag 4))) (rw'.below8 ∙ sym rv.below8) in
      let e : Agree w v 44 = one 43 (one 42 (one 41 (one 40 d (in_set_lem 8 (flag 5))) (in_set_lem 9 (flag 6))) (in_set_lem 10 (flag 7))) (in_set_lem 11 (flag 8)) in
      let f : Agree w v 47 = one 46 (one 45 (one 44 e (in_set_lem 12 (flag 9))) (in_set_lem 13 (flag 10))) (in_set_lem 14 (flag 11)) in
      let g : Agree w v 48 = field 47 1 f (rw'.fifteen ∙ sym rv.fifteen) in
      let h : Agree w v 64 = field 49 15 (one 48 g (in_set_lem 16 (flag 12))) (rw'.below32 ∙ sym rv.below32) in
      let i : Agree w v 80 = field 64 16 h (rw'.below48 ∙ sym rv.below48) in
      field 80 16 i (rw'.below64 ∙ sym rv.below64)

  -- the fields, one after the other
  row_same : row_number w ≡ row_number v → SubjectSame w v → ace_permission w ≡ ace_permission v → w ≡ v
  unfolding chosen
  row_same number subject permission =
      let field = agree_field w v in
      let a : Agree w v 16 = field 0 16 (agree_none w v) number in
      let b : Agree w v 18 = field 16 2 a subject.kind in
      let d : Agree w v 23 = field 18 5 b permission in
      let e : Agree w v 24 = field 23 1 d (wildcard 23 (flag 13)) in
      let f : Agree w v 25 = field 24 1 e (wildcard 24 (flag 14)) in
      let g : Agree w v 26 = field 25 1 f (wildcard 25 (flag 15)) in
      let h : Agree w v 32 = field 26 6 g (gw.zeros ∙ sym gv.zeros) in
      let i : Agree w v 256 = field 224 32 (subject.bytes (set_agrees h)) (gw.first ∙ sym gv.first) in
      let j : Agree w v 288 = field 256 32 i (gw.last ∙ sym gv.last) in
      agree_all w v (gw.size ∙ sym gv.size) gw.bytes gv.bytes (rw gw.size j)

-- the text of a row, piece by piece
row_told : (w v : Row) (s t : List ℕ) → stored_row w ≡ true → stored_row v ≡ true → row_text w ++ s ≡ row_text v ++ t → (w ≡ v) × (s ≡ t)
unfolding row_text joined ascii
row_told w v s t hw hv e =
    let gw = stored w hw in
    let gv = stored v hv in
    let n = decimal_told (row_number w) (row_number v) refl refl (append_cancel_left (ascii "{\"aceid\":") _ _ (simp append_assoc at e)) in
    let u = subject_told w v (gw.size ∙ sym gv.size) gw.bytes gv.bytes gw.subject
    gv.subject (append_cancel_left (ascii ",\"subject\":") _ _ n.1) in
    let r = resources_told w v _ _ (append_cancel_left (ascii ",\"resources\":[") _ _ u.1) in
    let p = decimal_told (ace_permission w) (ace_permission v) refl refl (append_cancel_left (ascii ",\"permission\":") _ _ r.1) in
    (row_same w v gw gv r.0 n.0 u.0 p.0, tail-eq_of_cons-eq p.1)

-- ---- the list

pub lists_injective : (ws vs : List Row) → all stored_row ws ≡ true → all stored_row vs ≡ true → list_text ws ≡ list_text vs → ws ≡ vs
unfolding list_text rows_text row_text joined ascii
lists_injective ws vs hw hv e =
    (elements_told row_text stored_row (λ w s. refl) row_told true ws vs _ _ hw hv (append_cancel_left (ascii "{\"aclist2\":[") _ _ e)).0

-- ---- the tables

rows_stored : (n : ℕ) (b : List ℕ) → all is_byte b ≡ true → every (storable Aces) (rows_of ace_row_size n b) ≡ true → all stored_row (rows_written (rows_of ace_row_size n b)) ≡ true
unfolding stored_row seasonal rows_of every without
rows_stored zero b h k = refl
rows_stored (suc n) b h k =
    let more = rows_stored n (drop ace_row_size b) (all_drop is_byte ace_row_size b h) (and_right (ace_storable (take ace_row_size b)) _ k) in
    cond_cases (λ (ws : List Row). all stored_row ws ≡ true) (seasonal (take ace_row_size b)) (λ _. more)
    (λ e. and_both (stored_row (take ace_row_size b)) _
    (and_both (ace_storable (take ace_row_size b) && all is_byte (take ace_row_size b)) _
    (and_both (ace_storable (take ace_row_size b)) _ (and_left _ _ k) (all_take is_byte ace_row_size b h)) (not-false _ e))
    more)

-- sound tables with the same office text have the same access rows, except for those that are left out
pub tables_injective : (t u : Tables) → sound t ≡ true → sound u ≡ true → all is_byte t.aces ≡ true → all is_byte u.aces ≡ true
    → office_text t ≡ office_text u → rows_written (rows Aces t) ≡ rows_written (rows Aces u)
unfolding rows_in
tables_injective t u ht hu bt bu e =
    lists_injective (rows_written (rows Aces t)) (rows_written (rows Aces u))
    (rows_stored (min t.naces 32) t.aces bt (table_parts Aces t ht).stores)
    (rows_stored (min u.naces 32) u.aces bu (table_parts Aces u hu).stores)
    e
