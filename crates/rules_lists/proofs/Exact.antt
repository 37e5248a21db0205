-- Theorems, U10: a list is accepted exactly where it has none of the faults, and otherwise refused with the first fault and its row.
-- What the test says of the rows is so (`rows_told`), and rows without a fault are passed over (`rows_past`), so nothing else can be reported.
use Rattle.rows.proofs.Prelude.{◌≡◌, refl, sym, ap, ◌∙◌, true, false, not, List, [], ◌∷◌, ◌++◌, append_assoc, append-nil, ℕ, suc, arith, length, not-false}
use Rattle.rows.proofs.Prelude.{bool_cases, and_left, and_right, or_left, or_right}
use Rattle.rows.specs.Rows.{Row, some, every, numbered_as, distinct_numbers}
use Rattle.rows.proofs.Laws.{every_append, some_append}
use Rattle.rows.proofs.Repeat.{distinct_end, none_before}
use Rattle.rules.specs.declared.Check.TheVariants.{Pass, Refuse}
use Rattle.rules.specs.declared.Table.TheVariants.{Aces}
use Rattle.rules.specs.Tables.{storable}
use Rattle.rules.specs.Checks.{refuse_if, verdict}
use Rattle.rules_lists.specs.declared.Tested.{Tested}
use Rattle.rules_lists.specs.Lists.{listed, bad_size, unfit, excessive, row_checks, tested, accepted, rows_tested, list_tested}
use Rattle.rules_lists.specs.Faults.{Behind, Clean, Fault, Faultless, RowFault, unstored, excess, size, row}

-- ---- faults

-- ---- rows without a fault

-- a row without a fault is one more
clean_more : (earlier : List Row) (w : Row) → Clean earlier → unfit earlier w ≡ false → excessive w ≡ false → Clean (earlier ++ (w ∷ []))
unfolding unfit every some
clean_more earlier w c u g = record {
  stores = every_append (storable Aces) earlier (w ∷ []) ∙ rw (c.stores, not-false (storable Aces w) (or_left _ _ u));
  distinct = distinct_end earlier w c.distinct (or_right (not (storable Aces w)) (some (numbered_as w) earlier) u);
  modest = some_append excessive earlier (w ∷ []) ∙ rw (c.modest, g);
}

-- a row of them has none
row_passes : (earlier : List Row) (w : Row) (after : List Row) → Clean (earlier ++ (w ∷ after)) → verdict (row_checks earlier w) ≡ Pass
unfolding verdict unfit every some
row_passes earlier w after c =
    let stores = and_right (every (storable Aces) earlier) _ (sym (every_append (storable Aces) earlier (w ∷ after)) ∙ c.stores) in
    let modest = or_right (some excessive earlier) _ (sym (some_append excessive earlier (w ∷ after)) ∙ c.modest) in
    let fits = and_left (storable Aces w) (every (storable Aces) after) stores in
    rw (fits, none_before earlier w after c.distinct, or_left (excessive w) (some excessive after) modest)

-- a row with a fault is refused with it
fault_verdict : (before : List Row) (w : Row) (n : ℕ) → RowFault before w n → verdict (row_checks before w) ≡ Refuse n
unfolding verdict
fault_verdict before w n (unstored u) = rw u
fault_verdict before w n (excess u g) = rw (u, g)

-- the test goes on after them
rows_past : (earlier ws after : List Row) → Clean (earlier ++ ws) → rows_tested earlier (ws ++ after) ≡ rows_tested (earlier ++ ws) after
unfolding rows_tested
rows_past earlier [] after c = rw append-nil
rows_past earlier (w ∷ ws) after c =
    rw (row_passes earlier w ws c)
    (rw (append_assoc earlier (w ∷ []) ws) at (rows_past (earlier ++ (w ∷ [])) ws after (rw (append_assoc earlier (w ∷ []) ws) c)))

-- ---- what the test says of rows is so

data Response (ws : List Row) : Tested → Type 0 where
  clean : Clean ws → Response ws accepted
  bad : {before : List Row} {w : Row} {n : ℕ} → Behind before w ws → RowFault before w n → Response ws (tested n (suc (length before)))

rows_told : (earlier ws : List Row) → Clean earlier → Response (earlier ++ ws) (rows_tested earlier ws)
unfolding rows_tested verdict
rows_told earlier [] c = clean (rw append-nil c)
rows_told earlier (w ∷ ws) c =
    let s : Behind earlier w (earlier ++ (w ∷ ws)) = record { after = ws; stands = refl; clean = c } in
    bool_cases (unfit earlier w) (λ e. rw e (bad s (unstored e)))
    (λ e. bool_cases (excessive w) (λ f. rw (e, f) (bad s (excess e f)))
    (λ f. rw (e, f) (rw (append_assoc earlier (w ∷ []) ws) at (rows_told (earlier ++ (w ∷ [])) ws (clean_more earlier w c e f)))))

-- ---- of a list

list_told : (b : List ℕ) → bad_size b ≡ false → Response (listed b) (list_tested b)
unfolding list_tested refuse_if every distinct_numbers some
list_told b e = rw e (rows_told [] (listed b) (record { stores = refl; distinct = refl; modest = refl }))

-- 19, with row 0, for a bad size
size_refused : (b : List ℕ) → bad_size b ≡ true → list_tested b ≡ tested 19 0
unfolding list_tested refuse_if
size_refused b e = rw e

module _ (b : List ℕ) where
  -- every list without one of the faults is accepted
  pub faultless_accepted : Faultless b → list_tested b ≡ accepted
  unfolding list_tested refuse_if rows_tested
  faultless_accepted f = rw (f.whole, ← append-nil (listed b)) (rows_past [] (listed b) [] f.clean)

  told_clean : (x : Tested) → Response (listed b) x → x.answer ≡ 0 → Clean (listed b)
  told_clean x (clean c) h = c
  told_clean x (bad s (unstored u)) h = absurd (omega arith)
  told_clean x (bad s (excess u g)) h = absurd (omega arith)

  -- and no other
  pub accepted_faultless : (list_tested b).answer ≡ 0 → Faultless b
  accepted_faultless h =
      bool_cases (bad_size b)
      (λ e. absurd (omega (arith, ap (λ (x : Tested). x.answer) (size_refused b e))))
      (λ e. record { whole = e; clean = told_clean (list_tested b) (list_told b e) h })

  told_fault : bad_size b ≡ false → (x : Tested) → Response (listed b) x → (x.answer ≡ 0 → ⊥) → Fault b x.answer x.row
  told_fault e x (clean c) z = absurd (z refl)
  told_fault e x (bad s f) z = row e s f

  -- a list that is not accepted has what is reported of it
  pub any_fault : ((list_tested b).answer ≡ 0 → ⊥) → Fault b (list_tested b).answer (list_tested b).row
  any_fault z = bool_cases (bad_size b) (λ e. rw (size_refused b e) (size e)) (λ e. told_fault e (list_tested b) (list_told b e) z)

  -- a refusal names the first fault and its row
  pub refused_fault : (n m : ℕ) → list_tested b ≡ tested (suc n) m → Fault b (suc n) m
  refused_fault n m h = rw h at (any_fault (rw h (λ z. absurd (omega arith))))

  -- and the first fault is named
  pub fault_refused : (n m : ℕ) → Fault b n m → list_tested b ≡ tested n m
  unfolding list_tested refuse_if rows_tested
  fault_refused n m (size e) = size_refused b e
  fault_refused n m (row {before} {w} e s f) = rw (e, s.stands, rows_past [] before (w ∷ s.after) s.clean, fault_verdict before w n f)
