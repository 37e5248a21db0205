-- Theorems: the question is answered 'isolated' exactly where the list has an even length, the tables are sound and its senders are harmless.
-- Any other answer is a reason, and the first.
use Rattle.rows.proofs.Prelude.{◌≡◌, refl, sym, ap, ◌∙◌, Bool, true, false, not, ◌||◌, List, [], ◌∷◌, ◌++◌, append_assoc, append-nil, ℕ, suc}
use Rattle.rows.proofs.Prelude.{◌/◌, ◌%◌, ◌<◌, arith, length, take, length-append, eqb, eq-eqb, eqb-true, eqb-false, not-true}
use Rattle.rows.proofs.Prelude.{bool_cases, contradiction, and_left, and_right, or_left, or_right, or_true_right}
use Rattle.rows.specs.Rows.{Row, rows_of, rows_before, some}
use Rattle.rows.proofs.Laws.{rows_of_suc, some_append}
use Rattle.rules.specs.declared.Tables.{Tables}
use Rattle.rules.specs.declared.Table.TheVariants.{Aces}
use Rattle.rules.specs.declared.Sender.{Sender}
use Rattle.rules.specs.declared.Sender.TheVariants.{Unauthenticated, Partner}
use Rattle.rules.specs.Tables.{rows, sound}
use Rattle.rules.specs.Permission.{sender_row, connection_of}
use Rattle.rules.specs.Isolation.{names_owner, may_alter, Harmless}
use Rattle.rules_isolation.specs.declared.Isolation.{Isolation}
use Rattle.rules_isolation.specs.declared.Isolation.TheVariants.{Isolated}
use Rattle.rules_isolation.specs.Question.{entries, sender_of, same_sender, chosen_by, odd_length, lacks_owner, lets_alter, altering_number}
use Rattle.rules_isolation.specs.Question.{entry_answer, entries_answer, isolation_of}
use Rattle.rules_isolation.specs.Answers.{FirstAt, Says, harms, isolated, odd, unsound, unowned, names, alters}

-- ---- the first row that passes a test

-- there is one at this place
pub record First (passes : Row → Bool) (ws : List Row) (i : ℕ) : Type 0 where
  pub row : Row
  pub first : FirstAt passes ws i row

first_at : (p : Row → Bool) (ws : List Row) → some p ws ≡ true → First p ws (suc (rows_before p ws))
unfolding some rows_before
first_at p [] h = contradiction h refl
first_at p (w ∷ ws) h =
    bool_cases (p w)
    (λ e. rw e (record { row = w; first = record { before = []; after = ws; stands = refl; number_is = refl; none = refl; does = e } }))
    (λ e.
    let f = first_at p ws (rw e at h) in
    let g = f.first in
    rw e (record {
      row = f.row;
      first = record {
        before = w ∷ g.before;
        after = g.after;
        stands = ap (λ (l : List Row). w ∷ l) g.stands;
        number_is = ap suc g.number_is;
        none = rw (e, g.none);
        does = g.does;
      };
    }))

-- ---- what each answer says

-- ---- the senders of the entries

same_self : (s : Sender) → same_sender s s ≡ true
same_self Unauthenticated = refl
same_self (Partner n) = eq-eqb n n refl

pub same_sender_lem : (s z : Sender) → same_sender s z ≡ true → s ≡ z
same_sender_lem Unauthenticated Unauthenticated h = refl
same_sender_lem Unauthenticated (Partner n) h = contradiction h refl
same_sender_lem (Partner m) Unauthenticated h = contradiction h refl
same_sender_lem (Partner m) (Partner n) h = ap Partner (eqb-true m n h)

pub record HarmlessSender (t : Tables) (s : Sender) : Type 0 where
  pub not_owner : names_owner t s ≡ false
  pub not_granted : may_alter t s ≡ false

-- of entries that do no harm, those whom they name
harmless_named : (t : Tables) (s : Sender) (es : List Row) → some (harms t) es ≡ false
    → some (λ e. same_sender (sender_of e) s) es ≡ true → HarmlessSender t s
unfolding some harms
harmless_named t s [] h c = contradiction c refl
harmless_named t s (e ∷ es) h c =
    bool_cases (same_sender (sender_of e) s)
    (λ i.
    let here : (names_owner t s || may_alter t s) ≡ false = rw (same_sender_lem (sender_of e) s i) at (or_left (harms t e) (some (harms t) es) h) in
    record { not_owner = or_left (names_owner t s) _ here; not_granted = or_right (names_owner t s) _ here })
    (λ i. harmless_named t s es (or_right (harms t e) (some (harms t) es) h) (rw i at c))

-- each entry's sender is named
named_some : (before : List Row) (e : Row) (after : List Row) → some (λ w. same_sender (sender_of w) (sender_of e)) (before ++ (e ∷ after)) ≡ true
unfolding some
named_some before e after =
    let is : Row → Bool = λ w. same_sender (sender_of w) (sender_of e) in
    some_append is before (e ∷ after) ∙ or_true_right (some is before) _ (rw (same_self (sender_of e)))

-- where each sender named is harmless, no entry does harm
none_harms : (t : Tables) (ws before es : List Row) → ws ≡ before ++ es
    → ((s : Sender) → some (λ e. same_sender (sender_of e) s) ws ≡ true → HarmlessSender t s) → some (harms t) es ≡ false
unfolding some harms
none_harms t ws before [] is q = refl
none_harms t ws before (e ∷ es) is q =
    let here = q (sender_of e) (rw is (named_some before e es)) in
    rw (here.not_owner, here.not_granted) (none_harms t ws (before ++ (e ∷ [])) es (is ∙ sym (append_assoc before (e ∷ []) es)) q)

-- ---- the answer

module _ (t : Tables) (list : List ℕ) where
  harmless_of : lacks_owner t list ≡ false → some (harms t) (entries list) ≡ false → Harmless (chosen_by list) t
  unfolding chosen_by lacks_owner rows_of some
  harmless_of o h = record {
    has_owner = λ s c.
        bool_cases (eqb (length list) 0)
        (λ z. contradiction c (rw (eqb-true (length list) 0 z)))
        (λ z. rw z at o);
    not_owner = λ s c. (harmless_named t s (entries list) h c).not_owner;
    not_granted = λ s c. (harmless_named t s (entries list) h c).not_granted;
  }

  says_from : odd_length list ≡ false → sound t ≡ true → lacks_owner t list ≡ false → (earlier es : List Row) → entries list ≡ earlier ++ es
      → some (harms t) earlier ≡ false → Says t list (entries_answer t (suc (length earlier)) es)
  unfolding entries_answer entry_answer harms some altering_number may_alter
  says_from u h o earlier [] is n = isolated u h (harmless_of o (rw (is, append-nil) n))
  says_from u h o earlier (e ∷ es) is n =
      bool_cases (names_owner t (sender_of e))
      (λ f. rw f (names u h o (record { before = earlier; after = es; stands = is; number_is = refl; none = n; does = rw f }) f))
      (λ f. bool_cases (may_alter t (sender_of e))
      (λ g. let p = first_at (lets_alter (sender_row t (sender_of e)) (connection_of (sender_of e))) (rows Aces t) g in
      rw (f, g) (alters u h o (record { before = earlier; after = es; stands = is; number_is = refl; none = n; does = rw (f, g) }) f p.first))
      (λ g.
      let more : some (harms t) (earlier ++ (e ∷ [])) ≡ false = some_append (harms t) earlier (e ∷ []) ∙ rw (n, f, g) in
      let l : length (earlier ++ (e ∷ [])) ≡ suc (length earlier) = rw length-append (omega arith) in
      rw (f, g) (rw l at (says_from u h o (earlier ++ (e ∷ [])) es (is ∙ sym (append_assoc earlier (e ∷ []) es)) more))))

  -- the answer says so: it is the first reason, or there is none
  pub says : Says t list (isolation_of t list)
  unfolding isolation_of some
  says =
      bool_cases (odd_length list) (λ u. rw u (odd u))
      (λ u. bool_cases (sound t)
      (λ h. bool_cases (lacks_owner t list)
      (λ o. rw (u, h, o) (unowned u h o))
      (λ o. rw (u, h, o) (says_from u h o [] (entries list) refl refl)))
      (λ h. rw (u, h) (unsound u h)))

  says_harmless : (x : Isolation) → Says t list x → x ≡ Isolated → (odd_length list ≡ false) × (sound t ≡ true) × Harmless (chosen_by list) t
  says_harmless x (isolated u h s) e = (u, h, s)
  says_harmless x (odd u) e = let z : ◌≡◌ {A = ℕ} 0 1 = cc in absurd (omega arith)
  says_harmless x (unsound u h) e = let z : ◌≡◌ {A = ℕ} 0 1 = cc in absurd (omega arith)
  says_harmless x (unowned u h o) e = let z : ◌≡◌ {A = ℕ} 0 1 = cc in absurd (omega arith)
  says_harmless x (names u h o f n) e = let z : ◌≡◌ {A = ℕ} 0 1 = cc in absurd (omega arith)
  says_harmless x (alters u h o f n g) e = let z : ◌≡◌ {A = ℕ} 0 1 = cc in absurd (omega arith)

  -- 'isolated' is reported only where it is so
  pub isolated_harmless : isolation_of t list ≡ Isolated → (odd_length list ≡ false) × (sound t ≡ true) × Harmless (chosen_by list) t
  isolated_harmless e = says_harmless (isolation_of t list) says e

  entries_pass : (i : ℕ) (es : List Row) → some (harms t) es ≡ false → entries_answer t i es ≡ Isolated
  unfolding entries_answer entry_answer harms some
  entries_pass i [] h = refl
  entries_pass i (e ∷ es) h =
      let here = or_left (harms t e) (some (harms t) es) h in
      rw (or_left (names_owner t (sender_of e)) _ here, or_right (names_owner t (sender_of e)) _ here)
      (entries_pass (suc i) es (or_right (harms t e) (some (harms t) es) h))

  -- a list of an even length that is not empty names somebody
  first_chosen : odd_length list ≡ false → lacks_owner t list ≡ true → chosen_by list (sender_of (take 2 list)) ≡ true
  unfolding odd_length chosen_by lacks_owner
  first_chosen u o =
      let bytes = eqb-false (length list) 0 (not-true _ (and_left (not (eqb (length list) 0)) _ o)) in
      let even = eqb-false (length list % 2) 1 u in
      let more : 0 < length list / 2 = omega arith in
      rw (rows_of_suc 2 (length list / 2) list more) (named_some [] (take 2 list) _)

  -- whoever is named needs an owner
  owner_needed : odd_length list ≡ false → Harmless (chosen_by list) t → lacks_owner t list ≡ false
  unfolding lacks_owner chosen_by
  owner_needed u safe =
      bool_cases (lacks_owner t list)
      (λ o. contradiction (and_right (not (eqb (length list) 0)) _ o) (safe.has_owner (sender_of (take 2 list)) (first_chosen u o)))
      (λ o. o)

  -- and wherever it is so
  pub harmless_isolated : odd_length list ≡ false → sound t ≡ true → Harmless (chosen_by list) t → isolation_of t list ≡ Isolated
  unfolding isolation_of chosen_by
  harmless_isolated u h safe =
      rw (u, h, owner_needed u safe)
      (entries_pass 1 (entries list)
      (none_harms t (entries list) [] (entries list) refl (λ s c. record { not_owner = safe.not_owner s c; not_granted = safe.not_granted s c })))
