-- The answer of one entry, and the loop over the entries.
use Rattle.rows.proofs.Prelude.{◌≡◌, sym, ap, ◌∙◌, true, false, List, ◌∷◌, ◌++◌, ℕ, suc, ◌+◌, ◌-◌, ◌/◌, ◌≤◌, ◌<◌, add-one, arith}
use Rattle.rows.proofs.Prelude.{length, take, drop, length-append, length-drop, bool_cases}
use Rattle.rows.specs.Rows.{rows_of}
use Rattle.std.specs.Prelude.{Some, None}
use Rattle.rows.specs.Promises.{index_of}
use Rattle.rows.proofs.Laws.{rows_of_suc, is_some, some_index, index_before}
use Rattle.rules.specs.declared.Tables.{Tables}
use Rattle.rules.specs.declared.Table.TheVariants.{Aces}
use Rattle.rules.specs.declared.Sender.{Sender}
use Rattle.rules.specs.Tables.{rows}
use Rattle.rules.specs.Permission.{sender_row, connection_of}
use Rattle.rules.specs.Isolation.{names_owner, may_alter}
use Rattle.std.proofs.Math.Seq.{take-append_seam, drop-append_seam}
use Rattle.rules_isolation.specs.declared.Isolation.{Isolation}
use Rattle.rules_isolation.specs.declared.Isolation.TheVariants.{Isolated, NamesOwner, MayAlter}
use Rattle.rules_isolation.specs.Question.{entries, sender_of, lets_alter, altering_number, entry_answer, entries_answer}

-- ---- an entry

-- an answer that says why not
abbrev pub IsReason : Isolation → Type 0
IsReason x = x ≡ Isolated → ⊥

module _ (t : Tables) (i : ℕ) (s : Sender) where
  pub names_answer : names_owner t s ≡ true → NamesOwner i ≡ entry_answer t i s Isolated
  unfolding entry_answer
  names_answer e = rw e

  module _ (e : names_owner t s ≡ false) where
    pub none_answer : index_of (lets_alter (sender_row t s) (connection_of s)) (rows Aces t) ≡ None → Isolated ≡ entry_answer t i s Isolated
    unfolding entry_answer may_alter
    none_answer p =
        let none : may_alter t s ≡ false = some_index 0 (lets_alter (sender_row t s) (connection_of s)) (rows Aces t) ∙ ap is_some p in rw (e, none)

    pub alters_answer : (j : ℕ) → index_of (lets_alter (sender_row t s) (connection_of s)) (rows Aces t) ≡ Some j → MayAlter i (j + 1) ≡ entry_answer t i s Isolated
    unfolding entry_answer may_alter altering_number
    alters_answer j p =
        let one : may_alter t s ≡ true = some_index 0 (lets_alter (sender_row t s) (connection_of s)) (rows Aces t) ∙ ap is_some p in
        let at : j + 1 ≡ altering_number t s = omega (arith, index_before (lets_alter (sender_row t s) (connection_of s)) 0 j (rows Aces t) p) in
        rw (e, one, at)

  -- a reason is the answer, whatever follows
  pub reason_stays : (x rest : Isolation) → x ≡ entry_answer t i s Isolated → IsReason x → x ≡ entry_answer t i s rest
  unfolding entry_answer
  reason_stays x rest e k =
      bool_cases (names_owner t s) (λ f. rw f (rw f at e))
      (λ f. bool_cases (may_alter t s) (λ g. rw (f, g) (rw (f, g) at e))
      (λ g. let is : x ≡ Isolated = rw (f, g) at e in absurd (k is)))

  -- without one, what follows is the answer
  pub rest_follows : (rest : Isolation) → entry_answer t i s Isolated ≡ Isolated → entry_answer t i s rest ≡ rest
  unfolding entry_answer
  rest_follows rest e =
      bool_cases (names_owner t s)
      (λ f. let no : NamesOwner i ≡ Isolated = rw f at e in let z : ◌≡◌ {A = ℕ} 0 1 = cc in absurd (omega arith))
      (λ f. bool_cases (may_alter t s)
      (λ g. let no : MayAlter i (altering_number t s) ≡ Isolated = rw (f, g) at e in let z : ◌≡◌ {A = ℕ} 0 1 = cc in absurd (omega arith))
      (λ g. rw (f, g)))

-- ---- the entries

entries_more : (b : List ℕ) → 2 ≤ length b → entries b ≡ take 2 b ∷ entries (drop 2 b)
entries_more b h =
    let more : 0 < length b / 2 = omega arith in
    let less : length b / 2 - 1 ≡ length (drop 2 b) / 2 = rw length-drop (omega arith) in
    rows_of_suc 2 (length b / 2) b more ∙ rw less

-- an entry, and what is after it
entries_next : (entry rest : List ℕ) → length entry ≡ 2 → entries (entry ++ rest) ≡ entry ∷ entries rest
entries_next entry rest h =
    let more : 2 ≤ length (entry ++ rest) = simp length-append (omega arith) in
    let first : take 2 (entry ++ rest) ≡ entry = rw (← h) (take-append_seam entry rest) in
    let after : drop 2 (entry ++ rest) ≡ rest = rw (← h) (drop-append_seam entry rest) in
    entries_more (entry ++ rest) more ∙ rw (first, after)

-- the answer for all entries is the answer for the rest, after i of them
abbrev pub FromEntry : Tables → List ℕ → List ℕ → ℕ → Type 0
FromEntry t list rest i = entries_answer t 1 (entries list) ≡ entries_answer t (i + 1) (entries rest)

module _ (t : Tables) (list : List ℕ) where
  pub entry_end : (rest : List ℕ) (i : ℕ) → FromEntry t list rest i → length rest < 2 → Isolated ≡ entries_answer t 1 (entries list)
  unfolding entries_answer rows_of
  entry_end rest i inv h = let none : length rest / 2 ≡ 0 = omega arith in sym (inv ∙ rw none)

  module _ (entry rest all : List ℕ) (i : ℕ) (inv : FromEntry t list all i) (e : all ≡ entry ++ rest) (h : length entry ≡ 2) where
    next_answer : entries_answer t 1 (entries list) ≡ entry_answer t (i + 1) (sender_of entry) (entries_answer t (suc (i + 1)) (entries rest))
    unfolding entries_answer
    next_answer = inv ∙ rw (e, entries_next entry rest h)

    pub entry_found : (x : Isolation) → x ≡ entry_answer t (i + 1) (sender_of entry) Isolated → IsReason x → x ≡ entries_answer t 1 (entries list)
    entry_found x f k = reason_stays t (i + 1) (sender_of entry) x _ f k ∙ sym next_answer

    pub entry_turn : entry_answer t (i + 1) (sender_of entry) Isolated ≡ Isolated → FromEntry t list rest (i + 1)
    entry_turn f = next_answer ∙ rest_follows t (i + 1) (sender_of entry) _ f ∙ rw (add-one, add-one)
