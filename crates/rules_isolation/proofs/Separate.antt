-- Theorems: yards on one plate, each answered 'isolated', have their runs as if the other yards sent nothing.
-- Nobody outside all yards endangers them, or the question is asked again after each record that does.
use Rattle.rows.proofs.Prelude.{◌≡◌, refl, ap, ap₂, ◌∙◌, Bool, true, false, List, [], ◌∷◌, map, ℕ, bool_cases, contradiction}
use Rattle.rows.proofs.Prelude.{tail-eq_of_cons-eq, and-false, and_left, or_not_left, or_true_right}
use Rattle.rules.specs.declared.Tables.{Tables}
use Rattle.rules.specs.declared.Sender.{Sender}
use Rattle.rules.specs.Record.{sender}
use Rattle.rules.specs.Defaults.{Defaults}
use Rattle.rules.specs.Outcome.{Response, response_to, tables_after}
use Rattle.rules.specs.Run.{replies, final, kept}
use Rattle.rules.specs.Isolation.{Harmless, Premise}
use Rattle.rules_terminal.specs.Terminal.{Terminal}
use Rattle.rules_terminal.specs.Inputs.{Input, next, Turn, request_of, turn_response, bytes_of, others_turn, records_in}
use Rattle.rules_terminal.specs.Isolation.{AsTheBook}
use Rattle.rules_terminal.proofs.Isolated.{isolated}
use Rattle.rules_isolation.specs.Question.{chosen_by}
use Rattle.rules_isolation.specs.Service.{others_endanger, turns_handed, Again, Within, SmallNumbers}
use Rattle.rules_isolation.specs.Yards.{of_yards, of_other_yards, Disjoint, AllIsolated, book_turns, turns_of, Alone, AloneIn, YardAlone, BothAlone}
use Rattle.rules_isolation.proofs.Exact.{isolated_harmless}
use Rattle.rules_isolation.proofs.InService.{AgainAt, list_small, service, again_map, turns_handed_lem, again_handed, never_handed}
use Rattle.rules_runs.specs.Isolation.{answers_to}

-- ---- the yards together

pub yards_small : (yards : List (List ℕ)) → SmallNumbers (of_yards yards)
yards_small [] n h = contradiction h refl
yards_small (yard ∷ yards) n h = bool_cases (chosen_by yard _) (list_small yard n) (λ e. yards_small yards n (or_not_left _ _ h e))

pub yards_harmless : (yards : List (List ℕ)) (t : Tables) → AllIsolated yards t → Harmless (of_yards yards) t
yards_harmless [] t a = record { has_owner = λ s c. contradiction c refl; not_owner = λ s c. contradiction c refl; not_granted = λ s c. contradiction c refl }
yards_harmless (yard ∷ yards) t a =
    let first = (isolated_harmless t yard a.0).2 in
    let rest = yards_harmless yards t a.1 in
    record {
      has_owner = λ s c. bool_cases (chosen_by yard s) (first.has_owner s) (λ e. rest.has_owner s (or_not_left _ _ c e));
      not_owner = λ s c. bool_cases (chosen_by yard s) (first.not_owner s) (λ e. rest.not_owner s (or_not_left _ _ c e));
      not_granted = λ s c. bool_cases (chosen_by yard s) (first.not_granted s) (λ e. rest.not_granted s (or_not_left _ _ c e));
    }

-- ---- what all but theirs get, ours get

-- turns that got what the book answers are the book's
turns_are : (d : Defaults) (t : Tables) (us : List Turn) → map turn_response us ≡ replies (response_to d) (tables_after d) t (map request_of us)
    → us ≡ book_turns d t (map request_of us)
turns_are d t [] e = refl
turns_are d t (u ∷ us) e =
    let here : u.response ≡ response_to d t u.request = cc in
    let more = turns_are d (tables_after d t u.request) us (tail-eq_of_cons-eq e) in
    ap₂ (λ (y : Response) (vs : List Turn). record { request = u.request; response = y } ∷ vs) here more

-- our senders are none of theirs
abbrev pub NoCommonSender : (Sender → Bool) → (Sender → Bool) → Type 0
NoCommonSender ours theirs = (s : Sender) → ours s ≡ true → theirs s ≡ false

-- so our turns are among those that are not theirs
turns_among : (ours theirs : Sender → Bool) → NoCommonSender ours theirs → (us : List Turn) → turns_of ours us ≡ turns_of ours (kept (others_turn theirs) us)
turns_among ours theirs disjoint [] = refl
turns_among ours theirs disjoint (u ∷ us) =
    let s = sender (bytes_of u) in
    let more = turns_among ours theirs disjoint us in
    bool_cases (ours s)
    (λ e. rw (e, disjoint s e, e, more))
    (λ e. bool_cases (theirs s) (λ f. rw (e, f, more)) (λ f. rw (e, f, e, more)))

alone : (d : Defaults) (ours theirs : Sender → Bool) (x : Terminal) (us : List Turn) (end : Tables) → NoCommonSender ours theirs
    → AsTheBook d theirs x (kept (others_turn theirs) us) end → Alone d ours theirs x.tables us end
alone d ours theirs x us end disjoint e = record {
  response = turns_among ours theirs disjoint us ∙ ap (turns_of ours) (turns_are d x.tables (kept (others_turn theirs) us) e.0);
  tables = e.1;
}

-- ---- the theorems. The book is fed the records as they were handed in

module _ (d : Defaults) (yards : List (List ℕ)) (x : Terminal) (is : List Input) (asked : AllIsolated yards x.tables) where
  -- for any senders, and any others of the yards
  separate : (ours theirs : Sender → Bool) → NoCommonSender ours theirs → Within theirs (of_yards yards) → AgainAt d (of_yards yards) (AllIsolated yards) x is
      → AloneIn d ours theirs x is (answers_to d x is) (final (next d) x is)
  separate ours theirs disjoint within a =
      rw (turns_handed_lem d x is)
      (alone d ours theirs x _ _ disjoint
      (isolated d theirs x is
      (λ _. service d (of_yards yards) (yards_small yards) theirs within x is (λ _. yards_harmless yards x.tables asked)
      (again_map d (of_yards yards) _ (Premise (of_yards yards)) (λ t e _. yards_harmless yards t e) x is a))))

  yard_alone : (yard : List ℕ) → AgainAt d (of_yards yards) (AllIsolated yards) x is → YardAlone d yards yard x is (answers_to d x is) (final (next d) x is)
  yard_alone yard a =
      separate (chosen_by yard) (of_other_yards yards yard)
      (λ s c. rw (c, and-false))
      (λ s c. and_left (of_yards yards s) _ c) a

  -- any number of yards: each has its run as if those who are only of the others sent nothing
  pub each_yard : (yard : List ℕ) → Again (of_yards yards) (AllIsolated yards) (records_in x) is (answers_to d x is)
      → YardAlone d yards yard x is (answers_to d x is) (final (next d) x is)
  each_yard yard a = yard_alone yard (again_handed d (of_yards yards) (AllIsolated yards) x is a)

  -- where nobody outside the yards endangers them, the question is asked once
  pub each_yard_quiet : (yard : List ℕ) → others_endanger (of_yards yards) (turns_handed x is (answers_to d x is)) ≡ false
      → YardAlone d yards yard x is (answers_to d x is) (final (next d) x is)
  each_yard_quiet yard n = yard_alone yard (never_handed d (of_yards yards) (AllIsolated yards) x is n)

-- two yards with nobody in both
module _ (d : Defaults) (a b : List ℕ) (x : Terminal) (is : List Input) (disjoint : Disjoint a b) (asked : AllIsolated (a ∷ b ∷ []) x.tables) where
  both_alone : AgainAt d (of_yards (a ∷ b ∷ [])) (AllIsolated (a ∷ b ∷ [])) x is → BothAlone d a b x is (answers_to d x is) (final (next d) x is)
  both_alone again =
      let one = separate d (a ∷ b ∷ []) x is asked in (
        one (chosen_by a) (chosen_by b) disjoint (λ s c. rw c (or_true_right (chosen_by a s) _ refl)) again,
        one (chosen_by b) (chosen_by a)
            (λ s c. bool_cases (chosen_by a s) (λ e. contradiction c (disjoint s e)) (λ e. e)) (λ s c. rw c) again,
      )

  pub two_yards : Again (of_yards (a ∷ b ∷ [])) (AllIsolated (a ∷ b ∷ [])) (records_in x) is (answers_to d x is)
      → BothAlone d a b x is (answers_to d x is) (final (next d) x is)
  two_yards again = both_alone (again_handed d (of_yards (a ∷ b ∷ [])) (AllIsolated (a ∷ b ∷ [])) x is again)

  pub two_yards_quiet : others_endanger (of_yards (a ∷ b ∷ [])) (turns_handed x is (answers_to d x is)) ≡ false
      → BothAlone d a b x is (answers_to d x is) (final (next d) x is)
  two_yards_quiet n = both_alone (never_handed d (of_yards (a ∷ b ∷ [])) (AllIsolated (a ∷ b ∷ [])) x is n)
