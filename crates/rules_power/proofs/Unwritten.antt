-- Where only the tables are stored, an input that leaves them as they were writes nothing: so does every hand-in.
use Rattle.rows.proofs.Prelude.{◌≡◌, refl, sym, ap, ◌∙◌, List, [], ◌∷◌, ◌++◌, ℕ, ◌+◌, ◌≤◌, arith, length, take, drop, get_or}
use Rattle.rows.proofs.Prelude.{append-nil, drop-drop, take-append-drop, drop_of_length-le}
use Rattle.rules.specs.declared.Tables.{Tables}
use Rattle.rules.specs.Defaults.{Defaults}
use Rattle.rules.specs.Checks.{verdict}
use Rattle.rules.proofs.CheckLaws.{check_cases}
use Rattle.rules_terminal.specs.Terminal.{Terminal, hand_in_checks, handed_in}
use Rattle.rules_terminal.specs.Inputs.{hand_in, next}
use Rattle.rules_store.specs.declared.Step.TheVariants.{Done}
use Rattle.rules_store.specs.Store as store
use Rattle.rules_store.specs.Store.{current}
use Rattle.rules_store.proofs.Parts.{length_current}
use Rattle.rules_store.proofs.Ends.{nothing}
use Rattle.rules_power.specs.Image.{tables_image, tables_size, field, tables_in, SizedTables, creds_at, aces_at}
use Rattle.rules_power.specs.Day.{found, Kept}
use Rattle.rules_power.specs.Kept.{Act, tables_alone}
use Rattle.rules.specs.declared.Table.TheVariants.{Aces, Creds}
use Rattle.rules.specs.Tables.{table_size}

-- ---- bytes of the tables' length are the image of the tables in them

field_on : (size at : ℕ) (b : List ℕ) → field size at b ++ drop (at + size) b ≡ drop at b
unfolding field
field_on size at b = ap (λ (l : List ℕ). take size (drop at b) ++ l) (sym (drop-drop size at b)) ∙ take-append-drop size (drop at b)

four : (b : List ℕ) → 4 ≤ length b → get_or b 0 0 ∷ get_or b 1 0 ∷ get_or b 2 0 ∷ get_or b 3 0 ∷ drop 4 b ≡ b
four [] h = absurd (omega arith)
four (x ∷ []) h = absurd (omega arith)
four (x ∷ y ∷ []) h = absurd (omega arith)
four (x ∷ y ∷ z ∷ []) h = absurd (omega arith)
four (x ∷ y ∷ z ∷ w ∷ b) h = refl

pub tables_again : (b : List ℕ) → length b ≡ tables_size → tables_image (tables_in b) ≡ b
unfolding tables_image tables_in
tables_again b l =
    let none : drop tables_size b ≡ [] = drop_of_length-le b {i = tables_size} (omega arith) in
    let rows = field (table_size Aces) aces_at b in
    let last : rows ≡ drop aces_at b = sym (append-nil rows) ∙ ap (λ (r : List ℕ). rows ++ r) (sym none) ∙ field_on (table_size Aces) aces_at b in
    rw (last, field_on (table_size Creds) creds_at b, field_on 64 20 b, field_on 16 4 b) (four b (omega arith))

-- ---- so

module _ {Answer : Type 0} (Gives : Terminal → Act → Answer → Terminal → Type 0) where
  pub unwritten : (x : Terminal) (s : List ℕ) → Kept (tables_alone Gives) (λ x. SizedTables x.tables) x s
      → (t : Tables) → t ≡ x.tables → store.next s (tables_image t) 0 ≡ Done
  unfolding found
  unwritten x s h t e =
      let b = current tables_size s in
      let l : length b ≡ tables_size = length_current tables_size s h.fits in
      let i : tables_image t ≡ b = ap tables_image (e ∙ sym (ap (λ (y : Terminal). y.tables) h.finds)) ∙ tables_again b l in
      let n : length (tables_image t) ≡ tables_size = ap length i ∙ l in
      nothing s (tables_image t) (rw n h.fits) (rw n (sym i))

pub hand_in_tables : (d : Defaults) (x : Terminal) (r : List ℕ) → (next d x (hand_in r)).tables ≡ x.tables
unfolding handed_in
hand_in_tables d x r = check_cases (verdict (hand_in_checks x r)) (λ e. rw (e, next)) (λ n e. rw (e, next))
