-- Theorem, U6: the office text is ASCII with no white space: each byte lies between 32, the space, and 127.
-- For tables of any content; that the rows are bytes is what the struct's types give.
use Rattle.rows.proofs.Prelude.{◌≡◌, refl, Bool, true, false, ◌&&◌, List, [], ◌∷◌, ◌++◌, map, ℕ, zero, suc, ◌+◌, ◌/◌, ◌%◌, ◌<◌, min, arith, length, take, drop}
use Rattle.rows.proofs.Prelude.{get_or, eqb, leb, ltb, leb-true, lt-ltb, ltb-true, and_left, and_right, and_both, cond_cases}
use Rattle.text.specs.Text.{ascii, decimal_in, decimal}
use Rattle.rows.specs.Rows.{Row, rows_of, joined, without}
use Rattle.rules.specs.declared.Tables.{Tables}
use Rattle.rules.specs.Bodies.{row_number, ace_kind, ace_permission, ace_subject, ace_authority, ace_role, ace_connection}
use Rattle.rules.specs.Tables.{rows_in}
use Rattle.rules_office.specs.Office.{hex_digit, dashed, dash, hex_byte, uuid_from, uuid_text, comma, separated, uuid_subject, role_subject, connection_subject}
use Rattle.rules_office.specs.Office.{subject_text, href, choices, chosen, picked, braced, resources_text, row_text, rows_text, list_text, seasonal}
use Rattle.rules_office.specs.Office.{rows_written, office_text}
use Rattle.rules_office.specs.Written.{all, is_byte}
use Rattle.rules_office.proofs.Codes.{all_join, all_picked}
use Rattle.rules_office.proofs.Decimals.{is_digit, digits}
use Rattle.rules_office.proofs.Subjects.{all_take, all_drop}
use Rattle.rules.specs.Sizes.{ace_row_size}

abbrev visible : ℕ → Bool
visible b = ltb 32 b && ltb b 127

abbrev Visible : List ℕ → Type 0
Visible x = all visible x ≡ true

-- ---- texts made of visible ones

all_map : (p q : ℕ → Bool) → ((b : ℕ) → p b ≡ true → q b ≡ true) → (x : List ℕ) → all p x ≡ true → all q x ≡ true
all_map p q f [] h = refl
all_map p q f (b ∷ x) h = and_both (q b) _ (f b (and_left _ _ h)) (all_map p q f x (and_right (p b) _ h))

joined_visible : (xs : List (List ℕ)) → all (all visible) xs ≡ true → Visible (joined xs)
unfolding joined
joined_visible [] h = refl
joined_visible (x ∷ xs) h = all_join visible x (joined xs) (and_left _ _ h) (joined_visible xs (and_right (all visible x) _ h))

comma_visible : (first : Bool) → Visible (comma first)
unfolding comma ascii
comma_visible true = refl
comma_visible false = refl

module _ {A : Type 0} (f : A → List ℕ) (p : A → Bool) (each : (x : A) → p x ≡ true → Visible (f x)) where
  separated_visible : (first : Bool) (xs : List A) → all p xs ≡ true → Visible (separated first (map f xs))
  separated_visible first [] h = refl
  separated_visible first (x ∷ xs) h =
      all_join visible (comma first ++ f x) (separated false (map f xs))
      (all_join visible (comma first) (f x) (comma_visible first) (each x (and_left _ _ h)))
      (separated_visible false xs (and_right (p x) _ h))

-- ---- numbers, and a UUID

between : (b : ℕ) → 32 < b → b < 127 → visible b ≡ true
between b l h = and_both (ltb 32 b) (ltb b 127) (lt-ltb 32 b l) (lt-ltb b 127 h)

digit_visible : (b : ℕ) → is_digit b ≡ true → visible b ≡ true
digit_visible b h = between b (omega (arith, leb-true 48 b (and_left _ _ h))) (omega (arith, leb-true b 57 (and_right (leb 48 b) _ h)))

decimal_visible : (n : ℕ) → Visible (decimal n)
unfolding decimal
decimal_visible n = all_map is_digit visible digit_visible (decimal_in n n) (digits n n)

hex_visible : (d : ℕ) → d < 16 → visible (hex_digit d) ≡ true
unfolding hex_digit
hex_visible d h =
    cond_cases (λ (b : ℕ). visible b ≡ true) (ltb d 10)
    (λ e. between (48 + d) (omega arith) (omega arith))
    (λ e. between (87 + d) (omega arith) (omega arith))

dash_visible : (i : ℕ) → Visible (dash i)
unfolding dash ascii
dash_visible i = cond_cases Visible (dashed i) (λ _. refl) (λ _. refl)

byte_visible : (i b : ℕ) → b < 256 → Visible (hex_byte i b)
unfolding hex_byte
byte_visible i b h =
    all_join visible (dash i) _ (dash_visible i)
    (and_both (visible (hex_digit (b / 16))) _ (hex_visible (b / 16) (omega arith))
    (and_both (visible (hex_digit (b % 16))) true (hex_visible (b % 16) (omega arith)) refl))

uuid_visible : (i : ℕ) (u : List ℕ) → all is_byte u ≡ true → Visible (uuid_from i u)
uuid_visible i [] h = refl
uuid_visible i (b ∷ u) h =
    all_join visible (hex_byte i b) (uuid_from (suc i) u) (byte_visible i b (ltb-true b 256 (and_left _ _ h))) (uuid_visible (suc i) u (and_right (is_byte b) _ h))

-- ---- a row

subject_visible : (w : Row) → all is_byte w ≡ true → Visible (subject_text w)
unfolding subject_text uuid_subject role_subject connection_subject uuid_text ascii
subject_visible w h =
    let u = uuid_visible 0 (ace_subject w) (all_take is_byte 16 (drop 12 w) (all_drop is_byte 12 w h)) in
    let r = decimal_visible (ace_role w) in
    cond_cases Visible (eqb (ace_kind w) 0) (λ _. joined_visible _ (rw u))
    (λ _. cond_cases Visible (eqb (ace_kind w) 1) (λ _. joined_visible _ (rw (decimal_visible (ace_authority w), r)))
    (λ _. cond_cases Visible (eqb (ace_kind w) 2) (λ _. cond_cases Visible (eqb (ace_connection w) 1) (λ _. refl) (λ _. refl)) (λ _. refl)))

choices_visible : all (all visible) choices ≡ true
unfolding choices href joined ascii
choices_visible = refl

braced_visible : (x : List ℕ) → Visible x → Visible (braced x)
unfolding braced ascii
braced_visible x h = joined_visible _ (rw h)

resources_visible : (w : Row) → Visible (resources_text w)
unfolding resources_text
resources_visible w =
    separated_visible braced (all visible) braced_visible true (picked (chosen w) choices) (all_picked (all visible) (chosen w) choices choices_visible)

row_visible : (w : Row) → all is_byte w ≡ true → Visible (row_text w)
unfolding row_text ascii
row_visible w h = joined_visible _ (rw (decimal_visible (row_number w), subject_visible w h, resources_visible w, decimal_visible (ace_permission w)))

-- ---- the list

rows_bytes : (n : ℕ) (b : List ℕ) → all is_byte b ≡ true → all (all is_byte) (rows_written (rows_of ace_row_size n b)) ≡ true
unfolding rows_of without
rows_bytes zero b h = refl
rows_bytes (suc n) b h =
    let more = rows_bytes n (drop ace_row_size b) (all_drop is_byte ace_row_size b h) in
    cond_cases (λ (ws : List Row). all (all is_byte) ws ≡ true) (seasonal (take ace_row_size b))
    (λ _. more)
    (λ _. and_both (all is_byte (take ace_row_size b)) _ (all_take is_byte ace_row_size b h) more)

list_visible : (ws : List Row) → all (all is_byte) ws ≡ true → Visible (list_text ws)
unfolding list_text rows_text ascii
list_visible ws h = joined_visible _ (rw (separated_visible row_text (all is_byte) row_visible true ws h))

byte_at : (x : List ℕ) (i : ℕ) → Visible x → i < length x → (32 < get_or x i 0) × (get_or x i 0 < 127)
byte_at [] i h l = absurd (omega arith)
byte_at (b ∷ x) zero h l =
    let v = and_left (visible b) _ h in
    (ltb-true 32 b (and_left _ _ v), ltb-true b 127 (and_right (ltb 32 b) _ v))
byte_at (b ∷ x) (suc i) h l = byte_at x i (and_right (visible b) _ h) (omega arith)

pub text_visible : (t : Tables) → all is_byte t.aces ≡ true → (i : ℕ) → i < length (office_text t)
    → (32 < get_or (office_text t) i 0) × (get_or (office_text t) i 0 < 127)
unfolding rows_in
text_visible t h i l = byte_at (office_text t) i (list_visible _ (rows_bytes (min t.naces 32) t.aces h)) l
