-- Laws of the sender's own credential row, the first with its number.
-- A permitted assertion has one: it came over connection 1, and check 7 found the row.
use Rattle.rows.proofs.Prelude.{◌≡◌, refl, sym, ap, ◌∙◌, Bool, true, false, List, [], ◌∷◌, ℕ, ◌/◌, ◌%◌, ◌<◌, arith, length, take, get_or, get_or-take, take-take}
use Rattle.rows.proofs.Prelude.{eqb, eqb-true, not-false, bool_cases, contradiction, and_left, and_right}
use Rattle.rows.specs.Rows.{Row, same, has_key, numbered_as, first_row, some, every, stored}
use Rattle.rows.proofs.Kept.{same_true, length_stored}
use Rattle.rules.specs.declared.Tables.{Tables}
use Rattle.rules.specs.declared.Table.TheVariants.{Creds}
use Rattle.rules.specs.declared.Action.TheVariants.{Assert}
use Rattle.rules.specs.Bits.{be16}
use Rattle.rules.specs.declared.Sender.TheVariants.{Partner}
use Rattle.rules.specs.Record.{header_of, sender, connection, credential, body}
use Rattle.rules.specs.Bodies.{row_number}
use Rattle.rules.specs.Roles.{cred_sound, asserted}
use Rattle.rules.specs.Tables.{rows, sound}
use Rattle.rules.specs.Permission.{numbered, sender_row}
use Rattle.rules.specs.Checks.{bad_length, no_row, no_credential}
use Rattle.rules.specs.States.{state_allows}
use Rattle.rules.specs.Asserted.{Held}
use Rattle.rules.proofs.BitLaws.{bits_word, bits_small}
use Rattle.rules.proofs.RecordLaws.{sender_partner}
use Rattle.rules.proofs.Answers.{long_enough, table_parts}
use Rattle.rules.proofs.BodyLaws.{Valid}
use Rattle.rules.proofs.RoleLaws.{held_parts, asserted_body}
use Rattle.rules.specs.Sizes.{cred_body_size}

-- ---- the first row that passes a test

module _ (p : Row → Bool) where
  pub first_passes : (ws : List Row) → some p ws ≡ true → p (first_row p ws) ≡ true
  unfolding some first_row
  first_passes [] h = contradiction h refl
  first_passes (w ∷ ws) h = bool_cases (p w) (λ e. rw e e) (λ e. rw e (first_passes ws (rw e at h)))

  pub first_every : (e : Row → Bool) (ws : List Row) → some p ws ≡ true → every e ws ≡ true → e (first_row p ws) ≡ true
  unfolding some first_row every
  first_every e [] h a = contradiction h refl
  first_every e (w ∷ ws) h a =
      bool_cases (p w) (λ t. rw t (and_left (e w) _ a)) (λ f. rw f (first_every e ws (rw f at h) (and_right (e w) _ a)))

-- ---- a row's number

pub number_is : (w : Row) (n : ℕ) → n < 65536 → take 2 w ≡ be16 n → row_number w ≡ n
unfolding be16
number_is w n l e =
    let a : get_or w 0 0 ≡ n / 256 = sym (get_or-take 2 w 0 0 (omega arith)) ∙ ap (λ (k : List ℕ). get_or k 0 0) e in
    let b : get_or w 1 0 ≡ n % 256 = sym (get_or-take 2 w 1 0 (omega arith)) ∙ ap (λ (k : List ℕ). get_or k 1 0) e in
    bits_word w 0 (omega arith) (omega arith) ∙ omega arith

pub numbered_two : (n : ℕ) (w : Row) → numbered n w ≡ true → take 2 w ≡ be16 n
unfolding has_key be16
numbered_two n w h = same_true (take 2 w) (be16 n) h

-- a row with the number n replaces the row that has it
pub same_number : (n : ℕ) (new : Row) (ws : List Row) → take 2 new ≡ be16 n → some (numbered_as new) ws ≡ some (numbered n) ws
unfolding numbered_as has_key be16
same_number n new ws e = ap (λ (k : List ℕ). some (λ w. same (take 2 w) k) ws) e

-- ---- a permitted assertion

pub record Asserts (t : Tables) (r : List ℕ) : Type 0 where
  pub number : ℕ
  pub small : number < 65536
  pub is : sender r ≡ Partner number
  pub held : some (numbered number) (rows Creds t) ≡ true

pub asserts : (t : Tables) (r : List ℕ) (c : ℕ) → Valid (connection r) (body r) (Assert c) → state_allows t.state (Assert c) ≡ true
    → bad_length (length r) ≡ false → no_credential (rows Creds t) (header_of r) ≡ false → Asserts t r
unfolding no_credential
asserts t r c v s l n =
    let one : connection r ≡ 1 = sym v.0 ∙ eqb-true c 1 (and_right (eqb t.state 3) _ s) in
    let is = sender_partner r (long_enough r l) one in
    record { number = credential r; small = bits_small r 16 16; is = is; held = not-false _ (sym (ap (no_row (rows Creds t)) is) ∙ n) }

module _ (t : Tables) (r : List ℕ) (h : sound t ≡ true) (a : Asserts t r) where
  own_is : sender_row t (sender r) ≡ first_row (numbered a.number) (rows Creds t)
  own_is = ap (sender_row t) a.is

  pub own_storable : cred_sound (sender_row t (sender r)) ≡ true
  own_storable = rw own_is (first_every (numbered a.number) _ (rows Creds t) a.held (table_parts Creds t h).stores)

  pub own_held : Held (sender_row t (sender r))
  own_held = held_parts _ own_storable

  pub own_two : take 2 (sender_row t (sender r)) ≡ be16 a.number
  own_two = rw own_is (numbered_two a.number _ (first_passes (numbered a.number) (rows Creds t) a.held))

  -- the row that is stored has the sender's number, which is held
  module _ (clock : ℕ) (b : List ℕ) where
    pub asserted_two : take 2 (asserted clock b (sender_row t (sender r))) ≡ be16 a.number
    asserted_two =
        sym (take-take 2 cred_body_size (asserted clock b (sender_row t (sender r))) (omega arith))
        ∙ ap (take 2) (asserted_body clock b (sender_row t (sender r)) own_held)
        ∙ take-take 2 cred_body_size (sender_row t (sender r)) (omega arith)
        ∙ own_two

    pub asserted_number : some (numbered_as (asserted clock b (sender_row t (sender r)))) (rows Creds t) ≡ true
    asserted_number = same_number a.number _ (rows Creds t) asserted_two ∙ a.held

    pub asserted_count : length (stored (asserted clock b (sender_row t (sender r))) (rows Creds t)) ≡ length (rows Creds t)
    asserted_count = length_stored (asserted clock b (sender_row t (sender r))) (rows Creds t) ∙ rw asserted_number

    pub asserted_first : first_row (numbered_as (asserted clock b (sender_row t (sender r)))) (rows Creds t) ≡ sender_row t (sender r)
    unfolding numbered_as has_key be16
    asserted_first = ap (λ (k : List ℕ). first_row (λ w. same (take 2 w) k) (rows Creds t)) asserted_two ∙ sym own_is
