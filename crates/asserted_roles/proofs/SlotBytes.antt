-- The bytes of the roles in force, and of those after one is asserted, from each place on.
-- The row afterwards is its body and these, and zeros after them.
use Rattle.rows.proofs.Prelude.{◌≡◌, ap, ◌∙◌, Bool, true, false, cond, List, ◌∷◌, ◌++◌, map, append_assoc, ℕ, ◌+◌, ◌-◌, ◌<◌, ◌≤◌, arith, length, take, take_all, drop, get_or, replicate, sym, length-map, drop_of_length-le, []}
use Rattle.std.specs.Borrow.{Bor}
use Rattle.std.proofs.lemmas.List.{at_drop_more}
use Rattle.std.proofs.lemmas.List.Folds.{list_all_more, list_all_at}
use Rattle.rows.proofs.Prelude.{length-append, refl, and-true, not, ◌&&◌, not-true, and_left, and_right, and_false_right, bool_cases}
use Rattle.text.specs.Buffer.{Puts}
use Rattle.text.proofs.Buffers.{written_start, puts_then}
use Rattle.rows.specs.Rows.{Row, rows_of, joined, packed, without}
use Rattle.rows.proofs.Laws.{drop_replicate}
use Rattle.rules.specs.Roles.{no_role, free, same_role, body_of, roles_of, roles_in_force, cred_sound, with_role, both_taken, asserted}
use Rattle.rules.specs.Asserted.{role_slot}
use Rattle.std.specs.List.{list_all}
use Rattle.rules.proofs.RoleSlots.{both_taken_lem}
use Rattle.rules.proofs.RoleLaws.{held_parts, body_long, asserted_short}
use Rattle.rules.specs.Sizes.{cred_body_size, cred_row_size}

-- ---- slots, as a walk over them leaves them

abbrev pub Slots : Type 0
Slots = List (Bor (List ℕ))

two : (w : Row) (slots : Slots) → map (λ (slot : Bor (List ℕ)). slot.now) slots ≡ roles_of w → length slots ≡ 2
unfolding rows_of
two w slots is = sym (length-map slots (λ (slot : Bor (List ℕ)). slot.now)) ∙ ap length is

-- the roles in force, and these with a new one
abbrev pub in_force : ℕ → Slots → List Row
in_force clock slots = without (free clock) (map (λ (slot : Bor (List ℕ)). slot.now) slots)

-- what is still to be written of the roles with a new one: once it has replaced its equal, the roles alone
abbrev pub with_new : ℕ → Row → Bool → Slots → List ℕ
with_new clock new replaced slots = cond replaced (joined (in_force clock slots)) (joined (with_role new (in_force clock slots)))

pub none_left : (w : Row) (clock : ℕ) (slots : Slots) (i : ℕ) → map (λ (slot : Bor (List ℕ)). slot.now) slots ≡ roles_of w → 2 ≤ i → in_force clock (drop i slots) ≡ []
unfolding without
none_left w clock slots i is h = let past : length slots ≤ i = omega (arith, two w slots is) in rw (drop_of_length-le slots past)

pub new_last : (w : Row) (clock : ℕ) (new : Row) (replaced : Bool) (slots : Slots) (i : ℕ) → map (λ (slot : Bor (List ℕ)). slot.now) slots ≡ roles_of w → 2 ≤ i
    → replaced ≡ false → with_new clock new replaced (drop i slots) ≡ new ++ []
unfolding joined with_role
new_last w clock new replaced slots i is h e = rw e (ap (λ (roles : List Row). joined (with_role new roles)) (none_left w clock slots i is h))

-- a slot has another role in force, and each of them has
abbrev pub has_other : ℕ → Row → Row → Bool
has_other clock new slot = not (free clock slot) && not (same_role new slot)

each_read : (test : Row → Bool) (slots : Slots) → list_all (λ (slot : Bor (List ℕ)). test slot.now) slots ≡ list_all test (map (λ (slot : Bor (List ℕ)). slot.now) slots)
each_read test [] = refl
each_read test (slot ∷ slots) = ap (λ (rest : Bool). test slot.now && rest) (each_read test slots)

pub both_other : (w : Row) (clock : ℕ) (new : Row) (slots : Slots) → map (λ (slot : Bor (List ℕ)). slot.now) slots ≡ roles_of w
    → list_all (λ (slot : Bor (List ℕ)). has_other clock new slot.now) slots ≡ both_taken new (roles_in_force clock w)
unfolding rows_of
both_other w clock new slots is =
    each_read (has_other clock new) slots ∙ ap (list_all (has_other clock new)) is
    ∙ ap (λ (last : Bool). has_other clock new (role_slot w 0) && last) (and-true (has_other clock new (role_slot w 1))) ∙ sym (both_taken_lem clock w new)

-- the slots before place i have other roles in force: one more; one that has none; all
abbrev pub others : ℕ → Row → Slots → Bool
others clock new slots = list_all (λ (slot : Bor (List ℕ)). has_other clock new slot.now) slots

module _ (clock : ℕ) (new w : Row) (slots : Slots) (is : map (λ (slot : Bor (List ℕ)). slot.now) slots ≡ roles_of w) (i : ℕ) where
  pub others_more : (slot : Bor (List ℕ)) → i < 2 → has_other clock new (get_or slots i slot).now ≡ true → others clock new (take i slots) ≡ true
      → others clock new (take (i + 1) slots) ≡ true
  others_more slot h e before = list_all_more (λ (slot : Bor (List ℕ)). has_other clock new slot.now) slots i slot (omega (arith, two w slots is)) ∙ rw (before, e)

  pub other_missing : (slot : Bor (List ℕ)) → i < 2 → has_other clock new (get_or slots i slot).now ≡ false → false ≡ both_taken new (roles_in_force clock w)
  other_missing slot h e =
      sym (list_all_at (λ (slot : Bor (List ℕ)). has_other clock new slot.now) slots i slot (omega (arith, two w slots is)) e) ∙ both_other w clock new slots is

  pub others_all : 2 ≤ i → others clock new (take i slots) ≡ true → true ≡ both_taken new (roles_in_force clock w)
  others_all h before =
      sym before ∙ ap (others clock new) (take_all i slots (omega (arith, two w slots is))) ∙ both_other w clock new slots is

module _ (clock : ℕ) (slots : Slots) (i : ℕ) (h : i < 2) (w : Row) (is : map (λ (slot : Bor (List ℕ)). slot.now) slots ≡ roles_of w) (slot : Bor (List ℕ)) where
  there : i < length slots
  there = omega (arith, two w slots is)

  abbrev here : Slots → Bor (List ℕ)
  here all = get_or all i slot

  pub free_passed : free clock (here slots).now ≡ true → in_force clock (drop i slots) ≡ in_force clock (drop (i + 1) slots)
  unfolding without
  free_passed e = at_drop_more (in_force clock) slots i slot there ∙ rw e

  role_next : free clock (here slots).now ≡ false → in_force clock (drop i slots) ≡ (here slots).now ∷ in_force clock (drop (i + 1) slots)
  unfolding without
  role_next e = at_drop_more (in_force clock) slots i slot there ∙ rw e

  pub bytes_next : free clock (here slots).now ≡ false
      → joined (in_force clock (drop i slots)) ≡ (here slots).now ++ joined (in_force clock (drop (i + 1) slots))
  unfolding joined
  bytes_next e = ap joined (role_next e)

  module _ (new : Row) (replaced : Bool) where
    pub with_passed : free clock (here slots).now ≡ true → with_new clock new replaced (drop i slots) ≡ with_new clock new replaced (drop (i + 1) slots)
    with_passed e = ap (λ (roles : List Row). cond replaced (joined roles) (joined (with_role new roles))) (free_passed e)

    pub with_replaced : free clock (here slots).now ≡ false → (not replaced && same_role new (here slots).now) ≡ true
        → with_new clock new replaced (drop i slots) ≡ new ++ with_new clock new true (drop (i + 1) slots)
    unfolding joined with_role
    with_replaced e f =
        let first = not-true replaced (and_left (not replaced) (same_role new (here slots).now) f) in
        let equal = and_right (not replaced) (same_role new (here slots).now) f in
        rw first (ap (λ (roles : List Row). joined (with_role new roles)) (role_next e) ∙ rw equal)

    pub with_kept : free clock (here slots).now ≡ false → (not replaced && same_role new (here slots).now) ≡ false
        → with_new clock new replaced (drop i slots) ≡ (here slots).now ++ with_new clock new replaced (drop (i + 1) slots)
    unfolding joined with_role
    with_kept e f =
        bool_cases replaced
        (λ yes. rw yes (bytes_next e))
        (λ no. rw no (ap (λ (roles : List Row). joined (with_role new roles)) (role_next e) ∙ rw (and_false_right (not replaced) _ f (ap not no))))

-- ---- the row

module _ (clock : ℕ) (new w : Row) (h : cred_sound w ≡ true) (l : length new ≡ 8)
    (v : no_role new ≡ false) (n : both_taken new (roles_in_force clock w) ≡ false) where
  abbrev roles : List ℕ
  roles = joined (with_role new (roles_in_force clock w))

  pub row_is : (body x y : List ℕ) (i j : ℕ) → body ≡ body_of w → Puts (replicate cred_row_size 0) 0 body x i → Puts x i roles y j → y ≡ asserted clock new w
  unfolding asserted packed
  row_is body x y i j b first second =
      let long : length body ≡ cred_body_size = ap length b ∙ body_long w (held_parts w h).long in
      let short : length roles ≤ 16 = asserted_short clock new w (held_parts w h) l v n in
      let all : length (body ++ roles) ≡ cred_body_size + length roles = length-append body roles ∙ ap (λ (k : ℕ). k + length roles) long in
      let fits : length (body ++ roles) ≤ cred_row_size = omega (arith, all, short) in
      let left : cred_row_size - length (body ++ roles) ≡ 16 - length roles = omega (arith, all, short) in
      (puts_then (omega arith) first second).buffer
      ∙ written_start (replicate cred_row_size 0) (body ++ roles) fits
      ∙ ap (λ (z : List ℕ). (body ++ roles) ++ z) (drop_replicate (length (body ++ roles)) cred_row_size 0 ∙ ap (λ (k : ℕ). replicate k 0) left)
      ∙ append_assoc body roles (replicate (16 - length roles) 0)
      ∙ ap (λ (k : List ℕ). k ++ (roles ++ replicate (16 - length roles) 0)) b
