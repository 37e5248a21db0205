-- Laws of a credential row's two places, next to each other: what code tests and writes of the roles in force.
-- Each is a split by whether a place is free, or holds no role.
use Rattle.rows.proofs.Prelude.{◌≡◌, refl, sym, ap, ◌∙◌, Bool, true, false, not, ◌&&◌, ◌||◌, cond, and-true, and-false, or-false, List, [], ◌∷◌, ◌++◌, append-nil}
use Rattle.rows.proofs.Prelude.{ℕ, ◌+◌, arith, length, take, drop, replicate, length-append, length-drop, length-take-le, take-append-drop, drop-drop}
use Rattle.rows.proofs.Prelude.{take_at, drop_at, take_all, bool_cases, contradiction, eq-eqb}
use Rattle.rows.specs.Rows.{Row, rows_of, joined, packed, all_zero, same, some, without}
use Rattle.rows.proofs.Laws.{zeros_replicate}
use Rattle.rows.proofs.Kept.{same_true, same_refl}
use Rattle.rules.specs.Roles.{no_role, free, same_role, distinct_roles, roles_in_force, roles_sound, both_taken}
use Rattle.rules.specs.Sizes.{cred_body_size, role_slot_size, roles_size, cred_row_size}
use Rattle.rules.specs.Asserted.{role_slot}
use Rattle.rules.proofs.RoleLaws.{no_role_zeros}

module _ (clock : ℕ) (w : Row) where
  -- a test of the roles in force
  pub some_in_force : (f : Row → Bool)
      → some f (roles_in_force clock w) ≡ ((not (free clock (role_slot w 0)) && f (role_slot w 0)) || (not (free clock (role_slot w 1)) && f (role_slot w 1)))
  unfolding roles_in_force rows_of without some
  some_in_force f =
      bool_cases (free clock (role_slot w 0))
      (λ e. bool_cases (free clock (role_slot w 1)) (λ g. rw (e, g)) (λ g. rw (e, g) (or-false (f (role_slot w 1)))))
      (λ e. bool_cases (free clock (role_slot w 1)) (λ g. rw (e, g)) (λ g. rw (e, g, or-false (f (role_slot w 1)))))

  -- both places hold other roles than this one
  pub both_taken_lem : (new : Row)
      → both_taken new (roles_in_force clock w)
      ≡ ((not (free clock (role_slot w 0)) && not (same_role new (role_slot w 0))) && (not (free clock (role_slot w 1)) && not (same_role new (role_slot w 1))))
  unfolding roles_in_force rows_of without both_taken some
  both_taken_lem new =
      bool_cases (free clock (role_slot w 0))
      (λ e. bool_cases (free clock (role_slot w 1)) (λ g. rw (e, g)) (λ g. rw (e, g)))
      (λ e. bool_cases (free clock (role_slot w 1)) (λ g. rw (e, g, and-false))
      (λ g. bool_cases (same_role new (role_slot w 0)) (λ x. rw (e, g, x)) (λ x. rw (e, g, x, or-false))))

-- ---- which places are sound

-- bytes of zeros
same_zeros : (x : List ℕ) → same x (replicate (length x) 0) ≡ all_zero x
unfolding same all_zero
same_zeros [] = refl
same_zeros (b ∷ x) = rw (same_zeros x)

-- bytes that begin alike
same_front : (a x y : List ℕ) → same (a ++ x) (a ++ y) ≡ same x y
unfolding same
same_front [] x y = refl
same_front (b ∷ a) x y = rw (eq-eqb b b refl) (same_front a x y)

-- one role in the places
one_packed : (p : Row) → length p ≡ role_slot_size → packed roles_size (p ∷ []) ≡ p ++ replicate role_slot_size 0
unfolding packed joined
one_packed p l = rw (append-nil p, l)

module _ (p q : Row) (l : length p ≡ role_slot_size) (m : length q ≡ role_slot_size) where
  all_long : length (p ++ q) ≡ roles_size
  all_long = rw (length-append, l, m)

  -- two roles
  two_packed : packed roles_size (p ∷ q ∷ []) ≡ p ++ q
  unfolding packed joined
  two_packed = rw (append-nil q, all_long, append-nil)

  none_there : same (p ++ q) (packed roles_size []) ≡ all_zero (p ++ q)
  unfolding packed joined
  none_there = ap (λ (n : ℕ). same (p ++ q) (replicate n 0)) (sym all_long) ∙ same_zeros (p ++ q)

  first_there : same (p ++ q) (packed roles_size (p ∷ [])) ≡ all_zero q
  first_there = rw (one_packed p l, same_front p q (replicate role_slot_size 0)) (ap (λ (n : ℕ). same q (replicate n 0)) (sym m) ∙ same_zeros q)

  -- a role in the second place is not zero
  second_not_zero : no_role q ≡ false → all_zero (p ++ q) ≡ false
  second_not_zero f =
      bool_cases (all_zero (p ++ q))
      (λ z. let zeros : p ++ q ≡ replicate roles_size 0 = zeros_replicate (p ++ q) z ∙ ap (λ (n : ℕ). replicate n 0) all_long in
      contradiction (ap no_role (sym (drop_at p q role_slot_size l) ∙ ap (drop role_slot_size) zeros) ∙ no_role_zeros) f)
      (λ z. z)

  -- a role in only the second place is not where it should be
  second_alone : no_role p ≡ true → no_role q ≡ false → same (p ++ q) (packed roles_size (q ∷ [])) ≡ false
  second_alone e f =
      bool_cases (same (p ++ q) (packed roles_size (q ∷ [])))
      (λ s. let alike : p ++ q ≡ q ++ replicate role_slot_size 0 = same_true (p ++ q) (packed roles_size (q ∷ [])) s ∙ one_packed q m in
      let is : q ≡ p = sym (take_at q (replicate role_slot_size 0) role_slot_size m) ∙ sym (ap (take role_slot_size) alike) ∙ take_at p q role_slot_size l in
      contradiction (ap no_role is ∙ e) f)
      (λ s. s)

  two_sound : (same (p ++ q) (packed roles_size (without no_role (p ∷ q ∷ []))) && distinct_roles (without no_role (p ∷ q ∷ [])))
      ≡ cond (no_role p) (all_zero (p ++ q)) (cond (no_role q) (all_zero q) (not (same_role p q)))
  unfolding without distinct_roles some
  two_sound =
      bool_cases (no_role p)
      (λ e. bool_cases (no_role q)
      (λ f. rw (e, f, none_there, and-true))
      (λ f. rw (e, f, second_alone e f, second_not_zero f)))
      (λ e. bool_cases (no_role q)
      (λ f. rw (e, f, first_there, and-true))
      (λ f. rw (e, f, two_packed, same_refl (p ++ q), or-false, and-true)))

-- one place after the other: after the roles that are there all bytes are zero, and the second is not the first again
pub slots_sound : (w : Row) → length w ≡ cred_row_size
    → roles_sound w ≡ cond (no_role (role_slot w 0)) (all_zero (drop cred_body_size w))
    (cond (no_role (role_slot w 1)) (all_zero (drop (cred_body_size + role_slot_size) w)) (not (same_role (role_slot w 0) (role_slot w 1))))
unfolding roles_sound rows_of
slots_sound w h =
    let x = drop cred_body_size w in
    let p = take role_slot_size x in
    let q = drop role_slot_size x in
    let l : length x ≡ roles_size = rw (length-drop, h) in
    let m : length q ≡ role_slot_size = rw (length-drop, l) in
    rw (take_all role_slot_size q (omega (arith, m)), ← drop-drop role_slot_size cred_body_size w) (
    ap (λ (y : List ℕ). same y (packed roles_size (without no_role (p ∷ q ∷ []))) && distinct_roles (without no_role (p ∷ q ∷ [])))
    (sym (take-append-drop role_slot_size x))
    ∙ two_sound p q (length-take-le role_slot_size x (omega (arith, l))) m
    ∙ ap (λ (y : List ℕ). cond (no_role p) (all_zero y) (cond (no_role q) (all_zero q) (not (same_role p q)))) (take-append-drop role_slot_size x))
