-- Laws of asserted roles: asserting one leaves a row that the table may hold, with the same body.
-- A credential row has at most two roles in force, and they are different ones.
use Rattle.rows.proofs.Prelude.{◌≡◌, refl, sym, ap, ◌∙◌, Bool, true, false, not, ◌&&◌, ◌||◌, and-true, List, [], ◌∷◌, ◌++◌, map, append-nil, ℕ, ◌≤◌, arith, length}
use Rattle.rows.proofs.Prelude.{take, drop, replicate, length-append, length-drop, length-take, drop_at, length-take-le, take_all, take_at, eq-eqb}
use Rattle.rows.proofs.Prelude.{eqb-true, not-true, bool_cases, contradiction, and_left, and_right, and_both, or_left}
use Rattle.rows.specs.Rows.{Row, rows_of, joined, packed, same, some, without}
use Rattle.rows.proofs.Laws.{joined_rows_of}
use Rattle.rows.proofs.Kept.{AllLong, length_joined, length_packed, same_true, same_refl, same_sym}
use Rattle.rules.specs.Bits.{bit, bits}
use Rattle.rules.specs.Bodies.{cred_storable}
use Rattle.rules.specs.Roles.{no_role, free, same_role, distinct_roles, unasserted, body_of, roles_of, roles_in_force}
use Rattle.rules.specs.Roles.{roles_sound, cred_sound, without_roles, with_role, both_taken, asserted}
use Rattle.rules.specs.Sizes.{cred_body_size, role_slot_size, role_slots, roles_size, cred_row_size}
use Rattle.rules.specs.Asserted.{Few, Held, Role}

pub held_parts : (w : Row) → cred_sound w ≡ true → Held w
unfolding cred_sound
held_parts w h = record {
  long = eqb-true (length w) cred_row_size (search (and_left, and_right));
  body = search (and_left, and_right);
  roles = search (and_left, and_right);
}

pub body_long : (w : Row) → length w ≡ cred_row_size → length (body_of w) ≡ cred_body_size
body_long w l = length-take-le cred_body_size w (omega arith)

-- ---- roles that are in the places of one row

-- the place that begins the bytes, where it is not free
slot_role : (clock : ℕ) (x : List ℕ) → role_slot_size ≤ length x → free clock (take role_slot_size x) ≡ false → Role (take role_slot_size x)
unfolding free
slot_role clock x l e = (length-take-le role_slot_size x l, or_left (no_role (take role_slot_size x)) _ e)

pub few_in_force : (clock : ℕ) (w : Row) → Held w → Few (roles_in_force clock w)
unfolding roles_in_force roles_sound rows_of without distinct_roles some
few_in_force clock w h =
    let x = drop cred_body_size w in
    let p = take role_slot_size x in
    let q = take role_slot_size (drop role_slot_size x) in
    let l : length x ≡ roles_size = rw (length-drop, h.long) in
    let first = slot_role clock x (omega (arith, l)) in
    let second = slot_role clock (drop role_slot_size x) (rw (length-drop, l) (omega arith)) in
    bool_cases (free clock p)
    (λ e. bool_cases (free clock q) (λ f. rw (e, f) tt) (λ f. rw (e, f) (second f)))
    (λ e. bool_cases (free clock q) (λ f. rw (e, f) (first e))
    (λ f. let sound = rw ((first e).1, (second f).1) at h.roles in
    let distinct = and_left (not (same_role p q || false)) _ (and_right (same x (packed roles_size (p ∷ q ∷ []))) _ sound) in
    rw (e, f) (first e, second f, or_left (same_role p q) false (not-true _ distinct))))

-- fewer rows have fewer bytes
without_short : (f : Row → Bool) (ps : List Row) → length (joined (without f ps)) ≤ length (joined ps)
unfolding without joined
without_short f [] = omega arith
without_short f (p ∷ ps) =
    bool_cases (f p)
    (λ e. rw (e, length-append) (omega (arith, without_short f ps)))
    (λ e. rw (e, length-append, length-append) (omega (arith, without_short f ps)))

-- their bytes are 16 at most
pub in_force_short : (clock : ℕ) (w : Row) → length (joined (roles_in_force clock w)) ≤ roles_size
unfolding roles_in_force
in_force_short clock w =
    let x = drop cred_body_size w in
    let all : length (joined (roles_of w)) ≤ roles_size = rw (joined_rows_of role_slot_size role_slots x, length-take) (omega arith) in
    omega (arith, all, without_short (free clock) (roles_of w))

same_swap : (p q : Row) → same_role p q ≡ same_role q p
unfolding same_role
same_swap p q = same_sym (take 4 q) (take 4 p)

-- what differs from a role differs from its equal
same_as : (p q new : Row) → same_role new p ≡ true → same_role p q ≡ false → same_role new q ≡ false
unfolding same_role
same_as p q new e f = ap (λ (k : List ℕ). same (take 4 q) k) (sym (same_true (take 4 p) (take 4 new) e)) ∙ f

-- a role more, where there is a place
pub few_with_role : (new : Row) → length new ≡ role_slot_size → no_role new ≡ false → (ps : List Row) → Few ps → both_taken new ps ≡ false → Few (with_role new ps)
unfolding with_role both_taken some
few_with_role new l v [] f n = (l, v)
few_with_role new l v (p ∷ []) f n = bool_cases (same_role new p) (λ e. rw e (l, v)) (λ e. rw e (f, (l, v), same_swap p new ∙ e))
few_with_role new l v (p ∷ q ∷ []) f n =
    bool_cases (same_role new p) (λ e. rw e ((l, v), f.1, same_as p q new e f.2))
    (λ e. bool_cases (same_role new q) (λ g. rw (e, g) (f.0, (l, v), same_swap p new ∙ e)) (λ g. contradiction refl (rw (e, g) at n)))
few_with_role new l v (p ∷ q ∷ r ∷ ps) f n = absurd f

-- ---- the bytes of such roles

few_long : (ps : List Row) → Few ps → AllLong role_slot_size ps × (length ps ≤ role_slots)
few_long [] f = (tt, omega arith)
few_long (p ∷ []) f = ((f.0, tt), omega arith)
few_long (p ∷ q ∷ []) f = ((f.0.0, (f.1.0, tt)), omega arith)
few_long (p ∷ q ∷ r ∷ ps) f = absurd f

-- the places, by their own bytes
abbrev pub slots_in : List ℕ → List Row
slots_in x = rows_of role_slot_size role_slots x

-- in places that hold such roles, only zeros are after them
pub few_slots : (f : Row → Bool) → f (replicate role_slot_size 0) ≡ true → (ps : List Row) → Few ps → without f (slots_in (packed roles_size ps)) ≡ without f ps
unfolding packed joined rows_of without
few_slots f z [] g = rw z
few_slots f z (p ∷ []) g =
    rw (append-nil, g.0, take_at p (replicate role_slot_size 0) role_slot_size g.0, drop_at p (replicate role_slot_size 0) role_slot_size g.0, z)
few_slots f z (p ∷ q ∷ []) (g, h, d) =
    let last = take_all role_slot_size q (omega (arith, h.0)) in
    rw (append-nil q, length-append, g.0, h.0, append-nil, take_at p q role_slot_size g.0, drop_at p q role_slot_size g.0, last)
few_slots f z (p ∷ q ∷ r ∷ ps) g = absurd g

few_there : (ps : List Row) → Few ps → without no_role ps ≡ ps
unfolding without
few_there [] f = refl
few_there (p ∷ []) f = rw f.1
few_there (p ∷ q ∷ []) (f, g, d) = rw (f.1, g.1)
few_there (p ∷ q ∷ r ∷ ps) f = absurd f

few_distinct : (ps : List Row) → Few ps → distinct_roles ps ≡ true
unfolding distinct_roles some
few_distinct [] f = refl
few_distinct (p ∷ []) f = refl
few_distinct (p ∷ q ∷ []) (f, g, d) = rw d
few_distinct (p ∷ q ∷ r ∷ ps) f = absurd f

pub no_role_zeros : no_role (replicate role_slot_size 0) ≡ true
unfolding no_role bits bit
no_role_zeros = refl

-- the test of the places, on their own bytes
unfoldable sound_slots : List ℕ → Bool
sound_slots x =
    let held = without no_role (slots_in x) in
    same x (packed roles_size held) && distinct_roles held

sound_few : (ps : List Row) → Few ps → sound_slots (packed roles_size ps) ≡ true
unfolding sound_slots
sound_few ps f = rw (few_slots no_role no_role_zeros ps f, few_there ps f, same_refl (packed roles_size ps)) (few_distinct ps f)

-- ---- the row with these roles in its places

module _ (h : List ℕ) (l : length h ≡ cred_body_size) (x : List ℕ) where
  pub body_is : body_of (h ++ x) ≡ h
  body_is = take_at h x cred_body_size l

  sound_is : roles_sound (h ++ x) ≡ sound_slots x
  unfolding roles_sound sound_slots
  sound_is = ap sound_slots (drop_at h x cred_body_size l)

  held_with : cred_storable h ≡ true → length x ≡ roles_size → sound_slots x ≡ true → Held (h ++ x)
  held_with c m s = record { long = rw (length-append, l) (omega arith); body = rw body_is c; roles = sound_is ∙ s }

-- ---- a role is asserted

module _ (clock : ℕ) (b : List ℕ) (w : Row) (p : Held w) where
  pub asserted_body : body_of (asserted clock b w) ≡ body_of w
  unfolding asserted
  asserted_body = body_is (body_of w) (body_long w p.long) (packed roles_size (with_role b (roles_in_force clock w)))

  module _ (l : length b ≡ role_slot_size) (v : no_role b ≡ false) (n : both_taken b (roles_in_force clock w) ≡ false) where
    few : Few (with_role b (roles_in_force clock w))
    few = few_with_role b l v (roles_in_force clock w) (few_in_force clock w p) n

    -- their bytes fit the places
    pub asserted_short : length (joined (with_role b (roles_in_force clock w))) ≤ roles_size
    asserted_short =
        let x = few_long (with_role b (roles_in_force clock w)) few in
        omega (arith, length_joined role_slot_size (with_role b (roles_in_force clock w)) x.0, x.1)

    pub asserted_held : Held (asserted clock b w)
    unfolding asserted
    asserted_held =
        let roles = with_role b (roles_in_force clock w) in
        let x = few_long roles few in
        held_with (body_of w) (body_long w p.long) (packed roles_size roles) p.body
        (length_packed role_slot_size roles_size roles x.0 (omega (arith, x.1))) (sound_few roles few)

    pub asserted_storable : cred_sound (asserted clock b w) ≡ true
    unfolding cred_sound
    asserted_storable =
        and_both _ _ (and_both _ _ (eq-eqb (length (asserted clock b w)) cred_row_size asserted_held.long) asserted_held.body) asserted_held.roles

    -- except for its places it is the same
    pub asserted_without : without_roles (asserted clock b w) ≡ without_roles w
    unfolding without_roles
    asserted_without = rw (asserted_body, asserted_held.long, p.long)

-- the row that a body is may be held exactly where the body is allowed
pub unasserted_is : (b : List ℕ) → length b ≡ cred_body_size → cred_sound (unasserted b) ≡ cred_storable b
unfolding cred_sound packed joined
unasserted_is b l =
    let long : length (unasserted b) ≡ cred_row_size = rw (length-append, l) in
    rw (eq-eqb (length (unasserted b)) cred_row_size long, body_is b l (replicate roles_size 0), sound_is b l (replicate roles_size 0) ∙ sound_few [] tt) (and-true (cred_storable b))

-- a role holds on its last second, and not after it: role 7 of authority 1, to second 100
pub last_second : map (λ clock. free clock (0 ∷ 1 ∷ 0 ∷ 7 ∷ 0 ∷ 0 ∷ 0 ∷ 100 ∷ [])) (99 ∷ 100 ∷ 101 ∷ []) ≡ false ∷ false ∷ true ∷ []
unfolding free no_role bits bit
last_second = refl
