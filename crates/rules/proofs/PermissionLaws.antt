-- A permission bit of a union comes from a member.
-- So a chosen sender's effective permission on a security resource other than roles has none of C, U and D.
use Rattle.rows.proofs.Prelude.{◌≡◌, refl, ap, ◌∙◌, Bool, true, false, ◌&&◌, ◌||◌, and-false, or-false, List, [], ◌∷◌, ℕ, zero, suc, ◌/◌, ◌%◌, ◌^◌, ◌<◌, arith}
use Rattle.rows.proofs.Prelude.{length, eqb, bit_or, or_zero_r, eq-eqb, eqb-false, eqb-true, cond_cases, bool_cases, contradiction, and_left, and_right, or_left}
use Rattle.rows.proofs.Prelude.{or_right, or_neither, and_false_right}
use lib.Bits.{or_shr, or_step}
use Rattle.rows.specs.Rows.{Row, some, union_of}
use Rattle.rules.specs.declared.Tables.{Tables}
use Rattle.rules.specs.declared.Table.TheVariants.{Aces}
use Rattle.rules.specs.Directory.{resource_of, is_security, roles, some_below, some_security, directory}
use Rattle.rules.specs.declared.Sender.{Sender}
use Rattle.rules.specs.declared.Sender.TheVariants.{Unauthenticated, Partner}
use Rattle.rules.specs.Bodies.{ace_kind, in_set}
use Rattle.rules.specs.Tables.{head_of, rows}
use Rattle.rules.specs.Permission.{has, is_row, sender_row, connection_of, role_fits, subject_is, subject_fits, resource_fits}
use Rattle.rules.specs.Permission.{in_force, row_fits, grants, is_owner, by_owner, by_no_owner, by_roles, effective_of}
use Rattle.rules.specs.Promises.Theorems.{effective}
use Rattle.rules.specs.Isolation.{Harmless, alters, names_owner, row_alters, may_fit, may_alter}
use Rattle.rules.proofs.BodyLaws.{security_number_lem}

-- a bit of a union is a bit of one of the two
pub has_or : (x y k : ℕ) → has (bit_or x y) (2 ^ k) ≡ (has x (2 ^ k) || has y (2 ^ k))
unfolding has
has_or x y k =
    let a = x / 2 ^ k in
    let b = y / 2 ^ k in
    rw (or_shr x y k)
    (bool_cases (eqb (a % 2) 1)
    (λ e. rw e (eq-eqb (bit_or a b % 2) 1 (omega (arith, or_step a b, eqb-true (a % 2) 1 e))))
    (λ e. let same : bit_or a b % 2 ≡ b % 2 = omega (arith, or_step a b, eqb-false (a % 2) 1 e) in rw (e, same)))

-- so C, U and D are in it only where one of the two has them
alters_neither : (x y : ℕ) → alters x ≡ false → alters y ≡ false → alters (bit_or x y) ≡ false
alters_neither x y e f = rw (has_or x y 0, has_or x y 2, has_or x y 3) (search (or_left, or_right, or_neither) depth 9)

-- no row that fails a test gives any of them, so the union has none
union_lacks : (give : Row → ℕ) (p : Row → Bool) → ((a : Row) → p a ≡ false → alters (give a) ≡ false) → (ws : List Row)
    → some p ws ≡ false → alters (union_of give ws) ≡ false
unfolding some union_of has
union_lacks give p f [] h = refl
union_lacks give p f (a ∷ ws) h =
    alters_neither (give a) (union_of give ws) (f a (or_left (p a) (some p ws) h)) (union_lacks give p f ws (or_right (p a) (some p ws) h))

-- ---- a test at every security resource
below_lacks : (m n : ℕ) (q : ℕ → Bool) → n < m → some_below m q ≡ false → q n ≡ false
below_lacks zero n q l h = absurd (omega arith)
below_lacks (suc m) n q l h =
    bool_cases (eqb n m)
    (λ e. ap q (eqb-true n m e) ∙ or_left (q m) (some_below m q) h)
    (λ e. below_lacks m n q (omega (arith, eqb-false n m e)) (or_right (q m) (some_below m q) h))

pub security_lacks : (p : ℕ → Bool) (n : ℕ) → is_security n ≡ true → some_security p ≡ false → p n ≡ false
unfolding some_security
security_lacks p n h l =
    and_false_right (is_security n) (p n) (below_lacks (length directory) n (λ m. is_security m && p m) (omega (arith, security_number_lem n h)) l) h

-- tests that agree at each security resource
below_same : (p q : ℕ → Bool) → ((n : ℕ) → is_security n ≡ true → p n ≡ q n) → (m : ℕ)
    → some_below m (λ n. is_security n && p n) ≡ some_below m (λ n. is_security n && q n)
below_same p q f zero = refl
below_same p q f (suc m) = rw (below_same p q f m) (bool_cases (is_security m) (λ e. rw (e, f m e)) (λ e. rw e))

pub security_same : (p q : ℕ → Bool) → ((n : ℕ) → is_security n ≡ true → p n ≡ q n) → some_security p ≡ some_security q
unfolding some_security
security_same p q f = below_same p q f (length directory)

-- no wildcard reaches a security resource
pub fits_by_set : (a : Row) (n : ℕ) → is_security n ≡ true → resource_fits (resource_of n) a ≡ in_set a n
unfolding resource_fits
fits_by_set a n h = rw h (simp (and-false, or-false))

-- ---- a chosen sender alters no security resource
-- a sender with a credential row is a partner
row_partner : (t : Tables) (s : Sender) → is_row (sender_row t s) ≡ true → eqb (connection_of s) 1 ≡ true
row_partner t Unauthenticated e = e
row_partner t (Partner n) e = refl

-- a row that fits may fit: every role counts
fits_may : (clock : ℕ) (w : Row) (c : ℕ) (a : Row) → (is_row w ≡ true → eqb c 1 ≡ true) → subject_fits clock w c a ≡ true → may_fit w c a ≡ true
unfolding subject_fits subject_is may_fit role_fits
fits_may clock w c a one =
    bool_cases (eqb (ace_kind a) 0) (λ e. rw e (λ h. h))
    (λ e. bool_cases (eqb (ace_kind a) 1) (λ f. rw (e, f) (λ h. one (and_left (is_row w) _ h))) (λ f. rw (e, f) (λ h. h)))

-- a row that may not alter a security resource gives nothing to alter resource n by
gives_lacks : (clock : ℕ) (w : Row) (c n : ℕ) (a : Row) → (is_row w ≡ true → eqb c 1 ≡ true) → is_security n ≡ true
    → (may_fit w c a && row_alters a) ≡ false → alters (grants clock w c (resource_of n) a) ≡ false
unfolding grants row_fits row_alters has
gives_lacks clock w c n a one sec e =
    cond_cases (λ (p : ℕ). alters p ≡ false) (subject_fits clock w c a && resource_fits (resource_of n) a && in_force clock a)
    (λ f.
    let both = and_left (subject_fits clock w c a && resource_fits (resource_of n) a) _ f in
    let may = fits_may clock w c a one (and_left (subject_fits clock w c a) _ both) in
    bool_cases (some_security (λ m. resource_fits (resource_of m) a))
    (λ s. and_false_right (some_security (λ m. resource_fits (resource_of m) a)) _ (and_false_right (may_fit w c a) _ e may) s)
    (λ s. contradiction (and_right (subject_fits clock w c a) _ both) (security_lacks (λ m. resource_fits (resource_of m) a) n sec s)))
    (λ _. refl)

module _ (clock : ℕ) (chosen : Sender → Bool) (t : Tables) (s : Sender) (n : ℕ) (safe : Harmless chosen t)
    (c : chosen s ≡ true) (sec : is_security n ≡ true) (other : eqb n roles ≡ false) where
  -- access rows are all that it has anything by
  only_granted : effective clock t s n ≡ union_of (grants clock (sender_row t s) (connection_of s) (resource_of n)) (rows Aces t)
  unfolding effective_of by_owner names_owner by_no_owner by_roles
  only_granted = simp (sec, security_lacks (is_owner (head_of t) (sender_row t s)) n sec (safe.not_owner s c), safe.has_owner s c, other, or_zero_r)

  -- a chosen sender alters no security resource but roles
  pub effective_lacks : alters (effective clock t s n) ≡ false
  unfolding may_alter
  effective_lacks =
      let w = sender_row t s in
      let v = connection_of s in
      rw only_granted
      (union_lacks (grants clock w v (resource_of n)) (λ a. may_fit w v a && row_alters a)
      (λ a e. gives_lacks clock w v n a (row_partner t s) sec e) (rows Aces t) (safe.not_granted s c))
