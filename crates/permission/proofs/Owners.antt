-- Owners have all five bits, and so has anybody while there is no owner: what else counts can add none.
-- Where neither is so, what the access rows give and what partners have on roles is all there is.
use Rattle.rows.proofs.Prelude.{◌≡◌, refl, sym, ap, ◌∙◌, Bool, true, false, ◌&&◌, ◌||◌, cond, List, [], ◌∷◌, ℕ, ◌<◌, arith, eqb, bit_or, or_zero_r, cond_cases, contradiction}
use lib.Bits.{or_add_and, or_comm, or_lt, and_le_r}
use Rattle.rows.specs.Rows.{Row, union_of}
use Rattle.rules.specs.declared.Resource.{Resource}
use Rattle.rules.specs.declared.Head.{Head}
use Rattle.rules.specs.Bodies.{ace_permission}
use Rattle.rules.specs.Directory.{roles}
use Rattle.rules.specs.Permission.{grants, row_fits, all, is_owner, by_owner, by_no_owner, by_roles, effective_of}
use Rattle.rules.proofs.BitLaws.{bits_small}

-- a set of the five bits adds nothing to all of them
with_all : (x : ℕ) → x < 32 → bit_or x all ≡ all
with_all x h = or_comm x all ∙ omega (arith, or_add_and all x, and_le_r all x, or_lt 5 all x (omega arith) h)

all_with : (x : ℕ) → x < 32 → bit_or all x ≡ all
all_with x h = or_comm all x ∙ with_all x h

if_below : (b : Bool) (x : ℕ) → x < 32 → cond b x 0 < 32
if_below b x h = cond_cases (λ (n : ℕ). n < 32) b (λ e. h) (λ e. omega arith)

union_below : (gives : Row → ℕ) → ((r : Row) → gives r < 32) → (rs : List Row) → union_of gives rs < 32
unfolding union_of
union_below gives h [] = omega arith
union_below gives h (r ∷ rs) = or_lt 5 (gives r) (union_of gives rs) (h r) (union_below gives h rs)

-- the union of the four sources, by whether the resource has owners (k), there is none (n), and the sender is one (o)
abbrev sources : ℕ → ℕ → Bool → Bool → Bool → ℕ
sources u s k n o = bit_or (bit_or (bit_or u (cond (k && o) all 0)) (cond (k && n) all 0)) s

all_by : (u s : ℕ) (k n o : Bool) → u < 32 → s < 32 → (k && (n || o)) ≡ true → sources u s k n o ≡ all
all_by u s true true o h g t =
    ap (λ (x : ℕ). bit_or x s) (with_all (bit_or u (cond o all 0)) (or_lt 5 u (cond o all 0) h (if_below o all (omega arith)))) ∙ all_with s g
all_by u s true false true h g t = ap (λ (x : ℕ). bit_or x s) (or_zero_r (bit_or u all) ∙ with_all u h) ∙ all_with s g
all_by u s true false false h g t = contradiction t refl
all_by u s false n o h g t = contradiction t refl

none_by : (u s : ℕ) (k n o : Bool) → (k && (n || o)) ≡ false → bit_or u s ≡ sources u s k n o
none_by u s true true o t = contradiction refl t
none_by u s true false true t = contradiction refl t
none_by u s true false false t = sym (ap (λ (x : ℕ). bit_or x s) (or_zero_r (bit_or u 0) ∙ or_zero_r u))
none_by u s false n o t = sym (ap (λ (x : ℕ). bit_or x s) (or_zero_r (bit_or u 0) ∙ or_zero_r u))

module _ (clock : ℕ) (h : Head) (rs : List Row) (w : Row) (connection : ℕ) (e : Resource) where
  granted_below : union_of (grants clock w connection e) rs < 32
  unfolding grants
  granted_below = union_below (grants clock w connection e) (λ r. if_below (row_fits clock w connection e r) (ace_permission r) (bits_small r 18 5)) rs

  shown_below : by_roles connection e < 32
  unfolding by_roles
  shown_below = if_below (eqb e.number roles && eqb connection 1) 6 (omega arith)

  pub all_five : (e.configuration && (eqb h.owned 0 || is_owner h w e.number)) ≡ true → effective_of clock h rs w connection e ≡ all
  unfolding effective_of by_owner by_no_owner
  all_five t =
      all_by (union_of (grants clock w connection e) rs) (by_roles connection e) e.configuration (eqb h.owned 0) (is_owner h w e.number)
      granted_below shown_below t

  pub no_owners : (e.configuration && (eqb h.owned 0 || is_owner h w e.number)) ≡ false
      → bit_or (union_of (grants clock w connection e) rs) (by_roles connection e) ≡ effective_of clock h rs w connection e
  unfolding effective_of by_owner by_no_owner
  no_owners = none_by (union_of (grants clock w connection e) rs) (by_roles connection e) e.configuration (eqb h.owned 0) (is_owner h w e.number)
