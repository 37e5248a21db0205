-- Credential rows that change after their bodies only: what finds, stores, removes or counts rows by their bodies does not see it.
-- The change is any function of a row that keeps the row's body; `without_roles` is one.
use Rattle.rows.proofs.Prelude.{◌≡◌, refl, sym, ap, ◌∙◌, Bool, true, List, [], ◌∷◌, ◌++◌, map, ℕ, zero, suc, ◌+◌, ◌-◌, ◌≤◌, arith, length, take, drop}
use Rattle.rows.proofs.Prelude.{replicate, take-take, bool_cases, contradiction}
use native.Mathlib.Nat.{zero-sub, suc-sub-suc}
use Rattle.rows.specs.Rows.{Row, same, has_key, numbered_as, first_row, rows_before, some, without, distinct_numbers, stored}
use Rattle.rules.specs.declared.Key.{Key}
use Rattle.rules.specs.declared.Key.TheVariants.{All, Number, Subject}
use Rattle.rules.specs.Keys.{goes}
use Rattle.rules.proofs.BodyLaws.{reach}
use Rattle.rules.specs.Bits.{be16}
use Rattle.rules.specs.Roles.{body_of, without_roles}
use Rattle.rules.specs.Permission.{numbered}
use Rattle.rules.specs.Sizes.{cred_body_size}

-- a part within the first m bytes
part_within : (a l m : ℕ) (w : List ℕ) → a + l ≤ m → take l (drop a (take m w)) ≡ take l (drop a w)
part_within zero l m w h = take-take l m w (omega arith)
part_within (suc a) l zero w h = absurd (omega arith)
part_within (suc a) l (suc m) [] h = refl
part_within (suc a) l (suc m) (x ∷ w) h = part_within a l m w (omega arith)

take_padded : (m : ℕ) (w : List ℕ) → take m (take m w ++ replicate (length w - m) 0) ≡ take m w
take_padded zero w = refl
take_padded (suc m) [] = rw (zero-sub (suc m))
take_padded (suc m) (x ∷ w) = rw (suc-sub-suc (length w) m) (ap (λ (l : List ℕ). x ∷ l) (take_padded m w))

pub without_roles_body : (w : Row) → body_of (without_roles w) ≡ body_of w
unfolding without_roles
without_roles_body w = take_padded cred_body_size w

module _ (f : Row → Row) (keeps : (w : Row) → body_of (f w) ≡ body_of w) where
  -- a part of the body
  pub part_same : (a l : ℕ) → a + l ≤ cred_body_size → (w : Row) → take l (drop a (f w)) ≡ take l (drop a w)
  part_same a l h w = sym (part_within a l cred_body_size (f w) h) ∙ ap (λ (x : List ℕ). take l (drop a x)) (keeps w) ∙ part_within a l cred_body_size w h

  pub key_same : (at : ℕ) (key : List ℕ) → at + length key ≤ cred_body_size → (w : Row) → has_key at key (f w) ≡ has_key at key w
  unfolding has_key
  key_same at key h w = ap (λ (x : List ℕ). same x key) (part_same at (length key) h w)

  pub goes_same : (key : Key) (b : List ℕ) → reach key b ≤ cred_body_size → (w : Row) → goes key b (f w) ≡ goes key b w
  goes_same All b h w = refl
  goes_same Number b h w = key_same 0 b (omega (arith, h)) w
  goes_same Subject b h w = key_same 2 b h w

  pub numbered_same : (n : ℕ) (w : Row) → numbered n (f w) ≡ numbered n w
  unfolding be16
  numbered_same n w = key_same 0 (be16 n) (omega arith) w

  pub two_same : (w : Row) → take 2 (f w) ≡ take 2 w
  two_same w = part_same 0 2 (omega arith) w

  pub as_same : (new w : Row) → numbered_as new (f w) ≡ numbered_as new w
  unfolding numbered_as
  as_same new w = ap (λ (x : List ℕ). same x (take 2 new)) (two_same w)

  new_same : (new : Row) → numbered_as (f new) ≡ numbered_as new
  unfolding numbered_as
  new_same new = ap {B = Row → Bool} (λ x w. same (take 2 w) x) (two_same new)

  -- ---- a test that does not see the change
  module _ (p : Row → Bool) (sees : (w : Row) → p (f w) ≡ p w) where
    pub some_map : (ws : List Row) → some p (map f ws) ≡ some p ws
    unfolding some
    some_map [] = refl
    some_map (w ∷ ws) = rw (sees w, some_map ws)

    pub before_map : (ws : List Row) → rows_before p (map f ws) ≡ rows_before p ws
    unfolding rows_before
    before_map [] = refl
    before_map (w ∷ ws) = rw (sees w, before_map ws)

    pub without_map : (ws : List Row) → map f (without p ws) ≡ without p (map f ws)
    unfolding without
    without_map [] = refl
    without_map (w ∷ ws) = bool_cases (p w) (λ e. rw (sees w, e, without_map ws)) (λ e. rw (sees w, e, without_map ws))

    pub first_map : f [] ≡ [] → (ws : List Row) → first_row p (map f ws) ≡ f (first_row p ws)
    unfolding first_row
    first_map z [] = sym z
    first_map z (w ∷ ws) = bool_cases (p w) (λ e. rw (sees w, e)) (λ e. rw (sees w, e) (first_map z ws))

  -- ---- storing, and distinct numbers
  pub stored_map : (new : Row) (ws : List Row) → map f (stored new ws) ≡ stored (f new) (map f ws)
  unfolding stored
  stored_map new [] = refl
  stored_map new (w ∷ ws) =
      rw (new_same new, as_same new w) (bool_cases (numbered_as new w) (λ e. rw e) (λ e. rw (e, stored_map new ws)))

  -- a row stored over a row that it is equal to except for the change
  pub stored_over : (new : Row) (ws : List Row) → some (numbered_as new) ws ≡ true → f new ≡ f (first_row (numbered_as new) ws) → map f (stored new ws) ≡ map f ws
  unfolding stored some first_row
  stored_over new [] h e = contradiction h refl
  stored_over new (w ∷ ws) h e =
      bool_cases (numbered_as new w) (λ i. rw (i, rw i at e)) (λ i. rw (i, stored_over new ws (rw i at h) (rw i at e)))

  pub distinct_map : (ws : List Row) → distinct_numbers (map f ws) ≡ distinct_numbers ws
  unfolding distinct_numbers
  distinct_map [] = refl
  distinct_map (w ∷ ws) = rw (new_same w, some_map (numbered_as w) (as_same w) ws, distinct_map ws)

  -- the bodies are the same
  pub bodies_map : (ws : List Row) → map body_of (map f ws) ≡ map body_of ws
  bodies_map [] = refl
  bodies_map (w ∷ ws) = rw (keeps w, bodies_map ws)
