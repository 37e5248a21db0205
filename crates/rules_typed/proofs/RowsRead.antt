-- Keys, asserted roles and new rows, read: a number is its two bytes, a role its four, and a row that a body stores has bytes.
use Rattle.rows.proofs.Prelude.{◌≡◌, refl, sym, ap, ap₂, ◌∙◌, Bool, true, false, ◌&&◌, cond, List, [], ◌∷◌, ◌++◌, ℕ, zero, suc, ◌/◌, ◌%◌, ◌≤◌, arith, length}
use Rattle.rows.proofs.Prelude.{take, drop, eqb, ltb, cond_cases, and_left, and_right, and_both, and-true, and-false, replicate, length-map, length-take-le}
use Rattle.rows.proofs.Prelude.{length-drop, take_all}
use lib.Seq.{take-add}
use Rattle.rows.specs.Rows.{Row, same, has_key, rows_of, without as withoutRows}
use Rattle.rules.specs.declared.Table.{Table}
use Rattle.rules.specs.declared.Table.TheVariants.{Creds, Aces}
use Rattle.rules.specs.Bits.{bit, bits, be16}
use Rattle.rules.specs.Bodies.{row_number, cred_subject, cred_row_of, ace_row_of, every_second}
use Rattle.rules.specs.Roles.{no_role, free, roles_of, cred_sound, asserted_role, asserted_authority, same_role as sameRoleBytes, both_taken as bothTakenBytes}
use Rattle.rules.specs.Roles.{roles_in_force as rolesInForceBytes}
use Rattle.rules.specs.Sizes.{cred_body_size, roles_size}
use Rattle.rules.specs.Tables.{row_of}
use Rattle.rules.proofs.RecordLaws.{key_is}
use Rattle.rules.proofs.BodyLaws.{sized}
use Rattle.rules_typed.specs.Lists.{Maybe, holds}
use Rattle.rules_typed.specs.Types.{Credential}
use Rattle.rules_typed.specs.Permission.{same_role, same_asserted, roles_in_force}
use Rattle.rules_typed.specs.Checks.{both_taken}
use Rattle.rules_typed.specs.Reading.{asserted_of}
use Rattle.rules_typed.specs.Tables.{is_bytes}
use Rattle.rules_typed.proofs.ListLaws.{Each, any_read}
use Rattle.rules_typed.proofs.ByteLaws.{Good, byte_at, bytes_take, bytes_drop, two_same, two_bytes}
use Rattle.rules_typed.proofs.PermissionRead.{Reads, absent, present, in_force_read}

-- ---- bytes joined are bytes

pub bytes_join : (a b : List ℕ) → is_bytes a ≡ true → is_bytes b ≡ true → is_bytes (a ++ b) ≡ true
unfolding is_bytes
bytes_join [] b h i = i
bytes_join (x ∷ a) b h i = and_both (ltb x 256) _ (and_left (ltb x 256) _ h) (bytes_join a b (and_right (ltb x 256) _ h) i)

pub zero_bytes : (n : ℕ) → is_bytes (replicate n 0) ≡ true
unfolding is_bytes
zero_bytes zero = refl
zero_bytes (suc n) = zero_bytes n

by_length : (P : List ℕ → Type 0) (n m : ℕ) {x y : List ℕ} → P x → P y → P (cond (eqb n m) x y)
by_length P n m f g = cond_cases P (eqb n m) (λ _. f) (λ _. g)

-- the row that a body stores
pub row_bytes_lem : (k : Table) (b : List ℕ) → is_bytes b ≡ true → is_bytes (row_of k b) ≡ true
unfolding cred_row_of ace_row_of every_second is_bytes
row_bytes_lem Creds b h =
    bytes_join (cred_row_of b) (replicate roles_size 0)
    (by_length (λ x. is_bytes x ≡ true) (length b) cred_body_size h
    (by_length (λ x. is_bytes x ≡ true) (length b) 21 (bytes_join (take 20 b) (0 ∷ 0 ∷ drop 20 b) (bytes_take 20 b h) (bytes_drop 20 b h))
    (zero_bytes cred_body_size)))
    (zero_bytes roles_size)
row_bytes_lem Aces b h =
    by_length (λ x. is_bytes x ≡ true) (length b) 36 h
    (by_length (λ x. is_bytes x ≡ true) (length b) 28 (bytes_join b every_second h refl) (zero_bytes 36))

-- ---- keys of DELETE

pub number_key : (b w : List ℕ) → is_bytes b ≡ true → length b ≡ 2 → is_bytes w ≡ true → 2 ≤ length w → eqb (row_number w) (row_number b) ≡ has_key 0 b w
unfolding has_key
number_key b w h l i m =
    let whole : take 2 b ≡ b = take_all 2 b (omega arith) in
    sym (ap (λ (n : ℕ). same (take n w) b) l
    ∙ ap₂ same (two_bytes w i m) (sym whole ∙ two_bytes b h (omega arith)) ∙ two_same (row_number w) (row_number b))

pub subject_key : (b w : List ℕ) → length b ≡ 16 → same (cred_subject w) b ≡ has_key 2 b w
unfolding has_key
subject_key b w l = ap (λ (n : ℕ). same (take n (drop 2 w)) b) (sym l)

-- ---- asserted roles

four_bytes : (p : Row) → is_bytes p ≡ true → 4 ≤ length p → take 4 p ≡ be16 (asserted_authority p) ++ be16 (asserted_role p)
four_bytes p h l =
    take-add 2 2 p
    ∙ ap₂ (λ (x y : List ℕ). x ++ y) (sym (key_is p 0 (omega arith) (byte_at p h 0) (byte_at p h 1)))
    (sym (key_is p 2 (omega arith) (byte_at p h 2) (byte_at p h 3)))

and_swap : (a b c : Bool) → (a && (b && c)) ≡ (c && (a && (b && true)))
and_swap true true c = sym (and-true c)
and_swap true false c = sym (and-false c)
and_swap false b c = sym (and-false c)

same_join : (a b x y : ℕ) → same (be16 a ++ be16 b) (be16 x ++ be16 y) ≡ (same (be16 b) (be16 y) && same (be16 a) (be16 x))
unfolding same be16
same_join a b x y = and_swap (eqb (a / 256) (x / 256)) (eqb (a % 256) (x % 256)) _

pub role_same : (new p : Row) → is_bytes new ≡ true → 4 ≤ length new → is_bytes p ≡ true → 4 ≤ length p
    → same_asserted (asserted_of new) (asserted_of p) ≡ sameRoleBytes new p
unfolding same_role sameRoleBytes
role_same new p h l i m =
    sym (ap₂ same (four_bytes p i m) (four_bytes new h l)
    ∙ same_join (asserted_authority p) (asserted_role p) (asserted_authority new) (asserted_role new)
    ∙ ap₂ (λ (x y : Bool). x && y) (two_same (asserted_role p) (asserted_role new)) (two_same (asserted_authority p) (asserted_authority new)))

-- a place of a credential row
abbrev pub Place : Row → Type 0
Place p = (is_bytes p ≡ true) × (length p ≡ 8)

pub each_without : (Q : Row → Type 0) (f : Row → Bool) (ws : List Row) → Each Q ws → Each Q (withoutRows f ws)
unfolding withoutRows
each_without Q f [] q = tt
each_without Q f (w ∷ ws) q = cond_cases (Each Q) (f w) (λ _. each_without Q f ws q.1) (λ _. (q.0, each_without Q f ws q.1))

pub places_good : (w : Row) → Good cred_sound w → Each Place (roles_of w)
unfolding rows_of
places_good w g =
    let x = drop cred_body_size w in
    let l : length x ≡ 16 = rw length-drop (omega (arith, sized Creds w g.0)) in
    let h = bytes_drop cred_body_size w g.1 in (
      (bytes_take 8 x h, length-take-le 8 x (omega arith)),
      ((bytes_take 8 (drop 8 x) (bytes_drop 8 x h), length-take-le 8 (drop 8 x) (rw length-drop (omega arith))), tt),
    )

pub in_force_good : (clock : ℕ) (w : Row) → Good cred_sound w → Each Place (rolesInForceBytes clock w)
unfolding rolesInForceBytes
in_force_good clock w g = each_without Place (free clock) (roles_of w) (places_good w g)

-- a sender with no row has none
pub no_row_roles : (clock : ℕ) → rolesInForceBytes clock [] ≡ []
unfolding rolesInForceBytes rows_of withoutRows free no_role bits bit
no_row_roles clock = refl

pub taken_read : (clock : ℕ) (b w : Row) (m : Maybe Credential) → Reads w m → is_bytes b ≡ true → length b ≡ 8
    → holds m (λ c. both_taken (asserted_of b) (roles_in_force clock c)) ≡ bothTakenBytes b (rolesInForceBytes clock w)
unfolding bothTakenBytes both_taken
taken_read clock b w m absent h l = rw (no_row_roles clock)
taken_read clock b w m (present _ g) h l =
    let ps = rolesInForceBytes clock w in
    let any_same =
    any_read asserted_of Place (sameRoleBytes b) (same_asserted (asserted_of b)) (λ p q. role_same b p h (omega arith) q.0 (omega (arith, q.1))) ps
    (in_force_good clock w g) in
    rw (in_force_read clock w, length-map, any_same)
