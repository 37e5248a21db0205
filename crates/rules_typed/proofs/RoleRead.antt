-- A credential row with a role asserted, read.
use Rattle.rows.proofs.Prelude.{◌≡◌, refl, sym, ap, ◌∙◌, true, false, List, [], ◌∷◌, map, ℕ, ◌+◌, ◌-◌, ◌*◌, ◌≤◌, arith, length, bool_cases, drop_at, cond_cases}
use Rattle.rows.proofs.Prelude.{replicate}
use Rattle.rows.specs.Rows.{Row, joined, packed, without as withoutRows}
use Rattle.rules.specs.Bits.{bits}
use Rattle.rules.specs.Bodies.{cred_subject}
use Rattle.rules.specs.Roles.{body_of, no_role, roles_of, cred_sound, asserted, with_role as withRoleBytes, both_taken as bothTakenBytes}
use Rattle.rules.specs.Roles.{roles_in_force as rolesInForceBytes, same_role as sameRoleBytes}
use Rattle.rules.specs.Sizes.{cred_body_size, roles_size}
use Rattle.rules.specs.Asserted.{Held, Few}
use Rattle.rules.proofs.RoleLaws.{held_parts, body_long, few_in_force, few_with_role, slots_in, few_slots, no_role_zeros, asserted_body}
use Rattle.rules.proofs.RoleLaws.{asserted_storable}
use Rattle.rules_typed.specs.Lists.{put}
use Rattle.rules_typed.specs.Permission.{same_asserted}
use Rattle.rules_typed.specs.Effect.{with_role}
use Rattle.rules_typed.specs.Reading.{asserted_of, credential_as}
use Rattle.rules_typed.specs.Tables.{is_bytes}
use Rattle.rules_typed.proofs.ListLaws.{Each}
use Rattle.rules_typed.proofs.ByteLaws.{Good, bytes_take, bits_take, part_within}
use Rattle.rules_typed.proofs.PermissionRead.{in_force_read}
use Rattle.rules_typed.proofs.RowsRead.{Place, role_same, in_force_good, bytes_join, zero_bytes}

-- rows with the same body have the same fields
module _ (v w : Row) (e : body_of v ≡ body_of w) where
  field_same : (s n : ℕ) → s + n ≤ 8 * cred_body_size → bits v s n ≡ bits w s n
  field_same s n h = sym (bits_take cred_body_size v s n h) ∙ ap (λ (x : List ℕ). bits x s n) e ∙ bits_take cred_body_size w s n h

  subject_same : cred_subject v ≡ cred_subject w
  subject_same = sym (part_within 2 16 cred_body_size v (omega arith)) ∙ ap cred_subject e ∙ part_within 2 16 cred_body_size w (omega arith)

-- ---- roles

pub few_there : (ps : List Row) → Few ps → withoutRows no_role ps ≡ ps
unfolding withoutRows
few_there [] f = refl
few_there (p ∷ []) f = rw f.1
few_there (p ∷ q ∷ []) (f, g, d) = rw (f.1, g.1)
few_there (p ∷ q ∷ r ∷ ps) f = absurd f

put_role : (b : Row) → is_bytes b ≡ true → length b ≡ 8 → (ps : List Row) → Each Place ps
    → put (same_asserted (asserted_of b)) (asserted_of b) (map asserted_of ps) ≡ map asserted_of (withRoleBytes b ps)
unfolding put withRoleBytes
put_role b h l [] q = refl
put_role b h l (p ∷ ps) q =
    rw (role_same b p h (omega arith) q.0.0 (omega (arith, q.0.1)))
    (bool_cases (sameRoleBytes b p) (λ e. rw e) (λ e. rw (e, put_role b h l ps q.1)))

module _ (clock : ℕ) (b w : Row) (g : Good cred_sound w) (h : is_bytes b ≡ true) (l : length b ≡ 8) (v : no_role b ≡ false)
    (room : bothTakenBytes b (rolesInForceBytes clock w) ≡ false) where
  held : Held w
  held = held_parts w g.0

  abbrev new : List Row
  new = withRoleBytes b (rolesInForceBytes clock w)

  few : Few new
  few = few_with_role b l v (rolesInForceBytes clock w) (few_in_force clock w held) room

  places_are : withoutRows no_role (roles_of (asserted clock b w)) ≡ new
  unfolding asserted
  places_are =
      ap (λ (x : List ℕ). withoutRows no_role (slots_in x)) (drop_at (body_of w) (packed roles_size new) cred_body_size (body_long w held.long))
      ∙ few_slots no_role no_role_zeros new few
      ∙ few_there new few

  roles_are : map asserted_of (withoutRows no_role (roles_of (asserted clock b w))) ≡ (with_role clock (asserted_of b) (credential_as w)).asserted
  roles_are = ap (map asserted_of) places_are ∙ sym (rw (in_force_read clock w) (put_role b h l (rolesInForceBytes clock w) (in_force_good clock w g)))

  pub asserted_read : credential_as (asserted clock b w) ≡ with_role clock (asserted_of b) (credential_as w)
  asserted_read =
      let a = asserted clock b w in
      let e = asserted_body clock b w held in
      rw (
        field_same a w e 0 16 (omega arith),
        subject_same a w e,
        field_same a w e 144 16 (omega arith),
        field_same a w e 160 16 (omega arith),
        field_same a
            w e 176 6 (omega arith),
        roles_are,
      )

  bytes_joined : (ps : List Row) → Each Place ps → is_bytes (joined ps) ≡ true
  unfolding joined is_bytes
  bytes_joined [] q = refl
  bytes_joined (p ∷ ps) q = bytes_join p (joined ps) q.0.0 (bytes_joined ps q.1)

  each_put : (ps : List Row) → Each Place ps → Each Place (withRoleBytes b ps)
  unfolding withRoleBytes
  each_put [] q = ((h, l), tt)
  each_put (p ∷ ps) q = cond_cases (Each Place) (sameRoleBytes b p) (λ _. ((h, l), q.1)) (λ _. (q.0, each_put ps q.1))

  pub asserted_good : Good cred_sound (asserted clock b w)
  unfolding asserted packed
  asserted_good = (
    asserted_storable clock b w held l v room,
    bytes_join (body_of w) (packed roles_size new) (bytes_take cred_body_size w g.1)
        (bytes_join (joined new) (replicate (roles_size - length (joined new)) 0)
        (bytes_joined new (each_put (rolesInForceBytes clock w) (in_force_good clock w g))) (zero_bytes (roles_size - length (joined new)))),
  )
