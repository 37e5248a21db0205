-- Asserted roles (U11): after its body a credential row has two slots for them, in order of arrival.
-- A role slot has the form of the body that asserts; an unused slot is zero.
use Rattle.std.specs.Prelude.{◌-◌, Bool, true, not, ◌&&◌, ◌||◌, cond, List, [], ◌∷◌, ◌++◌, eqb, leb, ltb, length, take, drop, replicate}
use Rattle.rows.specs.Rows.{Row, rows_of, packed, same, some, without}
use Rattle.rules.specs.Bits.{bits}
use Rattle.rules.specs.Sizes.{cred_body_size, role_slot_size, role_slots, roles_size, cred_row_size}
use Rattle.rules.specs.Bodies.{cred_storable}
use Rattle.rules.specs.Types.{Authority, Bytes, Clock, Role}

-- ---- roles, 8 bytes: authority (16), role (16), last second (32)

abbrev pub asserted_authority : Row → Authority
asserted_authority role = bits role 0 16

abbrev pub asserted_role : Row → Role
asserted_role role = bits role 16 16

abbrev pub asserted_last : Row → Clock
asserted_last role = bits role 32 32

-- there is none
unfoldable pub no_role : Row → Bool
no_role role = eqb (asserted_role role) 0

-- a slot without a role, or with one whose last second is before the clock
unfoldable pub free : Clock → Row → Bool
free clock role = no_role role || ltb (asserted_last role) clock

-- the same role of the same authority, whatever the last seconds
unfoldable pub same_role : Row → Row → Bool
same_role new role = same (take 4 role) (take 4 new)

-- no role occurs twice
unfoldable pub distinct_roles : List Row → Bool
distinct_roles [] = true
distinct_roles (role ∷ roles) = not (some (same_role role) roles) && distinct_roles roles

-- ---- a credential row, 39 bytes: the longest body that stores it (23), and the role slots (2 of 8)

abbrev pub body_of : Row → Bytes
body_of cred = take cred_body_size cred

-- its role slots, used or not
abbrev pub roles_of : Row → List Row
roles_of cred = rows_of role_slot_size role_slots (drop cred_body_size cred)

unfoldable pub roles_in_force : Clock → Row → List Row
roles_in_force clock cred = without (free clock) (roles_of cred)

-- the row that a body of 23 bytes stores: nothing is asserted
abbrev pub unasserted : Bytes → Row
unasserted b = b ++ replicate roles_size 0

-- the row with zeros in its role slots
unfoldable pub without_roles : Row → Row
without_roles cred = body_of cred ++ replicate (length cred - cred_body_size) 0

-- the slots have the roles that are there, different ones, and after them zeros
unfoldable pub roles_sound : Row → Bool
roles_sound cred =
    let held = without no_role (roles_of cred) in
    same (drop cred_body_size cred) (packed roles_size held) && distinct_roles held

-- a row as a sound table has it
unfoldable pub cred_sound : Row → Bool
cred_sound cred = eqb (length cred) cred_row_size && cred_storable (body_of cred) && roles_sound cred

-- ---- a role is asserted

-- instead of the equal role, else at the end
unfoldable pub with_role : Row → List Row → List Row
with_role new [] = new ∷ []
with_role new (role ∷ roles) = cond (same_role new role) (new ∷ roles) (role ∷ with_role new roles)

-- both slots have other roles
unfoldable pub both_taken : Row → List Row → Bool
both_taken new roles = leb role_slots (length roles) && not (some (same_role new) roles)

-- the credential row afterwards: roles that are not in force go first
unfoldable pub asserted : Clock → Bytes → Row → Row
asserted clock b cred = body_of cred ++ packed roles_size (with_role b (roles_in_force clock cred))
