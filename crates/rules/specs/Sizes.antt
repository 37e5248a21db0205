-- Sizes in bytes, a name for each: definitions, contracts and proofs cite them.
-- The code's constants of the same names have the same values (CRED_BODY, CRED_PLACE, CRED_ROW, ACE_ROW).
use Rattle.std.specs.Prelude.{◌+◌, ◌*◌}
use Rattle.rules.specs.Types.{Size}

-- the longest body that stores a credential
abbrev pub cred_body_size : Size
cred_body_size = 23

-- a slot for an asserted role (U11); a credential row has two
abbrev pub role_slot_size : Size
role_slot_size = 8

abbrev pub role_slots : Size
role_slots = 2

-- the slots together
abbrev pub roles_size : Size
roles_size = role_slots * role_slot_size

-- a credential row: the body, and the role slots
abbrev pub cred_row_size : Size
cred_row_size = cred_body_size + roles_size

-- an access row, which is its longest body
abbrev pub ace_row_size : Size
ace_row_size = 36
