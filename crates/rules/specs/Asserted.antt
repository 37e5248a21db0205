-- What asserted roles are in a credential row, and what asserting one leaves (U11).
use Rattle.std.specs.Prelude.{length, get_or, false, true, cond, List, [], ◌∷◌, map, ◌≡◌, ℕ}
use Rattle.rows.specs.Rows.{Row, numbered_as, without}
use Rattle.rules.specs.Bodies.{cred_storable}
use Rattle.rules.specs.Roles.{body_of, no_role, roles_sound, same_role, roles_of, free, roles_in_force, with_role}
use Rattle.rules.specs.Sizes.{cred_row_size, role_slot_size}
use Rattle.rules.specs.Permission.{sender_row}
use Rattle.rules.specs.Tables.{rows, with_rows}
use Rattle.rules.specs.declared.Sender.{Sender}
use Rattle.rules.specs.declared.Table.TheVariants.{Creds}
use Rattle.rules.specs.declared.Tables.{Tables}

-- the parts of a credential row
pub record Held (w : Row) : Type 0 where
  pub long : length w ≡ cred_row_size
  pub body : cred_storable (body_of w) ≡ true
  pub roles : roles_sound w ≡ true

-- a role in its place
abbrev pub Role : Row → Type 0
Role p = (length p ≡ role_slot_size) × (no_role p ≡ false)

-- at most two, and different ones
abbrev pub Few : List Row → Type 0
Few [] = Unit {0}
Few (p ∷ []) = Role p
Few (p ∷ q ∷ []) = Role p × Role q × (same_role p q ≡ false)
Few (p ∷ q ∷ r ∷ ps) = ⊥

-- the place with this number
abbrev pub role_slot : Row → ℕ → Row
role_slot w i = get_or (roles_of w) i []

-- the row v, or new where v has the number of own
unfoldable pub instead_of : Row → Row → Row → Row
instead_of own new v = cond (numbered_as own v) new v

-- of the tables before and after, for the sender s who asserted the body b at this clock
pub record RoleAsserted (clock : ℕ) (b : List ℕ) (s : Sender) (t t' : Tables) : Type 0 where
  -- each row is where it stood: the sender's own is its row afterwards, and every other is as it was
  pub rows_left : rows Creds t' ≡ map (instead_of (sender_row t s) (sender_row t' s)) (rows Creds t)
  -- the own row has the same body
  pub own_body : body_of (sender_row t' s) ≡ body_of (sender_row t s)
  -- at any clock: of the roles that were in force, and the new one instead of its equal or else at the end, those that are in force
  pub own_roles_lem : (later : ℕ) → roles_in_force later (sender_row t' s) ≡ without (free later) (with_role b (roles_in_force clock (sender_row t s)))
  -- access rows and all else in the tables are the same
  pub others : t' ≡ with_rows Creds t (rows Creds t')
