-- Theorems, U1: the rows that a reply tells, sent as bodies one after the other, make the table again, except for asserted roles; and how long a reply gets.
-- The lengths of the owners' fields are those that the struct's types give.
use Rattle.rows.proofs.Prelude.{◌≡◌, refl, sym, ap, ◌∙◌, true, false, List, [], ◌∷◌, ◌++◌, map, append-nil, ℕ, ◌+◌, ◌-◌, ◌*◌, ◌≤◌, arith, length, take, drop}
use Rattle.rows.proofs.Prelude.{drop_of_length-le, length-append, length-drop, length-map, length-take, drop_at, length-take-le, ltb, eqb, eqb-true, le-ltb}
use Rattle.rows.proofs.Prelude.{bool_cases, cond_cases, and_left, and_right}
use native.Mathlib.Nat.{mul-div_cancel}
use Rattle.rows.specs.Rows.{Row, rows_of, joined, every, distinct_numbers, stored_all}
use Rattle.rows.proofs.Kept.{AllLong, every_long, length_joined, rows_of_joined}
use Rattle.rows.proofs.Restore.{restored}
use Rattle.rules.specs.declared.Tables.{Tables}
use Rattle.rules.specs.declared.Table.{Table}
use Rattle.rules.specs.declared.Table.TheVariants.{Creds, Aces}
use Rattle.rules.specs.Directory.{roles}
use Rattle.rules.specs.Record.{header_of, resource, sender}
use Rattle.rules.specs.Tables.{head_of, stride, longest, storable, row_of, rows, row_owner, sound, table_size}
use Rattle.rules.specs.Bodies.{cred_row_of, ace_row_of}
use Rattle.rules.specs.Roles.{body_of, without_roles, roles_in_force}
use Rattle.rules.specs.Permission.{sender_row}
use Rattle.rules.specs.Reading.{own_body, row_bytes, contents, reads, reply_to, reply_of, too_short, longest_reply}
use Rattle.rules.specs.Promises.Theorems.{holder, bare, rows_of_reply}
use Rattle.rules.proofs.Answers.{table_parts}
use Rattle.rules.proofs.BodyLaws.{sized, positive}
use Rattle.rules.proofs.TableLaws.{few_rows}
use Rattle.rules.proofs.RoleLaws.{body_long, in_force_short}
use Rattle.rules.proofs.RowMaps.{without_roles_body, distinct_map}
use Rattle.rules.specs.Sizes.{ace_row_size, cred_body_size, cred_row_size}

-- each row's body
abbrev pub bodies : Table → List Row → List (List ℕ)
bodies Creds ws = map body_of ws
bodies Aces ws = ws

pub reply_is : (clock : ℕ) (k : Table) (t : Tables) (w : Row) → contents clock t w (holder k) ≡ row_owner (head_of t) (holder k) ++ joined (bodies k (rows k t))
unfolding contents own_body row_bytes
reply_is clock Creds t w = refl
reply_is clock Aces t w = refl

pub owner_long : (k : Table) (t : Tables) → length t.rowners ≡ 64 → length (row_owner (head_of t) (holder k)) ≡ 16
unfolding row_owner
owner_long Creds t l = length-take-le 16 (drop 32 t.rowners) (rw length-drop (omega arith))
owner_long Aces t l = length-take-le 16 (drop 48 t.rowners) (rw length-drop (omega arith))

pub long_rows : (k : Table) (t : Tables) → sound t ≡ true → AllLong (stride k) (rows k t)
long_rows k t h = every_long (stride k) (storable k) (sized k) (rows k t) (table_parts k t h).stores

pub bodies_long : (ws : List Row) → AllLong cred_row_size ws → AllLong cred_body_size (map body_of ws)
bodies_long [] a = tt
bodies_long (w ∷ ws) a = (body_long w a.0, bodies_long ws a.1)

pub long_bodies : (k : Table) (t : Tables) → sound t ≡ true → AllLong (longest k) (bodies k (rows k t))
long_bodies Creds t h = bodies_long (rows Creds t) (long_rows Creds t h)
long_bodies Aces t h = long_rows Aces t h

pub read_rows_lem : (k : Table) (owner : List ℕ) (ws : List Row) → length owner ≡ 16 → AllLong (longest k) ws → rows_of_reply k (owner ++ joined ws) ≡ ws
read_rows_lem k owner ws l a =
    let bytes : length (owner ++ joined ws) - 16 ≡ length ws * longest k = rw length-append (omega (arith, length_joined (longest k) ws a)) in
    rw (bytes, mul-div_cancel (length ws) (positive k), drop_at owner (joined ws) 16 l)
    (ap (rows_of (longest k) (length ws)) (sym (append-nil (joined ws))) ∙ rows_of_joined (longest k) ws [] a)

-- a row that the table may hold, sent as its body, is the row that is stored, without what is asserted
pub rows_themselves : (k : Table) (ws : List Row) → every (storable k) ws ≡ true → map (row_of k) (bodies k ws) ≡ bare k ws
unfolding every cred_row_of ace_row_of without_roles
rows_themselves Creds [] h = refl
rows_themselves Creds (w ∷ ws) h =
    let l = sized Creds w (and_left _ _ h) in rw (body_long w l, l, rows_themselves Creds ws (and_right (storable Creds w) _ h))
rows_themselves Aces [] h = refl
rows_themselves Aces (w ∷ ws) h = rw (sized Aces w (and_left _ _ h), rows_themselves Aces ws (and_right (storable Aces w) _ h))

pub bare_distinct : (k : Table) (ws : List Row) → distinct_numbers ws ≡ true → distinct_numbers (bare k ws) ≡ true
bare_distinct Creds ws h = distinct_map without_roles without_roles_body ws ∙ h
bare_distinct Aces ws h = h

-- the rows of a reply, stored as bodies in an empty table, are the table's, without what is asserted
pub same_rows : (clock : ℕ) (k : Table) (t : Tables) (w : Row) → sound t ≡ true → length t.rowners ≡ 64
    → stored_all (map (row_of k) (rows_of_reply k (contents clock t w (holder k)))) [] ≡ bare k (rows k t)
same_rows clock k t w h l =
    let x = table_parts k t h in
    let told = read_rows_lem k (row_owner (head_of t) (holder k)) (bodies k (rows k t)) (owner_long k t l) (long_bodies k t h) in
    rw (reply_is clock k t w, told, rows_themselves k (rows k t) x.stores) (restored _ (bare_distinct k (rows k t) x.distinct))

-- ---- the longest reply

rows_short : (k : Table) (t : Tables) → sound t ≡ true → length (joined (bodies k (rows k t))) ≤ table_size Aces
rows_short Creds t h =
    omega (arith, length_joined cred_body_size (map body_of (rows Creds t)) (long_bodies Creds t h), length-map (rows Creds t) body_of, few_rows Creds t h)
rows_short Aces t h = omega (arith, length_joined ace_row_size (rows Aces t) (long_rows Aces t h), few_rows Aces t h)

parts_short : (clock : ℕ) (t : Tables) (w : Row) (n : ℕ) → sound t ≡ true → length t.devowner ≡ 16
    → length (own_body (head_of t) n) + length (row_bytes clock t w n) ≤ table_size Aces
unfolding own_body row_bytes
parts_short clock t w n h l =
    bool_cases (eqb n 0) (λ e. rw (eqb-true n 0 e) (omega (arith, l)))
    (λ a. bool_cases (eqb n 1) (λ e. rw (eqb-true n 1 e) (omega arith))
    (λ b. bool_cases (eqb n 2) (λ e. rw (eqb-true n 2 e) (omega (arith, rows_short Creds t h)))
    (λ c. bool_cases (eqb n 3) (λ e. rw (eqb-true n 3 e) (omega (arith, rows_short Aces t h)))
    (λ d. bool_cases (eqb n 4) (λ e. rw (eqb-true n 4 e) (omega (arith, in_force_short clock w)))
    (λ e. rw (a, b, c, d, e) (omega arith))))))

-- no reply is longer
pub reply_short : (clock : ℕ) (t : Tables) (w : Row) (n : ℕ) → sound t ≡ true → length t.devowner ≡ 16 → length (contents clock t w n) ≤ longest_reply
unfolding contents row_owner
reply_short clock t w n h l =
    simp length-append (omega (arith, parts_short clock t w n h l, length-take 16 (drop (n * 16) t.rowners)))

-- so a record with a buffer of that length never gets 15
pub capacity_enough : (clock : ℕ) (t : Tables) (r : List ℕ) → sound t ≡ true → length t.devowner ≡ 16 → too_short longest_reply (length (reply_of clock t r)) ≡ false
unfolding too_short reply_to
capacity_enough clock t r h l =
    cond_cases (λ (reply : List ℕ). ltb longest_reply (length reply) ≡ false) (reads (header_of r))
    (λ _. le-ltb longest_reply _ (reply_short clock t (sender_row t (sender r)) (resource r) h l)) (λ _. refl)

-- ---- the reply of roles (U11) has no row owner

pub roles_unowned : (t : Tables) → length t.rowners ≡ 64 → row_owner (head_of t) roles ≡ []
unfolding row_owner
roles_unowned t l = let h : length t.rowners ≤ 64 = omega arith in ap (take 16) (drop_of_length-le t.rowners h)

pub roles_reply : (clock : ℕ) (t : Tables) (w : Row) → length t.rowners ≡ 64 → contents clock t w roles ≡ joined (roles_in_force clock w)
unfolding contents own_body row_bytes
roles_reply clock t w l = rw (roles_unowned t l)
