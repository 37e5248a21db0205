-- Theorems over examples of U11: roles asserted on the day, renewed, over, and dropped; who may assert, where and when; what is read, and what the links see.
-- And a run in which a chosen partner asserts: what is compared is the same, and more is not.
use Rattle.rows.proofs.Prelude.{◌≡◌, refl, true, false, List, [], ◌∷◌, ◌++◌, map, ℕ, take, replicate}
use Rattle.rows.specs.Rows.{Row}
use Rattle.rules.specs.declared.Tables.{Tables}
use Rattle.rules.specs.declared.Table.TheVariants.{Creds, Aces}
use Rattle.rules.specs.Directory.{some_security}
use Rattle.rules.specs.declared.Sender.TheVariants.{Unauthenticated, Partner}
use Rattle.rules.specs.Record.{Request, received}
use Rattle.rules.specs.Bodies.{nil}
use Rattle.rules.specs.Roles.{unasserted, without_roles, roles_in_force, cred_sound}
use Rattle.rules.specs.Tables.{rows, with_rows, with_state}
use Rattle.rules.specs.Defaults.{no_defaults, fresh}
use Rattle.rules.specs.Permission.{sender_row}
use Rattle.rules.specs.Promises.Theorems.{effective}
use Rattle.rules.specs.Links.{own_record, permits, set_of}
use Rattle.rules.specs.Outcome.{response_to, tables_after}
use Rattle.rules.specs.Run.{replies, final, Along, kept, kept_of}
use Rattle.rules.specs.Promises.Storing.{in_clear, AllStored}
use Rattle.rules.specs.Isolation.{Premise, is_others, names_owner, row_alters, may_fit, may_alter, compared}
use Rattle.rules.proofs.Samples.{samples, uuid, cred_row, with_creds, serving, ace_row, haulier_row, yard}
use Rattle.rules_examples.proofs.Grants.{foreman}
use Rattle.rules_examples.proofs.Isolation.{chosen7, calm, calm_harmless}
use Rattle.rules.proofs.Restored.{reply_judged_clear}
use Rattle.rules.proofs.Isolated.{isolation}

-- state 3, the owner in row 5, a haulier in row 7; role 7 of authority 1 may read /tare and read and update /yard
pub today : Tables
today =
    with_creds (serving (ace_row 1 1 2 0 (0 ∷ 0x40 ∷ replicate 6 0) (foreman 1) ∷ ace_row 2 1 6 0 (0 ∷ 0 ∷ 0x80 ∷ replicate 5 0) (foreman 1) ∷ []))
    (cred_row 5 ∷ haulier_row 7 ∷ [])

-- a body of 8 bytes
pub role : ℕ → ℕ → ℕ → List ℕ
role authority n last = 0 ∷ authority ∷ 0 ∷ n ∷ 0 ∷ 0 ∷ 0 ∷ last ∷ []

-- UPDATE of roles by the haulier, and RETRIEVE of /tare, at a clock
pub asserts : ℕ → List ℕ → Request
asserts clock b = received clock (0x51 ∷ 0x00 ∷ 0x00 ∷ 0x07 ∷ b) 0

pub tare : ℕ → Request
tare clock = received clock (0x32 ∷ 0x40 ∷ 0x00 ∷ 0x07 ∷ []) 0

-- the haulier's row with these roles
pub haulier_with : List ℕ → Row
haulier_with roles = haulier_row 7 ++ roles

pub roles_after : List Request → List Row
roles_after qs = rows Creds (final (tables_after no_defaults) today qs)

pub answers : List Request → List ℕ
answers qs = replies (λ t q. (response_to no_defaults t q).answer) (tables_after no_defaults) today qs

-- `unfolding the_day` opens all that these examples say
the_day : Unit {0}
unfolding samples permits own_record set_of row_alters may_fit may_alter some_security today role asserts tare haulier_with roles_after answers foreman
    chosen7
the_day = tt

-- ---- before it is asserted, while it holds, on its last second and after

pub held_today : answers (tare 40 ∷ asserts 50 (role 1 7 100) ∷ tare 50 ∷ tare 100 ∷ tare 101 ∷ tare 0 ∷ []) ≡ 8 ∷ 0 ∷ 0 ∷ 0 ∷ 8 ∷ 0 ∷ []
unfolding the_day
held_today = refl

-- it fits with its authority alone
pub other_authority : answers (asserts 50 (role 2 7 100) ∷ tare 50 ∷ []) ≡ 0 ∷ 8 ∷ []
unfolding the_day
other_authority = refl

-- ---- the haulier has two roles

pub two_roles : Tables
two_roles = with_rows Creds today (unasserted (cred_row 5) ∷ haulier_with (role 1 7 100 ++ role 0 3 90) ∷ [])

-- ---- added at the end; an equal role is renewed in its place, also with an earlier second

pub added : final (tables_after no_defaults) today (asserts 50 (role 1 7 100) ∷ asserts 50 (role 0 3 90) ∷ []) ≡ two_roles
unfolding the_day two_roles
added = refl

pub renewed_in_place : rows Creds (tables_after no_defaults two_roles (asserts 60 (role 1 7 80)))
    ≡ unasserted (cred_row 5) ∷ haulier_with (role 1 7 80 ++ role 0 3 90) ∷ []
unfolding the_day two_roles
renewed_in_place = refl

-- ---- a third gets 22 while both are in force, their last seconds included; then expired roles go first, and the order is that of arrival

pub third : map (λ clock. (response_to no_defaults two_roles (asserts clock (role 0 4 200))).answer) (90 ∷ 91 ∷ 101 ∷ []) ≡ 22 ∷ 0 ∷ 0 ∷ []
unfolding the_day two_roles
third = refl

pub closed_up :
    map (λ clock. rows Creds (tables_after no_defaults two_roles (asserts clock (role 0 4 200)))) (91 ∷ 101 ∷ [])
    ≡ (unasserted (cred_row 5) ∷ haulier_with (role 1 7 100 ++ role 0 4 200) ∷ []) ∷
    (unasserted (cred_row 5) ∷ haulier_with (role 0 4 200 ++ replicate 8 0) ∷ []) ∷ []
unfolding the_day two_roles
closed_up = refl

-- the first expires before the second: the second comes to the first place
pub moved_up : roles_after (asserts 50 (role 1 7 80) ∷ asserts 50 (role 0 3 90) ∷ asserts 81 (role 0 4 200) ∷ [])
    ≡ unasserted (cred_row 5) ∷ haulier_with (role 0 3 90 ++ role 0 4 200) ∷ []
unfolding the_day
moved_up = refl

-- an expired role goes first, so that its equal arrives at the end
pub arrives_anew : roles_after (asserts 50 (role 1 7 80) ∷ asserts 50 (role 0 3 90) ∷ asserts 81 (role 1 7 200) ∷ [])
    ≡ unasserted (cred_row 5) ∷ haulier_with (role 0 3 90 ++ role 1 7 200) ∷ []
unfolding the_day
arrives_anew = refl

-- an expired role can be asserted, and is never in force
pub already_expired : answers (asserts 50 (role 1 7 40) ∷ tare 50 ∷ []) ≡ 0 ∷ 8 ∷ []
unfolding the_day
already_expired = refl

-- ---- refusals

-- outside RFNOP; over connection 0 while there is no owner, in RFOTM; role 0; 16 bytes; 7 bytes;
-- DELETE, by a partner and by the owner; UPDATE over connection 0; a partner without a row
pub refused_today :
    map (λ (e : Tables × List ℕ). (response_to no_defaults e.0 (received 50 e.1 0)).answer)
    ((with_state today 2, 0x51 ∷ 0x00 ∷ 0x00 ∷ 0x07 ∷ role 1 7 100)
    ∷ (fresh no_defaults, 0x41 ∷ 0x00 ∷ 0x00 ∷ 0x00 ∷ role 1 7 100)
    ∷ (today, 0x51 ∷ 0x00 ∷ 0x00 ∷ 0x07 ∷ role 1 0 100)
    ∷ (today, 0x51 ∷ 0x00 ∷ 0x00 ∷ 0x05 ∷ uuid)
    ∷ (today, 0x51 ∷ 0x00 ∷ 0x00 ∷ 0x07 ∷ replicate 7 1)
    ∷ (today, 0x71 ∷ 0x00 ∷ 0x00 ∷ 0x07 ∷ [])
    ∷ (today, 0x71 ∷ 0x00 ∷ 0x00 ∷ 0x05 ∷ [])
    ∷ (today, 0x41 ∷ 0x00 ∷ 0x00 ∷ 0x00 ∷ role 1 7 100)
    ∷ (today, 0x51 ∷ 0x00 ∷ 0x00 ∷ 0x09 ∷ role 1 7 100)
    ∷ [])
    ≡ 11 ∷ 11 ∷ 10 ∷ 10 ∷ 10 ∷ 8 ∷ 9 ∷ 8 ∷ 7 ∷ []
unfolding the_day
refused_today = refl

-- permission on roles: a partner, the device owner, nobody in particular, and anybody while there is no owner
pub permitted_today : effective 0 today (Partner 7) 4 ∷ effective 0 today (Partner 5) 4 ∷ effective 0
    today Unauthenticated 4 ∷ effective 0 (fresh no_defaults) Unauthenticated 4 ∷ []
    ≡ 6 ∷ 31 ∷ 0 ∷ 31 ∷ []
unfolding the_day
permitted_today = refl

-- ---- reading

pub read_as : ℕ → ℕ → List ℕ → List ℕ
read_as clock capacity r = let o = response_to no_defaults two_roles (received clock r capacity) in o.answer ∷ o.contents

-- both; one; none; another partner; a buffer that is too short; OBSERVE; connection 0 while there is no owner; and the reply of cred, in which no role is
pub read_today :
    read_as 90 16 (0x31 ∷ 0x00 ∷ 0x00 ∷ 0x07 ∷ [])
    ∷ read_as 91 16 (0x31 ∷ 0x00 ∷ 0x00 ∷ 0x07 ∷ [])
    ∷ read_as 101 16 (0x31 ∷ 0x00 ∷ 0x00 ∷ 0x07 ∷ [])
    ∷ read_as 90 16 (0x31 ∷ 0x00 ∷ 0x00 ∷ 0x05 ∷ [])
    ∷ read_as 90 15 (0x31 ∷ 0x00 ∷ 0x00 ∷ 0x07 ∷ [])
    ∷ read_as 90 0 (0x91 ∷ 0x00 ∷ 0x00 ∷ 0x07 ∷ [])
    ∷ ((response_to no_defaults (fresh no_defaults) (received 90 (0x21 ∷ 0x00 ∷ 0x00 ∷ 0x00 ∷ []) 0)).answer ∷
    (response_to no_defaults (fresh no_defaults) (received 90 (0x21 ∷ 0x00 ∷ 0x00 ∷ 0x00 ∷ []) 0)).contents)
    ∷ read_as 90 62 (0x30 ∷ 0x80 ∷ 0x00 ∷ 0x05 ∷ [])
    ∷ []
    ≡ (0 ∷ (role 1 7 100 ++ role 0 3 90)) ∷ (0 ∷ role 1 7 100) ∷ (0 ∷ []) ∷ (0 ∷ [])
    ∷ (15 ∷ []) ∷ (0 ∷ []) ∷ (0 ∷ []) ∷ (0 ∷ (nil ++ cred_row 5 ++ haulier_row 7)) ∷ []
unfolding the_day two_roles read_as
read_today = refl

-- U1: the rows of that reply, sent over connection 0 to a fresh terminal, are stored, without the roles
pub read_back :
    AllStored no_defaults Creds (fresh no_defaults)
    (map (λ b. received 0 (in_clear Creds b) 0) (cred_row 5 ∷ haulier_row 7 ∷ []))
    (unasserted (cred_row 5) ∷ unasserted (haulier_row 7) ∷ [])
unfolding the_day two_roles without_roles
read_back =
    reply_judged_clear no_defaults Creds two_roles (fresh no_defaults) (received 90 (0x30 ∷ 0x80 ∷ 0x00 ∷ 0x05 ∷ []) 62)
    (map (λ b. received 0 (in_clear Creds b) 0) (cred_row 5 ∷ haulier_row 7 ∷ []))
    refl (record { retrieves = refl; on = refl; permitted = refl }) refl refl refl refl

-- ---- replacing or deleting the credential row drops them, and RESET

-- records of the owner, in RFPRO
pub owner_does : List ℕ → List ℕ → Tables
owner_does header b = tables_after no_defaults (with_state two_roles 2) (received 60 (header ++ b) 0)

-- the same body again; by number; by subject; all rows; a body for another row keeps them
pub dropped :
    rows Creds (owner_does (0x50 ∷ 0x80 ∷ 0x00 ∷ 0x05 ∷ []) (haulier_row 7))
    ∷ rows Creds (owner_does (0x70 ∷ 0x80 ∷ 0x00 ∷ 0x05 ∷ []) (0x00 ∷ 0x07 ∷ []))
    ∷ rows Creds (owner_does (0x70 ∷ 0x80 ∷ 0x00 ∷ 0x05 ∷ []) (replicate 16 0x22))
    ∷ rows Creds (owner_does (0x70 ∷ 0x80 ∷ 0x00 ∷ 0x05 ∷ []) [])
    ∷ rows Creds (owner_does (0x50 ∷ 0x80 ∷ 0x00 ∷ 0x05 ∷ []) (cred_row 5))
    ∷ []
    ≡ (unasserted (cred_row 5) ∷ unasserted (haulier_row 7) ∷ []) ∷ (unasserted (cred_row 5) ∷ []) ∷
    (unasserted (cred_row 5) ∷ []) ∷ [] ∷ (unasserted (cred_row 5) ∷ haulier_with (role 1 7 100 ++ role 0 3 90) ∷ []) ∷ []
unfolding the_day two_roles owner_does
dropped = refl

pub dropped_by_reset : owner_does (0x50 ∷ 0x40 ∷ 0x00 ∷ 0x05 ∷ []) (0x00 ∷ []) ≡ fresh no_defaults
unfolding the_day two_roles owner_does
dropped_by_reset = refl

-- ---- what sound tables hold: nothing; one role; two; not only the second place; not a
-- role twice; no role 0 with an authority; no byte in a place that is not used

pub roles_held :
    map (λ roles. cred_sound (haulier_with roles))
    (replicate 16 0
    ∷ (role 1 7 100 ++ replicate 8 0)
    ∷ (role 1 7 100 ++ role 0 7 100)
    ∷ (replicate 8 0 ++ role 1 7 100)
    ∷ (role 1 7 100 ++ role 1 7 90)
    ∷ (role 1 0 0 ++ replicate 8 0)
    ∷ (role 1 7 100 ++ role 0 0 9)
    ∷ [])
    ≡ true ∷ true ∷ true ∷ false ∷ false ∷ false ∷ false ∷ []
unfolding the_day
roles_held = refl

-- ---- the links of /yard: /tare while the role holds; RETRIEVE of /yard itself is permitted by the same role

pub yard_today :
    map (λ clock. let o = response_to no_defaults two_roles (received clock (0x34 ∷ 0x00 ∷ 0x00 ∷ 0x07 ∷ []) 0) in o.answer ∷ o.links.set ∷ []) (100 ∷ 101 ∷ [])
    ≡ (0 ∷ 0x0040000000000000 ∷ []) ∷ (8 ∷ 0 ∷ []) ∷ []
unfolding the_day two_roles
yard_today = refl

-- ---- the premise of demand 3 counts every role as a chosen partner's: one that may
-- update acl2 counts for partner 7, who has none, and not for the unauthenticated

pub role_grant : Tables
role_grant = with_rows Aces today (ace_row 1 1 4 0 (0x10 ∷ replicate 7 0) (foreman 9) ∷ [])

pub every_role : may_alter role_grant (Partner 7) ∷ may_alter role_grant Unauthenticated ∷ may_alter today (Partner 7) ∷ [] ≡ true ∷ false ∷ false ∷ []
unfolding the_day role_grant
every_role = refl

-- without this part of the premise the claim is false: role 7 may update pstat, and
-- partner 7 asserts it and leaves RFNOP; what the owner reads then is another state
pub opened_run : List Request
opened_run =
    map (λ r. received 50 r 17)
    ((0x51 ∷ 0x00 ∷ 0x00 ∷ 0x07 ∷ role 1 7 100)
    ∷ (0x50 ∷ 0x40 ∷ 0x00 ∷ 0x07 ∷ 0x40 ∷ [])
    ∷ (0x30 ∷ 0x40 ∷ 0x00 ∷ 0x05 ∷ [])
    ∷ [])

pub opened : Tables
opened = with_rows Aces today (ace_row 1 1 4 0 (0x40 ∷ replicate 7 0) (foreman 1) ∷ [])

pub role_opens :
    replies (λ t q. let o = response_to no_defaults t q in o.answer ∷ take 1 o.contents) (tables_after no_defaults) opened opened_run
    ∷ replies (λ t q. let o = response_to no_defaults t q in o.answer ∷ take 1 o.contents) (tables_after no_defaults) opened (kept (is_others chosen7) opened_run)
    ∷ []
    ≡ ((0 ∷ []) ∷ (0 ∷ []) ∷ (0 ∷ 0x40 ∷ []) ∷ []) ∷ ((0 ∷ 0x60 ∷ []) ∷ []) ∷ []
unfolding the_day opened_run opened
role_opens = refl

-- and the premise does rule these tables out
pub opened_ruled_out : may_alter opened (Partner 7) ≡ true
unfolding the_day opened
opened_ruled_out = refl

-- ---- demand 3: partner 7 is chosen, and asserts; the owner reads cred and its own roles, and goes to state 2

pub role_run : List Request
role_run =
    map (λ r. received 50 r 1168)
    ((0x51 ∷ 0x00 ∷ 0x00 ∷ 0x07 ∷ role 1 7 100)
    ∷ (0x30 ∷ 0x80 ∷ 0x00 ∷ 0x05 ∷ [])
    ∷ (0x31 ∷ 0x00 ∷ 0x00 ∷ 0x07 ∷ [])
    ∷ (0x31 ∷ 0x00 ∷ 0x00 ∷ 0x05 ∷ [])
    ∷ (0x50 ∷ 0x40 ∷ 0x00 ∷ 0x05 ∷ 0x40 ∷ [])
    ∷ [])

pub role_answers : replies (λ t q. (response_to no_defaults t q).answer) (tables_after no_defaults) yard role_run ≡ 0 ∷ 0 ∷ 0 ∷ 0 ∷ 0 ∷ []
unfolding the_day role_run
role_answers = refl

role_premise : Along (tables_after no_defaults) (Premise chosen7) yard (kept (is_others chosen7) role_run)
unfolding the_day calm names_owner role_run
role_premise = (λ _. calm_harmless _ refl, (λ _. calm_harmless _ refl, (λ _. calm_harmless _ refl, λ _. calm_harmless _ refl)))

pub role_isolated :
    (kept_of (is_others chosen7) role_run (replies (response_to no_defaults) (tables_after no_defaults) yard role_run)
    ≡ replies (response_to no_defaults) (tables_after no_defaults) yard (kept (is_others chosen7) role_run))
    × (compared chosen7 (final (tables_after no_defaults) yard role_run)
    ≡ compared chosen7 (final (tables_after no_defaults) yard (kept (is_others chosen7) role_run)))
role_isolated = isolation no_defaults chosen7 yard role_run role_premise

-- the tables themselves are not the same
pub role_left_out :
    roles_in_force 50 (sender_row (final (tables_after no_defaults) yard role_run) (Partner 7))
    ∷ roles_in_force 50 (sender_row (final (tables_after no_defaults) yard (kept (is_others chosen7) role_run)) (Partner 7))
    ∷ []
    ≡ (role 1 7 100 ∷ []) ∷ [] ∷ []
unfolding the_day role_run
role_left_out = refl
