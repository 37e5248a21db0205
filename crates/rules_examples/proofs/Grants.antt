-- Examples of what an access row gives: to the role of an authority (U7), in a season (U8), of the whole yard at once (U9).
-- Each beside a sender, a second or a resource that the row gives nothing.
use Rattle.rows.proofs.Prelude.{◌≡◌, refl, true, List, [], ◌∷◌, ◌++◌, map, ℕ, replicate}
use Rattle.rows.specs.Rows.{Row}
use Rattle.rules.specs.declared.Tables.{Tables}
use Rattle.rules.specs.Directory.{some_security}
use Rattle.rules.specs.declared.Sender.TheVariants.{Partner}
use Rattle.rules.specs.Record.{received}
use Rattle.rules.specs.Bodies.{cred_row_of, ace_row_of}
use Rattle.rules.specs.Defaults.{no_defaults}
use Rattle.rules.specs.Promises.Theorems.{effective}
use Rattle.rules.specs.Links.{own_record, permits, set_of}
use Rattle.rules.specs.Outcome.{response_to, tables_after}
use Rattle.rules.specs.Run.{replies}
use Rattle.rules.specs.Isolation.{row_alters, may_fit, may_alter}
use Rattle.rules.proofs.Samples.{definitions, samples, answer, uuid, cred_row, with_creds, owned5, ace_body, ace_row, weight, serving, haulier_row}

-- ---- roles of an authority (U7): foremen of two hauliers, both with role 7

-- role 7 of authority a
pub foreman_row : ℕ → ℕ → List ℕ
foreman_row n a = 0 ∷ n ∷ (replicate 16 0x22 ++ (0 ∷ 7 ∷ 0 ∷ a ∷ 4 ∷ []))

-- as the subject of an access row
unfoldable pub foreman : ℕ → List ℕ
foreman a = replicate 13 0 ++ (a ∷ 0 ∷ 7 ∷ [])

-- U on resource 8 for the role of authority 1, R for that of our works
pub foremen : Tables
foremen =
    with_creds (serving (ace_row 1 1 4 0 weight (foreman 1) ∷ ace_row 2 1 2 0 weight (foreman 0) ∷ []))
    (cred_row 5 ∷ foreman_row 1 1 ∷ foreman_row 2 2 ∷ foreman_row 3 0 ∷ [])

-- a role fits with its authority alone
pub roles_fit : effective 0 foremen (Partner 1) 8 ∷ effective 0 foremen (Partner 2) 8
    ∷ effective 0 foremen (Partner 3) 8 ∷ effective 0 foremen (Partner 5) 8 ∷ []
    ≡ 4 ∷ 0 ∷ 2 ∷ 0 ∷ []
unfolding samples foremen foreman_row foreman
roles_fit = refl

-- 21 bytes with role 7 say what 23 with authority 0 say
pub roles_stored :
    cred_row_of (0 ∷ 9 ∷ (replicate 16 0x22 ++ (0 ∷ 7 ∷ 4 ∷ [])))
    ∷ cred_row_of (foreman_row 9 1)
    ∷ []
    ≡ foreman_row 9 0 ∷ foreman_row 9 1 ∷ []
unfolding definitions foreman_row
roles_stored = refl

-- a role with its authority; an authority beside role 0; 22 bytes; a role row with an authority; one with role 0 beside it
pub roles_answered :
    answer owned5 (0x50 ∷ 0x80 ∷ 0x00 ∷ 0x05 ∷ foreman_row 9 1)
    ∷ answer owned5 (0x50 ∷ 0x80 ∷ 0x00 ∷ 0x05 ∷ 0 ∷ 9 ∷ (uuid ++ (0 ∷ 0 ∷ 0 ∷ 1 ∷ 4 ∷ [])))
    ∷ answer owned5 (0x50 ∷ 0x80 ∷ 0x00 ∷ 0x05 ∷ 0 ∷ 9 ∷ (uuid ++ (0 ∷ 7 ∷ 1 ∷ 4 ∷ [])))
    ∷ answer owned5 (0x50 ∷ 0xc0 ∷ 0x00 ∷ 0x05 ∷ ace_row 1 1 4 0 weight (foreman 1))
    ∷ answer owned5 (0x50 ∷ 0xc0 ∷ 0x00 ∷ 0x05 ∷ ace_row 1 1 4 0 weight (replicate 13 0 ++ (1 ∷ 0 ∷ 0 ∷ [])))
    ∷ []
    ≡ 0 ∷ 10 ∷ 10 ∷ 0 ∷ 10 ∷ []
unfolding samples foreman_row foreman
roles_answered = refl

-- ---- rows that hold for a season (U8): a harvest contractor's row holds from second 10 to second 20

pub season_row : ℕ → Row
season_row n = ace_body n 0 2 0 weight (replicate 16 0x22) ++ (0 ∷ 0 ∷ 0 ∷ 10 ∷ 0 ∷ 0 ∷ 0 ∷ 20 ∷ [])

pub harvest : Tables
harvest = with_creds (serving (season_row 1 ∷ [])) (cred_row 5 ∷ haulier_row 7 ∷ [])

-- the clock before, on and after both ends
pub periods : map (λ clock. effective clock harvest (Partner 7) 8) (0 ∷ 9 ∷ 10 ∷ 20 ∷ 21 ∷ 4294967295 ∷ []) ≡ 0 ∷ 0 ∷ 2 ∷ 2 ∷ 0 ∷ 0 ∷ []
unfolding samples harvest season_row
periods = refl

-- the owner's rights have no period
pub periods_owner : map (λ clock. effective clock harvest (Partner 5) 3) (9 ∷ 15 ∷ 21 ∷ []) ≡ 31 ∷ 31 ∷ 31 ∷ []
unfolding samples harvest season_row
periods_owner = refl

-- a run in which each record has its own clock: the contractor reads resource 8
pub season_run : replies (λ t q. (response_to no_defaults t q).answer) (tables_after no_defaults) harvest
    (map (λ clock. received clock (0x32 ∷ 0x00 ∷ 0x00 ∷ 0x07 ∷ []) 0) (9 ∷ 10 ∷ 20 ∷ 21 ∷ 15 ∷ []))
    ≡ 8 ∷ 0 ∷ 0 ∷ 8 ∷ 0 ∷ []
unfolding samples harvest season_row
season_run = refl

-- the premise of demand 3 counts a row of any period: this one gives U on acl2 from second 10 to second 20
pub season_grant : may_alter (with_creds (serving ((ace_body 1 0 4 0 (0x10 ∷ replicate 7 0) (replicate 16 0x22) ++ (0 ∷ 0 ∷ 0 ∷ 10 ∷ 0 ∷ 0 ∷ 0 ∷ 20 ∷ [])) ∷ []))
    (cred_row 5 ∷ haulier_row 7 ∷ []))
    (Partner 7)
    ≡ true
unfolding samples row_alters may_fit may_alter some_security
season_grant = refl

-- 28 bytes store the row of 36 that holds for every second
pub periods_stored : ace_row_of (ace_body 1 0 2 0 weight uuid) ∷ ace_row_of (ace_row 1 0 2 0 weight uuid) ∷ []
    ≡ ace_row 1 0 2 0 weight uuid ∷ ace_row 1 0 2 0 weight uuid ∷ []
unfolding samples
periods_stored = refl

-- one second, and a first second later than the last
pub periods_answered :
    answer owned5 (0x50 ∷ 0xc0 ∷ 0x00 ∷ 0x05 ∷ (ace_body 1 0 2 0 weight uuid ++ (0 ∷ 1 ∷ 0 ∷ 0 ∷ 0 ∷ 1 ∷ 0 ∷ 0 ∷ [])))
    ∷ answer owned5 (0x50 ∷ 0xc0 ∷ 0x00 ∷ 0x05 ∷ (ace_body 1 0 2 0 weight uuid ++ (0 ∷ 1 ∷ 0 ∷ 1 ∷ 0 ∷ 1 ∷ 0 ∷ 0 ∷ [])))
    ∷ []
    ≡ 0 ∷ 10 ∷ []
unfolding samples
periods_answered = refl

-- ---- the whole yard at once (U9): the contractor has R on 8 from second 10 to second 20, and R and U at all times on 13, 14 and /yard

pub polled : Tables
polled = with_creds (serving (season_row 1 ∷ ace_row 2 0 6 0 (0 ∷ 0x06 ∷ 0x80 ∷ replicate 5 0) (replicate 16 0x22) ∷ [])) (cred_row 5 ∷ haulier_row 7 ∷ [])

-- the set that a record is answered
pub links_given : ℕ → List ℕ → ℕ
links_given clock r = (response_to no_defaults polled (received clock r 0)).links.set

-- RETRIEVE in and out of the season, UPDATE and OBSERVE of /yard by the contractor, and RETRIEVE of 13: 13 has the secure endpoint, 14 has not
pub links_told :
    links_given 15 (0x34 ∷ 0x00 ∷ 0x00 ∷ 0x07 ∷ [])
    ∷ links_given 21 (0x34 ∷ 0x00 ∷ 0x00 ∷ 0x07 ∷ [])
    ∷ links_given 15 (0x54 ∷ 0x00 ∷ 0x00 ∷ 0x07 ∷ [])
    ∷ links_given 15 (0x94 ∷ 0x00 ∷ 0x00 ∷ 0x07 ∷ [])
    ∷ links_given 15 (0x33 ∷ 0x40 ∷ 0x00 ∷ 0x07 ∷ [])
    ∷ []
    ≡ 0x0084000000000000 ∷ 0x0004000000000000 ∷ 0x0004000000000000 ∷ 0 ∷ 0 ∷ []
unfolding samples permits own_record set_of links_given polled season_row
links_told = refl

-- and /yard itself is answered
pub yard_answered : map (λ clock. (response_to no_defaults polled (received clock (0x34 ∷ 0x00 ∷ 0x00 ∷ 0x07 ∷ []) 0)).answer) (15 ∷ 21 ∷ []) ≡ 0 ∷ 0 ∷ []
unfolding samples polled season_row
yard_answered = refl
