-- The paper's own examples as theorems: the fourteen rows of 'Why a record is refused', the worked run, the readings to guard against, full tables.
-- Each is computed from the definitions.
use Rattle.rows.proofs.Prelude.{◌≡◌, refl, false, List, [], ◌∷◌, map, ℕ, zero, suc, replicate}
use Rattle.rows.specs.Rows.{Row, packed}
use Rattle.rules.specs.declared.Tables.{Tables}
use Rattle.rules.specs.declared.Table.TheVariants.{Aces}
use Rattle.rules.specs.declared.Sender.TheVariants.{Unauthenticated, Partner}
use Rattle.rules.specs.Record.{Request}
use Rattle.rules.specs.Bodies.{nil}
use Rattle.rules.specs.Roles.{unasserted}
use Rattle.rules.specs.Tables.{with_rows, with_owner, with_state}
use Rattle.rules.specs.Defaults.{no_defaults, fresh}
use Rattle.rules.specs.Permission.{names}
use Rattle.rules.specs.Promises.Theorems.{effective}
use Rattle.rules.specs.StoreRange.{no_range}
use Rattle.rules.specs.Links.{no_links}
use Rattle.rules.specs.Outcome.{response_to, tables_after}
use Rattle.rules.specs.Run.{replies}
use Rattle.rules.proofs.Samples.{definitions, samples, lent, answer, uuid, cred_body, cred_row, with_creds, owned5, ace_row, weight, none, connected, serving}

-- ---- the fourteen rows

-- n credential rows, numbered from n down to 1
cred_rows : ℕ → List (List ℕ)
cred_rows zero = []
cred_rows (suc n) = cred_row (suc n) ∷ cred_rows n

-- 25 credential rows are claimed where 24 are: nothing else is wrong
overfull : Tables
overfull = record {
  state = 1;
  owned = 0;
  ncreds = 25;
  naces = 0;
  devowner = nil;
  rowners = replicate 64 0;
  creds = packed 936 (map unasserted (cred_rows 24));
  aces = replicate 1152 0;
}

-- 24 credential rows
full24 : Tables
full24 = with_creds (fresh no_defaults) (cred_rows 24)

-- in the order of their numbers
pub examples : List (Tables × List ℕ)
examples =
    (overfull, [])
    ∷ (fresh no_defaults, 0x40 ∷ 0x80 ∷ 0x00 ∷ [])
    ∷ (fresh no_defaults, 0xa2 ∷ 0x00 ∷ 0x00 ∷ 0x00 ∷ [])
    ∷ (fresh no_defaults, 0x22 ∷ 0x01 ∷ 0x00 ∷ 0x00 ∷ [])
    ∷ (fresh no_defaults, 0x22 ∷ 0x00 ∷ 0x00 ∷ 0x05 ∷ [])
    ∷ (fresh no_defaults, 0x21 ∷ 0x40 ∷ 0x00 ∷ 0x00 ∷ [])
    ∷ (fresh no_defaults, 0x32 ∷ 0x00 ∷ 0x00 ∷ 0x09 ∷ [])
    ∷ (fresh no_defaults, 0x22 ∷ 0x00 ∷ 0x00 ∷ 0x00 ∷ [])
    ∷ (fresh no_defaults, 0x00 ∷ 0xc0 ∷ 0x00 ∷ 0x00 ∷ [])
    ∷ (fresh no_defaults, 0x40 ∷ 0x40 ∷ 0x00 ∷ 0x00 ∷ 0xa0 ∷ [])
    ∷ (owned5, 0x50 ∷ 0x00 ∷ 0x00 ∷ 0x05 ∷ 0x80 ∷ uuid)
    ∷ (fresh no_defaults, 0x40 ∷ 0x40 ∷ 0x00 ∷ 0x00 ∷ 0x60 ∷ [])
    ∷ (fresh no_defaults, 0x60 ∷ 0x80 ∷ 0x00 ∷ 0x00 ∷ 0x00 ∷ 0x05 ∷ [])
    ∷ (full24, 0x40 ∷ 0x80 ∷ 0x00 ∷ 0x00 ∷ cred_body 25)
    ∷ []

pub fourteen : map (λ (e : Tables × List ℕ). answer e.0 e.1) examples ≡ 1 ∷ 2 ∷ 3 ∷ 4 ∷ 5 ∷ 6 ∷ 7 ∷ 8 ∷ 9 ∷ 10 ∷ 11 ∷ 12 ∷ 13 ∷ 14 ∷ []
unfolding samples cred_rows overfull full24 examples
fourteen = refl

-- ---- the worked run

-- the records: a credential row 5, an owner, and three moves to state 2
pub worked_run : List (List ℕ)
worked_run =
    (0x40 ∷ 0x80 ∷ 0x00 ∷ 0x00 ∷ cred_body 5)
    ∷ (0x40 ∷ 0x00 ∷ 0x00 ∷ 0x00 ∷ 0x80 ∷ uuid)
    ∷ (0x40 ∷ 0x40 ∷ 0x00 ∷ 0x00 ∷ 0x40 ∷ [])
    ∷ (0x50 ∷ 0x40 ∷ 0x00 ∷ 0x05 ∷ 0x40 ∷ [])
    ∷ (0x50 ∷ 0x40 ∷ 0x00 ∷ 0x05 ∷ 0x40 ∷ [])
    ∷ []

-- a line of the run: answer, permission, state afterwards
pub line : Tables → Request → List ℕ
line t q = (response_to no_defaults t q).answer ∷ (response_to no_defaults t q).permission ∷ (tables_after no_defaults t q).state ∷ []

pub worked : replies line (tables_after no_defaults) (fresh no_defaults) (map lent worked_run)
    ≡ (0 ∷ 31 ∷ 1 ∷ []) ∷ (0 ∷ 31 ∷ 1 ∷ []) ∷ (8 ∷ 0 ∷ 1 ∷ []) ∷ (0 ∷ 31 ∷ 2 ∷ []) ∷ (12 ∷ 0 ∷ 2 ∷ []) ∷ []
unfolding samples line worked_run
worked = refl

-- ---- readings to guard against

-- each reading, and beside it that the same row does fit where it should
pub guards :
    -- the first fitting row decides
    effective 0 (serving (ace_row 1 2 1 0 weight (connected 0) ∷ ace_row 2 2 4 0 weight (connected 0) ∷ [])) Unauthenticated 8
    -- a wildcard reaches acl2
    ∷ effective 0 (serving (ace_row 1 2 31 7 none (connected 0) ∷ [])) Unauthenticated 3
    ∷ effective 0 (serving (ace_row 1 2 31 7 none (connected 0) ∷ [])) Unauthenticated 8
    -- a nil row owner fits a sender without a credential
    ∷ effective 0 (serving []) Unauthenticated 3
    ∷ effective 0 (serving []) (Partner 5) 3
    -- a row for auth-crypt also fits anon-clear
    ∷ effective 0 (serving (ace_row 1 2 31 1 none (connected 1) ∷ [])) Unauthenticated 8
    ∷ effective 0 (serving (ace_row 1 2 31 1 none (connected 1) ∷ [])) (Partner 5) 8
    -- a body is judged before permission
    ∷ answer (serving []) (0x40 ∷ 0x40 ∷ 0x00 ∷ 0x00 ∷ 0xa0 ∷ [])
    ∷ answer (serving []) (0x50 ∷ 0x40 ∷ 0x00 ∷ 0x05 ∷ 0xa0 ∷ [])
    -- a target equal to the present state passes
    ∷ answer owned5 (0x50 ∷ 0x40 ∷ 0x00 ∷ 0x05 ∷ 0x40 ∷ [])
    ∷ []
    ≡ 5 ∷ 0 ∷ 31 ∷ 0 ∷ 31 ∷ 0 ∷ 31 ∷ 8 ∷ 10 ∷ 12 ∷ []
unfolding samples
guards = refl

-- nil fits nobody, not even a credential row that has no bytes, or one whose subject is nil
pub nil_fits_nobody : names nil [] ∷ names nil (replicate 23 0) ∷ [] ≡ false ∷ false ∷ []
unfolding definitions
nil_fits_nobody = refl

-- ---- full tables: 24 credential rows and 32 access rows, each of which gives R on resource 8 to the owner

ace_rows : ℕ → List Row
ace_rows zero = []
ace_rows (suc n) = ace_row (suc n) 0 2 0 weight uuid ∷ ace_rows n

pub crowded : Tables
crowded = with_state (with_owner (with_creds (with_rows Aces (fresh no_defaults) (ace_rows 32)) (cred_rows 24)) 1 uuid) 3

-- RETRIEVE of resource 8 by the owner's credential 5
pub crowded_read : response_to no_defaults crowded (lent (0x32 ∷ 0x00 ∷ 0x00 ∷ 0x05 ∷ 0x77 ∷ []))
    ≡ record { answer = 0; permission = 2; payload = 0x77 ∷ []; contents = []; store = no_range; links = no_links }
unfolding samples crowded ace_rows cred_rows
crowded_read = refl
