-- Theorems over examples: a list for each thing that is reported, a list that is loaded, and what each premise of loading is for.
use Rattle.rows.proofs.Prelude.{◌≡◌, refl, true, List, [], ◌∷◌, ◌++◌, map, ℕ, ◌<◌, arith, replicate}
use Rattle.rows.specs.Rows.{Row, joined}
use Rattle.rules.specs.declared.Tables.{Tables}
use Rattle.rules.specs.declared.Table.TheVariants.{Aces}
use Rattle.rules.specs.declared.Sender.TheVariants.{Partner}
use Rattle.rules.specs.Directory.{some_security}
use Rattle.rules.specs.Record.{Request, received}
use Rattle.rules.specs.Tables.{rows, with_rows, with_state, with_owner}
use Rattle.rules.specs.Defaults.{no_defaults}
use Rattle.rules.specs.Checks.{refuse_if}
use Rattle.rules.specs.Outcome.{response_to, tables_after}
use Rattle.rules.specs.Run.{final}
use Rattle.rules.specs.Isolation.{row_alters}
use Rattle.rules.proofs.Samples.{samples, uuid, cred_row, with_creds, owned5, ace_body, ace_row, weight, connected}
use Rattle.rules_terminal.specs.Slots.{waiting, empty_queue}
use Rattle.rules_terminal.specs.Terminal.{Terminal, terminal}
use Rattle.rules_terminal.specs.CallRun.{handed_back}
use Rattle.rules_terminal.proofs.Direct.{fresh_whole}
use Rattle.rules_runs.specs.OneByOne.{one_by_one}
use Rattle.rules_runs.specs.Made.{calls_at}
use Rattle.rules_runs.proofs.Exists.{calls_built}
use Rattle.rules_lists.specs.Lists.{bad_size, unfit, excessive, tested, accepted, rows_tested, list_tested}
use Rattle.rules_lists.specs.Loading.{owns_device, storing, OwnerStores, Ready, Loaded}
use Rattle.rules_lists.proofs.Loaded.{accepted_loaded}
use Rattle.rules_lists.proofs.ByTurns.{turns_loaded}

testing : Unit {0}
unfolding samples refuse_if bad_size unfit excessive row_alters some_security rows_tested list_tested
testing = tt

-- the set of only resource 3
pub on_acl2 : List ℕ
on_acl2 = 0x10 ∷ replicate 7 0

-- role 7 of our works as a subject
pub role7 : List ℕ
role7 = replicate 15 0 ++ (7 ∷ [])

-- all of acl2 for a UUID, reading and notifying for role 7, all of /weight for anyone in clear
pub good : List Row
good = ace_row 1 0 31 0 on_acl2 uuid ∷ ace_row 2 1 18 0 on_acl2 role7 ∷ ace_row 3 2 31 0 weight (connected 0) ∷ []

-- a row's period of only second 9
pub second9 : List ℕ
second9 = 0 ∷ 0 ∷ 0 ∷ 9 ∷ 0 ∷ 0 ∷ 0 ∷ 9 ∷ []

pub lists_tested :
    map list_tested
    -- no rows; the good ones
    ([]
    ∷ joined good
    -- a byte more; 33 rows, none of which could be stored; 32 of them
    ∷ (joined good ++ (0 ∷ []))
    ∷ replicate 1188 0
    ∷ replicate 1152 0
    -- number 2 twice
    ∷ joined (good ++ (ace_row 2 0 2 0 weight uuid ∷ []))
    -- on acl2: UPDATE for a role, DELETE and CREATE for a connection, and UPDATE for it in a single second
    ∷ joined (ace_row 1 1 4 0 on_acl2 role7 ∷ [])
    ∷ joined (good ++ (ace_row 4 2 8 0 on_acl2 (connected 1) ∷ []))
    ∷ joined (good ++ (ace_row 4 2 1 0 on_acl2 (connected 0) ∷ []))
    ∷ joined ((ace_body 1 2 4 0 on_acl2 (connected 1) ++ second9) ∷ [])
    -- all five for a connection by every wildcard, which reach no security resource
    ∷ joined (good ++ (ace_row 4 2 31 7 weight (connected 1) ∷ []))
    -- UPDATE of roles, a security resource too (U11)
    ∷ joined (good ++ (ace_row 4 1 4 0 (0x08 ∷ replicate 7 0) role7 ∷ []))
    -- both faults in a row; 21 in a row before one with 20
    ∷ joined (good ++ (ace_row 2 1 4 0 on_acl2 role7 ∷ []))
    ∷ joined (good ++ (ace_row 4 1 4 0 on_acl2 role7 ∷ ace_row 1 0 2 0 weight uuid ∷ []))
    ∷ [])
    ≡ accepted
    ∷ accepted
    ∷ tested 19 0
    ∷ tested 19 0
    ∷ tested 20 1
    ∷ tested 20 4
    ∷ tested 21 1
    ∷ tested 21 4
    ∷ tested 21 4
    ∷ tested 21 1
    ∷ accepted
    ∷ tested 21 4
    ∷ tested 20 4
    ∷ tested 21 4
    ∷ []
unfolding testing on_acl2 role7 good second9
lists_tested = refl

-- ---- loading

-- partner 5 loads the good list, a row each second, and passes no buffer
pub loading : List Request
loading =
    received 0 (storing 5 (ace_row 1 0 31 0 on_acl2 uuid)) 0
    ∷ received 1 (storing 5 (ace_row 2 1 18 0 on_acl2 role7)) 0
    ∷ received 2 (storing 5 (ace_row 3 2 31 0 weight (connected 0))) 0
    ∷ []

pub good_loaded : Loaded no_defaults owned5 loading good
unfolding testing on_acl2 role7 good loading cred_row with_creds owned5 owns_device
good_loaded =
    let stores : (q : Request) (w : Row) → q.bytes ≡ storing 5 w → OwnerStores owned5 q w =
    λ q w e. record { number = 5; small = omega arith; owner = refl; stores = e } in
    accepted_loaded no_defaults owned5 (joined good) loading refl (record { is_sound = refl; in_rfpro = refl; no_aces = refl })
    (stores _ _ refl, (stores _ _ refl, (stores _ _ refl, tt)))

-- the owner has rows 5 and 6; each record is handed in and then taken, by one row and the other
pub owned56 : Tables
owned56 = with_creds owned5 (cred_row 5 ∷ cred_row 6 ∷ [])

pub loading56 : List Request
loading56 =
    received 0 (storing 5 (ace_row 1 0 31 0 on_acl2 uuid)) 0
    ∷ received 1 (storing 6 (ace_row 2 1 18 0 on_acl2 role7)) 0
    ∷ received 2 (storing 5 (ace_row 3 2 31 0 weight (connected 0))) 0
    ∷ []

pub ready56 : Terminal
ready56 = terminal owned56 empty_queue

pub good_by_turns : rows Aces (handed_back ready56 (calls_at no_defaults ready56 (one_by_one loading56))).tables ≡ good
unfolding testing on_acl2 role7 good loading56 ready56 owned56 cred_row with_creds owned5 owns_device waiting
good_by_turns =
    let stores : (n : ℕ) (q : Request) (w : Row) → n < 65536 → owns_device owned56 (Partner n) ≡ true → q.bytes ≡ storing n w → OwnerStores owned56 q w =
    λ n q w l o e. record { number = n; small = l; owner = o; stores = e } in
    let ready : Ready owned56 = record { is_sound = refl; in_rfpro = refl; no_aces = refl } in
    let is = one_by_one loading56 in
    let loaded = turns_loaded no_defaults ready56 (joined good) loading56 (calls_at no_defaults ready56 is) (calls_built no_defaults ready56 is) refl
    (fresh_whole owned56 refl) refl ready
    (stores 5 _ _ (omega arith) refl refl, (stores 6 _ _ (omega arith) refl refl, (stores 5 _ _ (omega arith) refl refl, tt))) in
    loaded.2

-- tables that are not sound, another state, another owner: the first row is refused
pub premises_needed :
    map (λ (t : Tables). (response_to no_defaults t (received 0 (storing 5 (ace_row 1 0 31 0 on_acl2 uuid)) 0)).answer)
    (with_state owned5 0 ∷ with_state owned5 3 ∷ with_owner owned5 1 (replicate 16 0x22) ∷ [])
    ≡ 1 ∷ 11 ∷ 8 ∷ []
unfolding testing on_acl2 storing cred_row with_creds owned5
premises_needed = refl

-- a row that is held before stays in front of the list's
pub held_in_front :
    rows Aces (final (tables_after no_defaults) (with_rows Aces owned5 (ace_row 9 0 2 0 weight uuid ∷ [])) loading)
    ≡ ace_row 9 0 2 0 weight uuid ∷ good
unfolding testing on_acl2 role7 good loading storing cred_row with_creds owned5
held_in_front = refl
