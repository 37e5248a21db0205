-- The rows and tables that the examples of all requests are made of, and names that open the definitions for them.
-- The examples that take longer to compute are in `rules_examples`.
use Rattle.rows.proofs.Prelude.{List, [], ◌∷◌, ◌++◌, map, ℕ, ◌+◌, ◌*◌, ◌/◌, ◌%◌, replicate, ones, ones_in}
use Rattle.rows.specs.Rows.{Row, rows_before, rows_of, joined, packed, all_zero, same, has_key, numbered_as}
use Rattle.rows.specs.Rows.{first_row, some, every, without, distinct_numbers, stored, union_of, with_row}
use Rattle.rows.specs.Promises.{index_from}
use Rattle.rules.specs.declared.Tables.{Tables}
use Rattle.rules.specs.declared.Table.TheVariants.{Creds, Aces}
use Rattle.rules.specs.Bits.{bit, bits, be16}
use Rattle.rules.specs.Directory.{entry_of}
use Rattle.rules.specs.Record.{Request, received, sender, passed_on}
use Rattle.rules.specs.Bodies.{nil, is_nil, owner_body, state_body, cred_storable, cred_row_of, set_known, subject_storable, ace_storable, every_second, ace_row_of}
use Rattle.rules.specs.Roles.{no_role, free, same_role, distinct_roles, unasserted, roles_in_force, roles_sound, cred_sound, with_role, both_taken, asserted}
use Rattle.rules.specs.Tables.{rows_in, with_rows, rows_sound, head_sound, sound, empty, row_owner, with_owner, with_state}
use Rattle.rules.specs.Defaults.{no_defaults, good_list, default_rows, fresh}
use Rattle.rules.specs.Permission.{has, for_role, role_fits, subject_is, subject_fits, resource_fits, in_force, row_fits, grants}
use Rattle.rules.specs.Permission.{names, is_owner, by_owner, by_no_owner, by_roles, effective_of, permission, permission_of}
use Rattle.rules.specs.Action.{if_allowed, update_doxm, update_pstat, store_row, update_rows, update_roles, update_action}
use Rattle.rules.specs.Action.{delete_number, delete_aces, delete_creds, delete_action, read_action, security_action, action_of}
use Rattle.rules.specs.States.{write_allowed, move_listed, move_allowed}
use Rattle.rules.specs.StoreRange.{gap_of}
use Rattle.rules.specs.Links.{asks_links, link_set}
use Rattle.rules.specs.Reading.{own_body, row_bytes, contents, reads, reply_to, too_short, longest_reply}
use Rattle.rules.specs.Checks.{bad_length, no_verb, zero_bit_set, mismatch, unknown_resource}
use Rattle.rules.specs.Checks.{no_credential, no_endpoint, not_permitted, offered, not_offered, verdict}
use Rattle.rules.specs.Outcome.{outcome_at, outcome, entered, response_to}

-- `unfolding definitions` opens all that its own line names
unfoldable pub definitions : Unit {0}
unfolding ones ones_in rows_before gap_of rows_of joined packed all_zero same has_key numbered_as index_from first_row some every without
    distinct_numbers stored union_of with_row bit bits has entry_of be16 sender passed_on nil is_nil owner_body state_body cred_storable
    cred_row_of no_role free same_role distinct_roles roles_in_force roles_sound cred_sound with_role both_taken asserted set_known subject_storable ace_storable
    every_second ace_row_of rows_in rows_sound head_sound sound empty good_list default_rows fresh row_owner for_role role_fits subject_is
    subject_fits resource_fits in_force row_fits grants names is_owner by_owner by_no_owner by_roles effective_of permission_of own_body row_bytes
    contents reads reply_to too_short if_allowed update_doxm update_pstat store_row update_rows update_roles update_action delete_number
    delete_aces delete_creds delete_action read_action security_action action_of write_allowed move_listed move_allowed bad_length no_verb zero_bit_set
    mismatch unknown_resource no_credential no_endpoint not_permitted offered not_offered verdict entered asks_links link_set outcome_at outcome
definitions = tt

-- a record at clock 0, with a buffer that fits any reply
abbrev pub lent : List ℕ → Request
lent r = received 0 r longest_reply

abbrev pub answer : Tables → List ℕ → ℕ
answer t r = (response_to no_defaults t (lent r)).answer

-- sixteen bytes 11
unfoldable pub uuid : List ℕ
uuid = replicate 16 0x11

-- a body of 21 bytes, as in the paper
unfoldable pub cred_body : ℕ → List ℕ
cred_body n = 0 ∷ n ∷ (uuid ++ (0 ∷ 0 ∷ 4 ∷ []))

-- the body of 23 bytes that says the same
unfoldable pub cred_row : ℕ → List ℕ
cred_row n = 0 ∷ n ∷ (uuid ++ (0 ∷ 0 ∷ 0 ∷ 0 ∷ 4 ∷ []))

-- the tables with the rows that these bodies store
unfoldable pub with_creds : Tables → List (List ℕ) → Tables
with_creds t bs = with_rows Creds t (map unasserted bs)

-- state 2, the owner in row 5
unfoldable pub owned5 : Tables
owned5 = with_state (with_owner (with_creds (fresh no_defaults) (cred_row 5 ∷ [])) 1 uuid) 2

-- a body of 28 bytes: number, kind, permission, wildcards, set bytes, subject
unfoldable pub ace_body : ℕ → ℕ → ℕ → ℕ → List ℕ → List ℕ → List ℕ
ace_body n kind permission wild set subject = 0 ∷ n ∷ (kind * 64 + permission * 2 + wild / 4) ∷ (wild % 4 * 64) ∷ (set ++ subject)

-- the row that it stores
unfoldable pub ace_row : ℕ → ℕ → ℕ → ℕ → List ℕ → List ℕ → Row
ace_row n kind permission wild set subject = ace_body n kind permission wild set subject ++ every_second

-- the set of only resource 8, and the empty set
unfoldable pub weight : List ℕ
weight = 0 ∷ 0x80 ∷ replicate 6 0

unfoldable pub none : List ℕ
none = replicate 8 0

-- connection 0 or 1 as a subject
unfoldable pub connected : ℕ → List ℕ
connected c = replicate 15 0 ++ (c ∷ [])

-- state 3, the owner in row 5, and these access rows
unfoldable pub serving : List Row → Tables
serving ws = with_state (with_rows Aces owned5 ws) 3

-- the credential of a haulier, and the tables of a yard where he and everybody over connection 0 may read resource 8
unfoldable pub haulier_row : ℕ → List ℕ
haulier_row n = 0 ∷ n ∷ (replicate 16 0x22 ++ (0 ∷ 0 ∷ 0 ∷ 0 ∷ 4 ∷ []))

unfoldable pub haulier : List ℕ
haulier = replicate 16 0x22

unfoldable pub yard : Tables
yard =
    with_creds (serving (ace_row 1 0 2 0 weight haulier ∷ ace_row 2 2 2 0 weight (connected 0) ∷ []))
    (cred_row 5 ∷ (0 ∷ 7 ∷ (haulier ++ (0 ∷ 0 ∷ 0 ∷ 0 ∷ 4 ∷ []))) ∷ [])

-- `unfolding samples` opens the definitions, and the rows and tables above
unfoldable pub samples : Unit {0}
unfolding definitions uuid cred_body cred_row with_creds owned5 ace_body ace_row weight none connected serving haulier_row haulier yard
samples = tt
