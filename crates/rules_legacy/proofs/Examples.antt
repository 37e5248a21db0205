-- Theorems over examples: a "*" row with a UUID row, rows that give nothing, each refusal at its bound, and what the bounds of the theorem are for.
use Rattle.rows.proofs.Prelude.{◌≡◌, refl, List, [], ◌∷◌, ◌++◌, map, ℕ, zero, suc, arith, length, replicate}
use Rattle.rows.specs.Rows.{Row, union_of}
use Rattle.rules.specs.Directory.{resource_of, some_security}
use Rattle.rules.specs.Record.{Request, received}
use Rattle.rules.specs.Defaults.{no_defaults}
use Rattle.rules.specs.Permission.{grants}
use Rattle.rules.specs.Checks.{refuse_if, number_of}
use Rattle.rules.specs.Isolation.{row_alters}
use Rattle.rules.proofs.Samples.{definitions, uuid, cred_row, with_creds, owned5}
use Rattle.rules_lists.specs.Lists.{bad_size, unfit, excessive, tested, accepted, rows_tested, list_tested}
use Rattle.rules_lists.specs.Loading.{owns_device, storing, OwnerStores, Loaded}
use Rattle.rules_legacy.specs.OldList.{old_rows, is_anybody, old_fits, old_gives, old_union, opens_security, bad_row, bad_file}
use Rattle.rules_legacy.specs.Conversion.{entry, uuid_entry, connection_entry, entries_of, all_entries, numbered_from}
use Rattle.rules_legacy.specs.Conversion.{rows_made, too_many_rows, buffer_too_short, conversion_verdict, conversion_reply}
use Rattle.rules_legacy.proofs.TakenOver.{rows_loaded}

-- opens the definitions of the rules, of the test of a list, and of the conversion
converting : Unit {0}
unfolding definitions refuse_if row_alters some_security bad_size unfit excessive rows_tested list_tested old_rows is_anybody old_fits old_gives old_union
    opens_security bad_row bad_file entry uuid_entry connection_entry entries_of all_entries numbered_from rows_made too_many_rows buffer_too_short
    conversion_verdict conversion_reply
converting = tt

-- ---- old rows: each byte of the subject, the byte of permission and zero bits, and the first three bytes of the set

pub old_row : ℕ → ℕ → ℕ → ℕ → ℕ → Row
old_row subject flags a b c = replicate 16 subject ++ (flags ∷ a ∷ b ∷ c ∷ replicate 5 0)

-- anybody may read /weight and /yard
pub anybody : Row
anybody = old_row 0 0x10 0x00 0x80 0x80

-- the UUID of sixteen bytes 11 may read and update acl2 and /weight
pub somebody : Row
somebody = old_row 0x11 0x30 0x10 0x80 0x00

-- ---- the rows made: "*" becomes two, auth-crypt first; numbers from 1, every second

pub both_made : conversion_reply (anybody ++ somebody) 108
    ≡ 0 ∷ 1 ∷ 0x84 ∷ 0 ∷ 0x00 ∷ 0x80 ∷ 0x80 ∷ replicate 5 0 ++ (replicate 15 0 ++ (1 ∷ replicate 4 0 ++ (replicate 4 255
    ++ (0 ∷ 2 ∷ 0x84 ∷ 0 ∷ 0x00 ∷ 0x80 ∷ 0x80 ∷ replicate 5 0 ++ (replicate 15 0 ++ (0 ∷ replicate 4 0 ++ (replicate 4 255
    ++ (0 ∷ 3 ∷ 0x0c ∷ 0 ∷ 0x10 ∷ 0x80 ∷ 0x00 ∷ replicate 5 0 ++ (replicate 16 0x11 ++ (replicate 4 0 ++ replicate 4 255))))))))))
unfolding converting old_row anybody somebody
both_made = refl

-- all permission on no resource, and none on every resource, are rows like any other
pub nothing_given_made : conversion_reply (old_row 0x11 0xf8 0 0 0 ++ old_row 0x11 0 0xf0 0xfe 0x80) 72
    ≡ 0 ∷ 1 ∷ 0x3e ∷ 0 ∷ replicate 8 0 ++ (replicate 16 0x11 ++ (replicate 4 0 ++ (replicate 4 255
    ++ (0 ∷ 2 ∷ 0x00 ∷ 0 ∷ 0xf0 ∷ 0xfe ∷ 0x80 ∷ replicate 5 0 ++ (replicate 16 0x11 ++ (replicate 4 0 ++ replicate 4 255))))))
unfolding converting old_row
nothing_given_made = refl

-- ---- what they give

-- senders: a partner with that UUID, one with another, one without a credential row, and an unauthenticated sender
pub senders : List (Row × ℕ)
senders = (0 ∷ 5 ∷ replicate 16 0x11, 1) ∷ (0 ∷ 6 ∷ replicate 16 0x22, 1) ∷ ([], 1) ∷ ([], 0) ∷ []

-- on /weight and on acl2
pub once_gave :
    map (λ (s : Row × ℕ). old_union s.0 s.1 8 (anybody ++ somebody)) senders
    ++ map (λ (s : Row × ℕ). old_union s.0 s.1 3 (anybody ++ somebody)) senders
    ≡ (6 ∷ 2 ∷ 2 ∷ 2 ∷ []) ++ (6 ∷ 0 ∷ 0 ∷ 0 ∷ [])
unfolding converting old_row anybody somebody senders
once_gave = refl

-- the same in the first second and in the last
pub now_give :
    map (λ (s : Row × ℕ). union_of (grants 0 s.0 s.1 (resource_of 8)) (rows_made (anybody ++ somebody))) senders
    ++ map (λ (s : Row × ℕ). union_of (grants 4294967295 s.0 s.1 (resource_of 3)) (rows_made (anybody ++ somebody))) senders
    ≡ (6 ∷ 2 ∷ 2 ∷ 2 ∷ []) ++ (6 ∷ 0 ∷ 0 ∷ 0 ∷ [])
unfolding converting old_row anybody somebody senders
now_give = refl

-- a clock of 33 bits is past every second, and a resource of 7 bits past the set: the theorem speaks of no such, and no record has one
pub past_the_bounds :
    union_of (grants 4294967296 [] 0 (resource_of 8)) (rows_made anybody) ∷ old_union [] 0 8 anybody
    ∷ union_of (grants 0 (0 ∷ 5 ∷ replicate 16 0x11) 1 (resource_of 67)) (rows_made somebody) ∷ old_union (0 ∷ 5 ∷ replicate 16 0x11) 1 67 somebody ∷ []
    ≡ 0 ∷ 2 ∷ 6 ∷ 0 ∷ []
unfolding converting old_row anybody somebody
past_the_bounds = refl

-- ---- the checks

abbrev answer : List ℕ → ℕ → ℕ
answer f capacity = number_of (conversion_verdict f capacity)

pub times : ℕ → Row → List ℕ
times zero o = []
times (suc n) o = o ++ times n o

-- sixteen "*" rows give 32 rows, the longest result, and seventeen are too many, whatever the room
pub anybodies :
    length (rows_made (times 16 anybody))
    ∷ answer (times 16 anybody) 1152 ∷ answer (times 16 anybody) 1151
    ∷ answer (times 17 anybody) 1152 ∷ answer (times 17 anybody) 0 ∷ []
    ≡ 32 ∷ 0 ∷ 25 ∷ 24 ∷ 24 ∷ []
unfolding converting old_row anybody times
anybodies = refl

-- 32 and 33 rows with a UUID; 30 and 31 with a "*" row after them
pub uuids :
    answer (times 32 somebody) 1152 ∷ answer (times 33 somebody) 1152
    ∷ answer (times 30 somebody ++ anybody) 1152 ∷ answer (times 31 somebody ++ anybody) 1152 ∷ []
    ≡ 0 ∷ 24 ∷ 0 ∷ 24 ∷ []
unfolding converting old_row anybody somebody times
uuids = refl

-- a buffer that just fits, one byte short, and none; no rows need none
pub capacities :
    answer anybody 72 ∷ answer anybody 71 ∷ answer somebody 36 ∷ answer somebody 35 ∷ answer somebody 0 ∷ answer [] 0 ∷ []
    ≡ 0 ∷ 25 ∷ 0 ∷ 25 ∷ 25 ∷ 0 ∷ []
unfolding converting old_row anybody somebody
capacities = refl

-- each zero bit; resources 5, 7, 15, 17 and 63; a row that is cut, and a byte more; a bad row after seventeen good ones that are too many, with no room
pub bad_files :
    answer (old_row 0x11 0x31 0 0 0) 36 ∷ answer (old_row 0x11 0x32 0 0 0) 36 ∷ answer (old_row 0x11 0x34 0 0 0) 36
    ∷ answer (old_row 0x11 0x30 0x04 0 0) 36 ∷ answer (old_row 0x11 0x30 0x01 0 0) 36
    ∷ answer (old_row 0x11 0x30 0 0x01 0) 36 ∷ answer (old_row 0x11 0x30 0 0 0x40) 36
    ∷ answer (replicate 24 0 ++ (1 ∷ [])) 72
    ∷ answer (replicate 24 0) 72 ∷ answer (replicate 26 0) 72
    ∷ answer (times 17 anybody ++ old_row 0x11 0x31 0 0 0) 0 ∷ []
    ≡ replicate 11 23
unfolding converting old_row anybody times
bad_files = refl

-- every resource of the base and /yard, with every permission bit
pub all_known : answer (old_row 0x11 0xf8 0xf0 0xfe 0x80) 36 ≡ 0
unfolding converting old_row
all_known = refl

-- ---- the test of a list (U10) on the rows made

-- the rows above; "*" may read acl2, and may update it after a row for the UUID, which may as well; rows that give nothing; no rows
pub rows_made_tested :
    map (λ (f : List ℕ). list_tested (conversion_reply f 1152))
    ((anybody ++ somebody)
    ∷ old_row 0 0x10 0x10 0 0
    ∷ (somebody ++ old_row 0 0x20 0x10 0 0)
    ∷ (old_row 0 0xf8 0 0 0 ++ old_row 0 0 0xf0 0xfe 0x80)
    ∷ []
    ∷ [])
    ≡ accepted ∷ accepted ∷ tested 21 2 ∷ accepted ∷ accepted ∷ []
unfolding converting old_row anybody somebody
rows_made_tested = refl

-- ---- and loaded: the owner of the yard in the rules' examples stores the rows above, one after the other

pub loading : List Request
loading = map (λ (w : Row). received 0 (storing 5 w) 0) (rows_made (anybody ++ somebody))

pub both_loaded : Loaded no_defaults owned5 loading (rows_made (anybody ++ somebody))
unfolding converting old_row anybody somebody loading uuid cred_row with_creds owned5 owns_device
both_loaded =
    let stores : (q : Request) (w : Row) → q.bytes ≡ storing 5 w → OwnerStores owned5 q w =
    λ q w e. record { number = 5; small = omega arith; owner = refl; stores = e } in
    rows_loaded (anybody ++ somebody) refl refl refl no_defaults owned5 loading (record { is_sound = refl; in_rfpro = refl; no_aces = refl })
    (stores _ _ refl, (stores _ _ refl, (stores _ _ refl, tt)))
