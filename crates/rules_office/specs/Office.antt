-- The office text of an access list (U6): OCF's JSON, of the rows that hold for every second (U8), as they are in the table.
-- And the answer to a call for it, with the buffer afterwards.
use Rattle.std.specs.Prelude.{ℕ, suc, ◌+◌, ◌/◌, ◌%◌, Bool, true, false, cond, not, ◌&&◌, List, [], ◌∷◌, ◌++◌, map, eqb, ltb, length}
use Prim.Native.String.{String}
use Rattle.text.specs.Text.{Text, ascii, decimal}
use Rattle.rows.specs.Rows.{Row, joined, without}
use Rattle.rules.specs.declared.Tables.{Tables}
use Rattle.rules.specs.declared.Table.TheVariants.{Aces}
use Rattle.rules.specs.declared.Check.{Check}
use Rattle.rules.specs.declared.Check.TheVariants.{Pass, Refuse}
use Rattle.rules.specs.Lookup.{lookup}
use Rattle.rules.specs.Bodies.{row_number, ace_kind, ace_permission, ace_plus, ace_minus, ace_star, in_set}
use Rattle.rules.specs.Bodies.{ace_subject, ace_authority, ace_role, ace_connection, ace_first, ace_last}
use Rattle.rules.specs.Directory.{doxm, pstat, cred, acl2, roles, yard}
use Rattle.rules.specs.Tables.{rows}
use Rattle.rules.specs.Checks.{verdict}
use Rattle.rules_terminal.specs.Terminal.{Terminal, sound_terminal}
use Rattle.rules.specs.Types.{Bytes, Checklist, Index, ResourceNumber, Size, Uuid}

-- ---- a UUID: lower case, 8-4-4-4-12

-- 48 is 0 and 97 is a
unfoldable pub hex_digit : ℕ → ℕ
hex_digit digit = cond (ltb digit 10) (48 + digit) (87 + digit)

-- there is a dash before the byte at this index
unfoldable pub dashed : Index → Bool
dashed index = lookup index ((4, true) ∷ (6, true) ∷ (8, true) ∷ (10, true) ∷ []) false

unfoldable pub dash : Index → Text
dash index = cond (dashed index) (ascii "-") []

-- the byte of a UUID at this index
unfoldable pub hex_byte : Index → ℕ → Text
hex_byte index byte = dash index ++ (hex_digit (byte / 16) ∷ hex_digit (byte % 16) ∷ [])

-- from this index on
abbrev pub uuid_from : Index → Bytes → Text
uuid_from index [] = []
uuid_from index (byte ∷ bytes) = hex_byte index byte ++ uuid_from (suc index) bytes

unfoldable pub uuid_text : Uuid → Text
uuid_text uuid = uuid_from 0 uuid

-- ---- an array: a comma before each element but the first

unfoldable pub comma : Bool → Text
comma first = cond first [] (ascii ",")

abbrev pub separated : Bool → List Text → Text
separated first [] = []
separated first (text ∷ texts) = (comma first ++ text) ++ separated false texts

-- ---- a subject

unfoldable pub uuid_subject : Row → Text
uuid_subject ace = joined (ascii "{\"uuid\":\"" ∷ uuid_text (ace_subject ace) ∷ ascii "\"}" ∷ [])

unfoldable pub role_subject : Row → Text
role_subject ace = joined (ascii "{\"authority\":\"" ∷ decimal (ace_authority ace) ∷ ascii "\",\"role\":\"" ∷ decimal (ace_role ace) ∷ ascii "\"}" ∷ [])

unfoldable pub connection_subject : Row → Text
connection_subject ace = cond (eqb (ace_connection ace) 1) (ascii "{\"conntype\":\"auth-crypt\"}") (ascii "{\"conntype\":\"anon-clear\"}")

unfoldable pub subject_text : Row → Text
subject_text ace = lookup (ace_kind ace) ((0, uuid_subject ace) ∷ (1, role_subject ace) ∷ (2, connection_subject ace) ∷ []) []

-- ---- resources: each known one by rising number, then the wildcards

abbrev pub names : List (ResourceNumber × String)
names =
    (doxm, "/oic/sec/doxm") ∷ (pstat, "/oic/sec/pstat") ∷ (cred, "/oic/sec/cred") ∷ (acl2, "/oic/sec/acl2") ∷ (roles, "/oic/sec/roles")
    ∷ (8, "/weight") ∷ (9, "/tare") ∷ (10, "/zero") ∷ (11, "/ticket")
    ∷ (12, "/lamp") ∷ (13, "/calib") ∷ (14, "/display") ∷ (yard, "/yard")
    ∷ []

unfoldable pub href : String → Text
href name = joined (ascii "\"href\":\"" ∷ ascii name ∷ ascii "\"" ∷ [])

-- what a row's resources may name
unfoldable pub choices : List Text
choices = map (λ e. href e.1) names ++ (ascii "\"wc\":\"+\"" ∷ ascii "\"wc\":\"-\"" ∷ ascii "\"wc\":\"*\"" ∷ [])

-- which of them the row does name
unfoldable pub chosen : Row → List Bool
chosen ace = map (λ e. in_set ace e.0) names ++ (ace_plus ace ∷ ace_minus ace ∷ ace_star ace ∷ [])

-- the elements whose flag is set
abbrev pub picked : {A : Type 0} → List Bool → List A → List A
picked [] xs = []
picked (b ∷ bs) [] = []
picked (b ∷ bs) (x ∷ xs) = cond b (x ∷ picked bs xs) (picked bs xs)

unfoldable pub braced : Text → Text
braced text = joined (ascii "{" ∷ text ∷ ascii "}" ∷ [])

unfoldable pub resources_text : Row → Text
resources_text ace = separated true (map braced (picked (chosen ace) choices))

-- ---- a row, and the list

unfoldable pub row_text : Row → Text
row_text ace =
    joined (ascii "{\"aceid\":" ∷ decimal (row_number ace)
    ∷ ascii ",\"subject\":"
    ∷ subject_text ace
    ∷ ascii ",\"resources\":["
    ∷ resources_text ace
    ∷ ascii "],\"permission\":"
    ∷ decimal (ace_permission ace)
    ∷ ascii "}"
    ∷ [])

unfoldable pub rows_text : List Row → Text
rows_text aces = separated true (map row_text aces)

unfoldable pub list_text : List Row → Text
list_text aces = joined (ascii "{\"aclist2\":[" ∷ rows_text aces ∷ ascii "]}" ∷ [])

-- the row holds for every second (U8)
unfoldable pub always : Row → Bool
always ace = eqb (ace_first ace) 0 && eqb (ace_last ace) 4294967295

unfoldable pub seasonal : Row → Bool
seasonal ace = not (always ace)

-- rows of a shorter period are left out
abbrev pub rows_written : List Row → List Row
rows_written aces = without seasonal aces

abbrev pub office_text : Tables → Text
office_text t = list_text (rows_written (rows Aces t))

-- ---- the answer, the length and the caller's buffer afterwards

-- 17 covers the queue too, as check 1 does (U13)
abbrev pub office_checks : Terminal → Size → Checklist
office_checks x capacity = (17, not (sound_terminal x)) ∷ (18, ltb capacity (length (office_text x.tables))) ∷ []

-- the text that is given after a verdict
abbrev pub given : Terminal → Check → Text
given x Pass = office_text x.tables
given x (Refuse n) = []

unfoldable pub office_verdict : Terminal → Size → Check
office_verdict x capacity = verdict (office_checks x capacity)

unfoldable pub office_reply : Terminal → Size → Text
office_reply x capacity = given x (office_verdict x capacity)
