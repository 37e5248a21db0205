-- Theorem: what the test of a list of bytes gives is what the test of its typed rows gives.
use Rattle.rows.proofs.Prelude.{◌≡◌, refl, sym, ap, ap₂, ◌∙◌, Bool, true, false, not, ◌&&◌, ◌||◌, List, [], ◌∷◌, ◌++◌, map, ℕ, zero, suc, ◌/◌, length, drop, eqb, bool_cases}
use Rattle.rows.proofs.Prelude.{contradiction, length-map, eqb-true}
use mathlib.Core.List.{map-append}
use Rattle.rows.specs.Rows.{Row, numbered_as, some, rows_of}
use Rattle.rules.specs.Bodies.{ace_kind, ace_storable, subject_storable}
use Rattle.rules.specs.Checks.{refuse_if, verdict as verdictBytes}
use Rattle.rules_typed.specs.Lists.{when, any}
use Rattle.rules.specs.declared.Check.{Check}
use Rattle.rules_typed.specs.Types.{Access, Verdict, Permitted, Refused}
use Rattle.rules_typed.specs.Tables.{is_bytes, same_access}
use Rattle.rules_typed.specs.Reading.{subject_of, access_of, read_access}
use Rattle.rules_typed.specs.Checks.{verdict}
use Rattle.rules_typed.proofs.ListLaws.{Each, any_read}
use Rattle.rules_typed.proofs.ByteLaws.{Good, bytes_take, bytes_drop}
use Rattle.rules_typed.proofs.PermissionRead.{ace_subject_lem}
use Rattle.rules_typed.proofs.RowExact.{access_exact}
use Rattle.rules_typed.proofs.SoundExact.{same_access_lem}
use Rattle.rules_typed.proofs.IsolationRead.{alters_read}
use Rattle.rules_typed.proofs.Verdicts.{check_of, verdict_read}
use Rattle.rules_lists.specs.declared.Tested.{Tested}
use Rattle.rules_lists.specs.Lists.{bad_size, unfit, excessive, row_checks as rowChecksBytes, named_or, rows_tested, list_tested}
use Rattle.rules_files.specs.ListTest.{bad_length, is_shared, row_checks, tested, or_rest, test_rows, test_list}

read_row : (w : Row) → is_bytes w ≡ true → read_access w ≡ when (ace_storable w) (access_of w)
unfolding read_access
read_row w h = ap (λ (b : Bool). when b (access_of w)) (sym (access_exact w h))

shared_read : (w : Row) → ace_storable w ≡ true → is_shared (subject_of w) ≡ (eqb (ace_kind w) 1 || eqb (ace_kind w) 2)
unfolding subject_of subject_storable
shared_read w h =
    let k = ace_subject_lem w h in
    bool_cases (eqb (ace_kind w) 0) (λ e. rw (eqb-true (ace_kind w) 0 e))
    (λ e. bool_cases (eqb (ace_kind w) 1) (λ f. rw (e, f))
    (λ f. bool_cases (eqb (ace_kind w) 2) (λ g. rw (e, f, g)) (λ g. contradiction (rw (e, f, g) at k) refl)))

-- ---- row by row

each_end : (ws : List Row) (w : Row) → Each (Good ace_storable) ws → Good ace_storable w → Each (Good ace_storable) (ws ++ w ∷ [])
each_end [] w q g = (g, tt)
each_end (v ∷ ws) w q g = (q.0, each_end ws w q.1 g)

abbrev AllBytes : List Row → Type 0
AllBytes ws = Each (λ w. is_bytes w ≡ true) ws

repeated_read : (ws : List Row) → Each (Good ace_storable) ws → (w : Row) → Good ace_storable w
    → any (same_access (access_of w)) (map access_of ws) ≡ some (numbered_as w) ws
repeated_read ws q w g = any_read access_of (Good ace_storable) (numbered_as w) (same_access (access_of w)) (λ v k. same_access_lem w v g k) ws q

by_verdict : (v : Verdict) (n : ℕ) (rest : Tested) → named_or (check_of v) n rest ≡ or_rest v n rest
by_verdict Permitted n rest = refl
by_verdict (Refused m) n rest = refl

named_read : (cs : List (ℕ × Bool)) (n : ℕ) (rest : Tested) → named_or (verdictBytes cs) n rest ≡ or_rest (verdict cs) n rest
named_read cs n rest = ap (λ (c : Check). named_or c n rest) (verdict_read cs) ∙ by_verdict (verdict cs) n rest

checks_read : (earlier : List Row) → Each (Good ace_storable) earlier → (w : Row) → Good ace_storable w
    → rowChecksBytes earlier w ≡ row_checks (map access_of earlier) (access_of w)
unfolding unfit excessive
checks_read earlier q w g =
    ap₂ (λ (a b : Bool). (20, a) ∷ (21, b) ∷ [])
    (ap (λ (b : Bool). not b || some (numbered_as w) earlier) g.0 ∙ sym (repeated_read earlier q w g))
    (sym (ap₂ (λ (a b : Bool). a && b) (shared_read w g.0) (alters_read w)))

unfit_read : (earlier : List Row) (w : Row) (n : ℕ) (rest : Tested) → ace_storable w ≡ false → named_or (verdictBytes (rowChecksBytes earlier w)) n rest ≡ tested 20 n
unfolding verdictBytes unfit
unfit_read earlier w n rest e = rw e

rows_read : (earlier ws : List Row) → Each (Good ace_storable) earlier → AllBytes ws → rows_tested earlier ws ≡ test_rows (map access_of earlier) (map read_access ws)
unfolding rows_tested test_rows when
rows_read earlier [] q h = refl
rows_read earlier (w ∷ ws) q h =
    bool_cases (ace_storable w)
    (λ e. let g : Good ace_storable w = (e, h.0) in
    let more = rows_read (earlier ++ w ∷ []) ws (each_end earlier w q g) h.1
    ∙ ap (λ (xs : List Access). test_rows xs (map read_access ws)) (map-append access_of earlier (w ∷ [])) in
    rw (read_row w h.0, e)
    (ap₂ (λ (cs : List (ℕ × Bool)) (rest : Tested). named_or (verdictBytes cs) (suc (length earlier)) rest) (checks_read earlier q w g) more
    ∙ named_read (row_checks (map access_of earlier) (access_of w)) (suc (length earlier)) _
    ∙ ap (λ (n : ℕ). or_rest (verdict (row_checks (map access_of earlier) (access_of w))) (suc n)
    (test_rows (map access_of earlier ++ access_of w ∷ []) (map read_access ws))) (sym (length-map earlier access_of))))
    (λ e. rw (read_row w h.0, e) (unfit_read earlier w (suc (length earlier)) _ e ∙ ap (λ (n : ℕ). tested 20 (suc n)) (sym (length-map earlier access_of))))

first_read : (b : Bool) (rest : Tested) → named_or (refuse_if 19 b) 0 rest ≡ or_rest (verdict ((19, b) ∷ [])) 0 rest
unfolding verdict refuse_if
first_read true rest = refl
first_read false rest = refl

-- ---- the file

file_bytes : (n : ℕ) (b : List ℕ) → is_bytes b ≡ true → AllBytes (rows_of 36 n b)
unfolding rows_of
file_bytes zero b h = tt
file_bytes (suc n) b h = (bytes_take 36 b h, file_bytes n (drop 36 b) (bytes_drop 36 b h))

length_read : (file : List ℕ) → bad_size file ≡ bad_length (length file)
unfolding bad_size
length_read file = refl

pub list_tested_lem : (file : List ℕ) → is_bytes file ≡ true → list_tested file ≡ test_list file
unfolding list_tested test_list
list_tested_lem file h =
    let ws = rows_of 36 (length file / 36) file in
    ap₂ (λ (b : Bool) (rest : Tested). named_or (refuse_if 19 b) 0 rest) (length_read file) (rows_read [] ws tt (file_bytes (length file / 36) file h))
    ∙ first_read (bad_length (length file)) (test_rows [] (map read_access ws))
