-- Theorem: the access rows that a list of an older terminal becomes, read, are those of its typed rows.
use Rattle.rows.proofs.Prelude.{◌≡◌, refl, sym, ap, ap₂, ◌∙◌, false, List, [], ◌∷◌, ◌++◌, map, ℕ, ◌+◌, ◌/◌, ◌≤◌, ◌<◌, arith, length, take, eqb}
use Rattle.rows.proofs.Prelude.{bool_cases, contradiction, ltb-false, length-take-le}
use Rattle.rows.specs.Rows.{Row, rows_of, all_zero}
use Rattle.rows.proofs.Kept.{AllLong, long_rows_of}
use Rattle.rules.specs.Bits.{bit, bits, be16}
use Rattle.rules.specs.Bodies.{is_nil, every_second}
use Rattle.rules_typed.specs.Types.{Access, Subject, IsUuid, IsConnection, AnonClear, AuthCrypt, Resource, Security, Application, Doxm, Pstat, Cred, Acl2, Roles}
use Rattle.rules_typed.specs.Types.{Weight, Tare, Zero, Ticket, Lamp, Calib, Display, Yard}
use Rattle.rules_typed.specs.Directory.{number_of}
use Rattle.rules_typed.specs.Reading.{owner_of, connection_as, subject_of, access_of}
use Rattle.rules_typed.proofs.PermissionRead.{zeros_nil, nil_zeros}
use Rattle.rules_legacy.specs.OldList.{old_subject, old_rows, is_anybody}
use Rattle.rules_legacy.specs.Conversion.{entry, uuid_entry, connection_subject, connection_entry, entries_of, all_entries, rows_made, too_many_rows, numbered_from as numberedBytes}
use Rattle.rules_legacy.proofs.Made.{made as Made-row}
use Rattle.rules_legacy.proofs.Numbered.{number_is, numbered_length}
use Rattle.rules_legacy.proofs.BitParts.{bits_drop}
use Rattle.rules_files.specs.Conversion.{old_row, subjects, access_for, made, numbered_from, converted}

resource_small : (e : Resource) → number_of e < 64
resource_small (Security Doxm) = omega arith
resource_small (Security Pstat) = omega arith
resource_small (Security Cred) = omega arith
resource_small (Security Acl2) = omega arith
resource_small (Security Roles) = omega arith
resource_small (Application Weight) = omega arith
resource_small (Application Tare) = omega arith
resource_small (Application Zero) = omega arith
resource_small (Application Ticket) = omega arith
resource_small (Application Lamp) = omega arith
resource_small (Application Calib) = omega arith
resource_small (Application Display) = omega arith
resource_small (Application Yard) = omega arith

-- an entry, with any number, is read as this access row
abbrev Entry : List ℕ → (ℕ → Access) → Type 0
Entry e a = (i : ℕ) → i < 65536 → access_of (be16 i ++ e) ≡ a i

entry_read : (kind : ℕ) (subject : List ℕ) (o : Row) (s : Subject) → kind < 4 → length o ≡ 25 → length subject ≡ 16
    → ((i : ℕ) → subject_of (be16 i ++ entry kind subject o) ≡ s) → Entry (entry kind subject o) (access_for (old_row o) s)
entry_read kind subject o s k l z is i h =
    let m = Made-row i kind subject o k l z in
    let number = number_is i (entry kind subject o) h in
    let subj = is i in
    let permission = m.permission in
    let plus = m.plus in
    let minus = m.minus in
    let star = m.star in
    let first = m.first in
    let last = m.last in
    let set : (e : Resource) → eqb (bit (be16 i ++ entry kind subject o) (32 + number_of e)) 1 ≡ eqb (bit o (136 + number_of e)) 1 =
    λ e. m.set (number_of e) (resource_small e) in
    λ j. record {
      number = number j;
      subject = subj j;
      permission = permission j;
      wildcards = record { plus = plus j; minus = minus j; star = star j };
      resources = λ e. set e j;
      first = first j;
      last = last j;
    }

-- ---- the subjects

uuid_subject_lem : (o : Row) → length o ≡ 25 → (i : ℕ) → subject_of (be16 i ++ entry 0 (old_subject o) o) ≡ IsUuid (take 16 o)
unfolding subject_of
uuid_subject_lem o l i =
    let m = Made-row i 0 (old_subject o) o (omega arith) l (length-take-le 16 o (omega arith)) in
    rw (m.kind_is, m.subject_is)

connection_subject_lem : (c : ℕ) (o : Row) → length o ≡ 25 → (i : ℕ)
    → subject_of (be16 i ++ entry 2 (connection_subject c) o) ≡ IsConnection (connection_as (bits (connection_subject c ++ every_second) 127 1))
unfolding subject_of
connection_subject_lem c o l i =
    let w = be16 i ++ entry 2 (connection_subject c) o in
    let m = Made-row i 2 (connection_subject c) o (omega arith) l refl in
    rw m.kind_is (ap (λ (n : ℕ). IsConnection (connection_as n)) (sym (bits_drop 12 w 127 1) ∙ ap (λ (b : List ℕ). bits b 127 1) m.behind))

-- ---- row by row

abbrev Entries : List (List ℕ) → List (ℕ → Access) → Type 0
Entries [] [] = Unit {0}
Entries [] (a ∷ xs) = ⊥
Entries (e ∷ es) [] = ⊥
Entries (e ∷ es) (a ∷ xs) = Entry e a × Entries es xs

not_nil : (o : Row) → all_zero (take 16 o) ≡ false → is_nil (take 16 o) ≡ false
not_nil o z = bool_cases (is_nil (take 16 o)) (λ n. contradiction (nil_zeros (take 16 o) n) z) (λ n. n)

row_entries : (o : Row) → length o ≡ 25 → Entries (entries_of o) (map (access_for (old_row o)) (subjects (old_row o).subject))
unfolding entries_of is_anybody uuid_entry connection_entry owner_of bits bit every_second connection_as
row_entries o l =
    let u : length (take 16 o) ≡ 16 = length-take-le 16 o (omega arith) in
    bool_cases (all_zero (take 16 o))
    (λ z. rw (z, zeros_nil (take 16 o) u z) (
      entry_read 2 (connection_subject 1) o (IsConnection AuthCrypt) (omega arith) l refl (connection_subject_lem 1 o l),
      (entry_read 2 (connection_subject 0) o (IsConnection AnonClear) (omega arith) l refl (connection_subject_lem 0 o l), tt),
    ))
    (λ z. rw (z, not_nil o z) (entry_read 0 (old_subject o) o (IsUuid (take 16 o)) (omega arith) l u (uuid_subject_lem o l), tt))

append_entries : (es ds : List (List ℕ)) (xs ys : List (ℕ → Access)) → Entries es xs → Entries ds ys → Entries (es ++ ds) (xs ++ ys)
append_entries [] ds [] ys p q = q
append_entries [] ds (a ∷ xs) ys p q = absurd p
append_entries (e ∷ es) ds [] ys p q = absurd p
append_entries (e ∷ es) ds (a ∷ xs) ys p q = (p.0, append_entries es ds xs ys p.1 q)

all_entries_lem : (os : List Row) → AllLong 25 os → Entries (all_entries os) (made (map old_row os))
unfolding all_entries made
all_entries_lem [] l = tt
all_entries_lem (o ∷ os) l = append_entries (entries_of o) (all_entries os) _ _ (row_entries o l.0) (all_entries_lem os l.1)

numbered_read : (i : ℕ) (es : List (List ℕ)) (xs : List (ℕ → Access)) → Entries es xs → i + length es ≤ 65536
    → map access_of (numberedBytes i es) ≡ numbered_from i xs
unfolding numberedBytes numbered_from
numbered_read i [] [] p l = refl
numbered_read i [] (a ∷ xs) p l = absurd p
numbered_read i (e ∷ es) [] p l = absurd p
numbered_read i (e ∷ es) (a ∷ xs) p l =
    ap₂ (λ (x : Access) (ys : List Access). x ∷ ys) (p.0 i (omega arith)) (numbered_read (i + 1) es xs p.1 (omega arith))

-- of a file that becomes at most 32 rows
pub rows_converted : (file : List ℕ) → too_many_rows file ≡ false → map access_of (rows_made file) ≡ converted (map old_row (old_rows file))
unfolding rows_made converted old_rows too_many_rows
rows_converted file few =
    let os = rows_of 25 (length file / 25) file in
    let long = long_rows_of 25 (length file / 25) file (omega arith) in
    numbered_read 1 (all_entries os) (made (map old_row os)) (all_entries_lem os long)
    (omega (arith, ltb-false 32 (length (numberedBytes 1 (all_entries os))) few, numbered_length 1 (all_entries os)))
