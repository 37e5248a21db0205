-- Theorem: fresh tables, read: RFOTM, no owners, and the rows of the build's default lists.
use Rattle.rows.proofs.Prelude.{◌≡◌, refl, sym, ap, ap₂, Bool, true, List, [], ◌∷◌, map, ℕ, zero, suc, ◌+◌, ◌*◌, ◌≤◌, arith, length, drop, bool_cases}
use Rattle.rows.proofs.Prelude.{length-take-le, length-drop, ◌&&◌, ◌/◌, ◌%◌, cond, leb, eqb, ◌∙◌, false, length-map, and-true, and-false, replicate}
use Rattle.rules_typed.specs.Types.{Bytes, Credential, Access}
use Rattle.rules_typed.specs.Lists.{Maybe, when, distinct, none, just}
use Rattle.rows.specs.Rows.{Row, every, rows_of, distinct_numbers, all_zero}
use Rattle.rules_typed.proofs.ListLaws.{Each}
use Rattle.rules_typed.specs.Reading.{read_all, read_credential, credential_as, read_access, access_of, read_rows, tables_of, read_fresh, state_of, owner_of}
use Rattle.rules_typed.specs.Reading.{read_tables}
use Rattle.rules_typed.specs.Tables.{is_bytes, same_credential, same_access, default_credentials, default_accesses, fresh_tables, cleared}
use Rattle.rules_typed.proofs.ByteLaws.{bytes_take, bytes_drop, Good}
use Rattle.rules.specs.Roles.{cred_sound, unasserted}
use Rattle.rules_typed.proofs.ActionRead.{cred_body_lem, stored_read}
use Rattle.rules.specs.Bodies.{ace_storable, nil as nilBytes}
use Rattle.rules_typed.proofs.RowExact.{access_exact}
use Rattle.rows.proofs.Laws.{mul_front, length_rows_of}
use Rattle.rules_typed.proofs.SoundExact.{distinct_read, same_credential_lem, good_each, same_access_lem, read_is}
use Rattle.rules_typed.proofs.RowsRead.{bytes_join, zero_bytes}
use Rattle.rules.specs.Defaults.{Defaults, default_rows, good_list, fresh as freshBytes, cleared as clearedBytes}
use Rattle.rules_typed.specs.Struct.{DefaultBytes}
use Rattle.rules.specs.declared.Table.TheVariants.{Creds, Aces}
use Rattle.rules.specs.Tables.{empty, with_rows}
use Rattle.rules.proofs.SoundKept.{default_sound, fresh_sound}
use Rattle.rules.proofs.TableLaws.{rows_with}
use Rattle.rules.specs.declared.Tables.{Tables as ByteTables}
use Rattle.rules_typed.proofs.StructKept.{fresh_struct}

-- ---- a list whose rows are all read

module _ {A : Type 0} (read : Bytes → Maybe A) (held : Row → Bool) (view : Row → A) (Q : Row → Type 0)
    (e : (w : Row) → Q w → read w ≡ when (held w) (view w)) where
  all_read : (ws : List Row) → Each Q ws → read_all read ws ≡ when (every held ws) (map view ws)
  unfolding read_all every when
  all_read [] q = refl
  all_read (w ∷ ws) q =
      rw (e w q.0, all_read ws q.1)
      (bool_cases (held w) (λ h. rw h (bool_cases (every held ws) (λ k. rw k) (λ k. rw k))) (λ h. rw h))

-- rows of n bytes
abbrev Sized : ℕ → Row → Type 0
Sized n w = (length w ≡ n) × (is_bytes w ≡ true)

rows_sized : (n k : ℕ) (b : List ℕ) → k * n ≤ length b → is_bytes b ≡ true → Each (Sized n) (rows_of n k b)
unfolding rows_of
rows_sized n zero b l h = tt
rows_sized n (suc k) b l h =
    let more : n + k * n ≤ length b = rw (mul_front k n) at l in
    ((length-take-le n b (omega arith), bytes_take n b h), rows_sized n k (drop n b) (rw length-drop (omega arith)) (bytes_drop n b h))

cred_read : (w : Row) → Sized 23 w → read_credential w ≡ when (cred_sound (unasserted w)) (credential_as (unasserted w))
unfolding read_credential
cred_read w q = ap₂ (λ (b : Bool) (c : Credential). when b c) (sym (cred_body_lem w q.0 q.1)) (sym (stored_read w q.0))

access_read : (w : Row) → Sized 36 w → read_access w ≡ when (ace_storable w) (access_of w)
unfolding read_access
access_read w q = ap (λ (b : Bool). when b (access_of w)) (sym (access_exact w q.1))

-- ---- a default list

-- the rows that bytes hold are a list's, if its size is good; any other list counts as none
module _ {A : Type 0} (n : ℕ) (p : (m : ℕ) → m / n * n ≤ m) (read : Bytes → Maybe A) (row : Row → Row) (held : Row → Bool) (view : Row → A)
    (sameAs : A → A → Bool) (e : (w : Row) → Sized n w → read w ≡ when (held (row w)) (view (row w)))
    (f : (ws : List Row) → Each (Sized n) ws → every held (map row ws) ≡ true
    → distinct sameAs (map view (map row ws)) ≡ distinct_numbers (map row ws)) where
  abbrev default : Maybe (List A) → List A
  default none = []
  default (just xs) = cond (leb (length xs) 2 && distinct sameAs xs) xs []

  every_map : (ws : List Row) → every (λ w. held (row w)) ws ≡ every held (map row ws)
  unfolding every
  every_map [] = refl
  every_map (w ∷ ws) = ap (λ (b : Bool). held (row w) && b) (every_map ws)

  map_map : (ws : List Row) → map (λ w. view (row w)) ws ≡ map view (map row ws)
  map_map [] = refl
  map_map (w ∷ ws) = ap (λ (xs : List A). view (row w) ∷ xs) (map_map ws)

  module _ (b : List ℕ) (h : is_bytes b ≡ true) where
    abbrev ws : List Row
    ws = rows_of n (length b / n) b

    abbrev good : Bool
    good = leb (length b / n) 2 && eqb (length b % n) 0 && every held (map row ws) && distinct_numbers (map row ws)

    sized : Each (Sized n) ws
    sized = rows_sized n (length b / n) b (p (length b)) h

    is_read : read_all read ws ≡ when (every held (map row ws)) (map view (map row ws))
    is_read =
        all_read read (λ w. held (row w)) (λ w. view (row w)) (Sized n) e ws sized
        ∙ ap₂ (λ (t : Bool) (xs : List A). when t xs) (every_map ws) (map_map ws)

    many : length (map view (map row ws)) ≡ length b / n
    many = length-map (map row ws) view ∙ length-map ws row ∙ length_rows_of n (length b / n) b

    map_cond : (t : Bool) → cond t (map view (map row ws)) [] ≡ map view (cond t (map row ws) [])
    map_cond true = refl
    map_cond false = refl

    pub default_read : default (read_rows n read b) ≡ map view (cond good (map row ws) [])
    unfolding read_rows when
    default_read =
        bool_cases (eqb (length b % n) 0)
        (λ x. bool_cases (every held (map row ws))
        (λ y. rw (x, is_read, y, many, f ws sized y, and-true, and-true) (map_cond (leb (length b / n) 2 && distinct_numbers (map row ws))))
        (λ y. rw (x, is_read, y, and-false)))
        (λ x. rw (x, and-false))

-- ---- the fresh tables

unasserted_bytes : (ws : List Row) → Each (Sized 23) ws → Each (λ w. is_bytes w ≡ true) (map unasserted ws)
unasserted_bytes [] q = tt
unasserted_bytes (w ∷ ws) q = (bytes_join w (replicate 16 0) q.0.1 (zero_bytes 16), unasserted_bytes ws q.1)

same_bytes : (ws : List Row) → Each (Sized 36) ws → Each (λ w. is_bytes w ≡ true) (map (λ w. w) ws)
same_bytes [] q = tt
same_bytes (w ∷ ws) q = (q.0.1, same_bytes ws q.1)

distinct_creds : (ws : List Row) → Each (Sized 23) ws → every cred_sound (map unasserted ws) ≡ true
    → distinct same_credential (map credential_as (map unasserted ws)) ≡ distinct_numbers (map unasserted ws)
distinct_creds ws q h =
    distinct_read credential_as (Good cred_sound) same_credential same_credential_lem (map unasserted ws)
    (good_each cred_sound (map unasserted ws) h (unasserted_bytes ws q))

distinct_aces : (ws : List Row) → Each (Sized 36) ws → every ace_storable (map (λ w. w) ws) ≡ true
    → distinct same_access (map access_of (map (λ w. w) ws)) ≡ distinct_numbers (map (λ w. w) ws)
distinct_aces ws q h =
    distinct_read access_of (Good ace_storable) same_access same_access_lem (map (λ w. w) ws) (good_each ace_storable (map (λ w. w) ws) h (same_bytes ws q))

same_default_creds : (m : Maybe (List Credential))
    → default_credentials m ≡ default 23 (λ m. omega arith) read_credential unasserted cred_sound credential_as same_credential cred_read distinct_creds m
same_default_creds none = refl
same_default_creds (just cs) = refl

same_default_aces : (m : Maybe (List Access))
    → default_accesses m ≡ default 36 (λ m. omega arith) read_access (λ w. w) ace_storable access_of same_access access_read distinct_aces m
same_default_aces none = refl
same_default_aces (just cs) = refl

module _ (d : Defaults) (e : DefaultBytes d) where
  creds_are : default_credentials (read_rows 23 read_credential d.creds) ≡ map credential_as (default_rows Creds d.creds)
  unfolding default_rows good_list
  creds_are =
      same_default_creds (read_rows 23 read_credential d.creds)
      ∙ default_read 23 (λ m. omega arith) read_credential unasserted cred_sound credential_as same_credential cred_read distinct_creds d.creds e.creds

  aces_are : default_accesses (read_rows 36 read_access d.aces) ≡ map access_of (default_rows Aces d.aces)
  unfolding default_rows good_list
  aces_are =
      same_default_aces (read_rows 36 read_access d.aces)
      ∙ default_read 36 (λ m. omega arith) read_access (λ w. w) ace_storable access_of same_access access_read distinct_aces d.aces e.aces

  pub fresh_read : tables_of (freshBytes d) ≡ read_fresh d
  unfolding freshBytes read_fresh empty nilBytes state_of owner_of all_zero rows_of
  fresh_read =
      let c = default_sound Creds d.creds in
      let a = default_sound Aces d.aces in
      ap₂ fresh_tables
      (ap (map credential_as) (rows_with Creds empty (default_rows Creds d.creds) c.few c.stores) ∙ sym creds_are)
      (ap (map access_of) (rows_with Aces (with_rows Creds empty (default_rows Creds d.creds)) (default_rows Aces d.aces) a.few a.stores)
      ∙ sym aces_are)

  -- the clear button: the fresh tables are sound, and are read as such
  pub clear_read : (t : ByteTables) → read_tables (clearedBytes d t) ≡ just (cleared (read_fresh d) (read_tables t))
  unfolding clearedBytes when
  clear_read t = read_is (freshBytes d) (fresh_struct d e) ∙ rw (fresh_sound d, fresh_read)
