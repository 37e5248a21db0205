-- Theorem: what is read of sound tables, written, is the tables: typed tables have nothing less, and nothing more.
use Rattle.rows.proofs.Prelude.{◌≡◌, refl, sym, ap, ap₂, ◌∙◌, List, [], ◌∷◌, ◌++◌, map, ℕ, arith, drop, and_left, length-map, take-append-drop, take_all, ◌≤◌}
use Rattle.rows.proofs.Prelude.{length-take-le, length-drop, drop-drop, take, length, ◌*◌}
use Rattle.rows.specs.Rows.{Row, packed, without as withoutRows}
use Rattle.rows.proofs.Laws.{kept}
use Rattle.rows.proofs.Kept.{same_true}
use Rattle.rules.specs.declared.Tables.{Tables as ByteTables}
use Rattle.rules.specs.declared.Table.TheVariants.{Creds, Aces}
use Rattle.rules.specs.Roles.{no_role, roles_of, roles_sound, distinct_roles, cred_sound}
use Rattle.rules.specs.Sizes.{cred_body_size, cred_row_size, ace_row_size, roles_size}
use Rattle.rules.specs.Tables.{rows, table_size}
use Rattle.rules.proofs.Answers.{rows_are, rows_count}
use Rattle.rules.proofs.RoleLaws.{held_parts}
use Rattle.rules.proofs.TableLaws.{table_is}
use Rattle.rules_typed.specs.Struct.{Given}
use Rattle.rules_typed.specs.Reading.{credential_as, tables_of, owners_at}
use Rattle.rules_typed.specs.Writing.{credential_row, written_tables, row_owner_bytes}
use Rattle.rules_typed.proofs.ListLaws.{Each}
use Rattle.rules_typed.proofs.ByteLaws.{Good}
use Rattle.rules_typed.proofs.StateRead.{state_back}
use Rattle.rules_typed.proofs.PermissionRead.{creds_good, aces_good, owned_is, is_state_lem}
use Rattle.rules_typed.proofs.RowsRead.{Place, each_without, places_good}
use Rattle.rules_typed.proofs.WriteBack.{credential_back}
use Rattle.rules_typed.proofs.ReplyRead.{uuid_back, places_back, aces_back, owned_number_lem}
use Rattle.rules.specs.declared.Sender.TheVariants.{Unauthenticated}

-- ---- a credential row

pub row_back : (w : Row) → Good cred_sound w → credential_row (credential_as w) ≡ w
unfolding credential_row roles_sound
row_back w g =
    let held = withoutRows no_role (roles_of w) in
    let behind = same_true (drop cred_body_size w) (packed roles_size held) (and_left _ (distinct_roles held) (held_parts w g.0).roles) in
    let roles = places_back held (each_without Place no_role (roles_of w) (places_good w g)) in
    ap₂ (λ (x y : List ℕ). x ++ y) (credential_back w g) (ap (packed roles_size) roles ∙ sym behind)
    ∙ take-append-drop cred_body_size w

rows_back : (ws : List Row) → Each (Good cred_sound) ws → map credential_row (map credential_as ws) ≡ ws
rows_back [] q = refl
rows_back (w ∷ ws) q = ap₂ (λ (x : List ℕ) (xs : List (List ℕ)). x ∷ xs) (row_back w q.0) (rows_back ws q.1)

-- ---- owners

four_back : (x : List ℕ) → length x ≡ 64 → row_owner_bytes (owners_at x) ≡ x
four_back x l =
    let at : (n : ℕ) → n ≤ 3 → length (take 16 (drop (n * 16) x)) ≡ 16 = λ n h. length-take-le 16 (drop (n * 16) x) (rw length-drop (omega arith)) in
    rw (
      uuid_back (take 16 (drop 0 x)) (at 0 (omega arith)),
      uuid_back (take 16 (drop 16 x)) (at 1 (omega arith)),
      uuid_back (take 16 (drop 32 x)) (at 2 (omega arith)),
      uuid_back (take 16 (drop 48 x)) (at 3 (omega arith)),
    )
    (ap (λ (y : List ℕ). take 16 x ++ y)
    (ap (λ (y : List ℕ). take 16 (drop 16 x) ++ y)
    (ap (λ (y : List ℕ). take 16 (drop 32 x) ++ y) (take_all 16 (drop 48 x) (rw length-drop (omega arith)))
    ∙ ap (λ (y : List ℕ). take 16 (drop 32 x) ++ y) (sym (drop-drop 16 32 x)) ∙ take-append-drop 16 (drop 32 x))
    ∙ ap (λ (y : List ℕ). take 16 (drop 16 x) ++ y) (sym (drop-drop 16 16 x)) ∙ take-append-drop 16 (drop 16 x))
    ∙ take-append-drop 16 x)

module _ (t : ByteTables) (g : Given t) where
  creds_stand : packed (table_size Creds) (rows Creds t) ≡ t.creds
  creds_stand =
      let h = g.is_sound in
      let l = g.struct.creds_long in
      ap₂ packed (sym l) (rows_are Creds t h) ∙ sym (kept cred_row_size t.ncreds t.creds (table_is Creds t h l))

  aces_stand : packed (table_size Aces) (rows Aces t) ≡ t.aces
  aces_stand =
      let h = g.is_sound in
      let l = g.struct.aces_long in
      ap₂ packed (sym l) (rows_are Aces t h) ∙ sym (kept ace_row_size t.naces t.aces (table_is Aces t h l))

  pub tables_back : written_tables (tables_of t) ≡ t
  tables_back =
      rw (
        state_back t.state (is_state_lem t g),
        owned_number_lem t.devowner t.owned g.struct.owner_long (owned_is t g Unauthenticated),
        length-map,
        length-map,
        rows_count Creds t g.is_sound,
        rows_count Aces t g.is_sound,
        uuid_back t.devowner g.struct.owner_long,
        four_back t.rowners g.struct.owners_long,
        rows_back (rows Creds t) (creds_good t g),
        creds_stand,
        aces_back (rows Aces t) (aces_good t g),
        aces_stand,
      )
