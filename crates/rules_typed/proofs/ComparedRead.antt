-- The compared tables, read: without the chosen partners' asserted roles.
use Rattle.rows.proofs.Prelude.{◌≡◌, refl, sym, ap, ap₂, ◌∙◌, Bool, true, List, [], ◌∷◌, map, ℕ, ◌-◌, arith, length, ◌++◌, replicate, bool_cases, length-append}
use Rattle.rows.proofs.Prelude.{length-take, length-replicate, ◌≤◌, length-map, false}
use Rattle.rules_typed.proofs.ByteLaws.{Good, bits_take, part_within}
use Rattle.rules.specs.Roles.{cred_sound, without_roles, body_of}
use Rattle.rules_typed.specs.Reading.{credential_as, credential_in, tables_of, read_tables}
use Rattle.rules.proofs.BodyLaws.{sized}
use Rattle.rules.specs.declared.Table.TheVariants.{Creds}
use Rattle.rules_typed.proofs.ActionRead.{stored_read}
use Rattle.rules.proofs.RoleLaws.{body_long}
use Rattle.rules.specs.declared.Sender.{Sender}
use Rattle.rules.specs.declared.Sender.TheVariants.{Partner}
use Rattle.rules.specs.Isolation.{redacted as redactedBytes, compared as comparedBytes, redacted_in}
use Rattle.rules_typed.specs.Isolation.{redacted, compared}
use Rattle.rules.specs.Bits.{bits}
use Rattle.rules_typed.proofs.ListLaws.{Each}
use Rattle.rules_typed.specs.Types.{Credential}
use Rattle.rows.proofs.Kept.{AllLong}
use Rattle.rules.specs.declared.Tables.{Tables as ByteTables}
use Rattle.rules_typed.specs.Struct.{Given, IsStruct}
use Rattle.rules_typed.specs.Lists.{just, when}
use Rattle.rules.specs.Tables.{rows, sound as soundBytes}
use Rattle.rules.proofs.TableLaws.{few_rows, rows_long}
use Rattle.rules_typed.proofs.PermissionRead.{creds_good}
use Rattle.rules_typed.specs.Effect.{with_credentials}
use Rattle.rows.specs.Rows.{Row}
use Rattle.rules_typed.proofs.SoundExact.{read_is}

-- a row without its asserted roles
bare_read : (w : Row) → Good cred_sound w → credential_as (without_roles w) ≡ credential_in w []
unfolding without_roles
bare_read w g =
    let l : length w ≡ 39 = sized Creds w g.0 in
    let store : length w - 23 ≡ 16 = omega arith in
    ap (λ (n : ℕ). credential_as (body_of w ++ replicate n 0)) store
    ∙ stored_read (body_of w) (body_long w l)
    ∙ rw (
      bits_take 23 w 0 16 (omega arith),
      part_within 2 16 23 w (omega arith),
      bits_take 23 w 144 16 (omega arith),
      bits_take 23 w 160 16 (omega arith),
      bits_take 23 w 176 6 (omega arith),
    )

module _ (chosen : Sender → Bool) where
  redacted_read : (w : Row) → Good cred_sound w → credential_as (redactedBytes chosen w) ≡ redacted chosen (credential_as w)
  unfolding redactedBytes redacted
  redacted_read w g = bool_cases (chosen (Partner (bits w 0 16))) (λ e. rw e (bare_read w g)) (λ e. rw e)

  all_redacted : (ws : List Row) → Each (Good cred_sound) ws → map credential_as (map (redactedBytes chosen) ws) ≡ map (redacted chosen) (map credential_as ws)
  all_redacted [] q = refl
  all_redacted (w ∷ ws) q = ap₂ (λ (x : Credential) (xs : List Credential). x ∷ xs) (redacted_read w q.0) (all_redacted ws q.1)

  one_long : (w : Row) → Good cred_sound w → length (redactedBytes chosen w) ≡ 39
  unfolding redactedBytes without_roles
  one_long w g =
      let l : length w ≡ 39 = sized Creds w g.0 in
      let bare : length (body_of w ++ replicate (length w - 23) 0) ≡ 39 = simp (length-append, length-take, length-replicate) (omega arith) in
      bool_cases (chosen (Partner (bits w 0 16))) (λ e. rw e bare) (λ e. rw e l)

  all_long : (ws : List Row) → Each (Good cred_sound) ws → AllLong 39 (map (redactedBytes chosen) ws)
  all_long [] q = tt
  all_long (w ∷ ws) q = (one_long w q.0, all_long ws q.1)

  tables_redacted : (t : ByteTables) → Given t → just (tables_of (redacted_in chosen t)) ≡ compared chosen (just (tables_of t))
  tables_redacted t g =
      let ws = map (redactedBytes chosen) (rows Creds t) in
      let few : length ws ≤ 24 = rw length-map (few_rows Creds t g.is_sound) in
      let are = rows_long Creds t ws few (all_long (rows Creds t) (creds_good t g)) in
      ap (λ (cs : List Credential). just (with_credentials cs (tables_of t))) (ap (map credential_as) are ∙ all_redacted (rows Creds t) (creds_good t g))

  -- tables of which the same is compared, over bytes, are compared the same
  pub compared_read : (t u : ByteTables) → IsStruct t → IsStruct u → soundBytes t ≡ soundBytes u → comparedBytes chosen t ≡ comparedBytes chosen u
      → compared chosen (read_tables t) ≡ compared chosen (read_tables u)
  unfolding when comparedBytes
  compared_read t u i j s e =
      rw (read_is t i, read_is u j)
      (bool_cases (soundBytes t)
      (λ x. let y : soundBytes u ≡ true = sym s ∙ x in
      let is : redacted_in chosen t ≡ redacted_in chosen u = rw (x, y) at e in
      rw (x, y) (sym (tables_redacted t (record { is_sound = x; struct = i })) ∙ ap (λ (v : ByteTables). just (tables_of v)) is
      ∙ tables_redacted u (record { is_sound = y; struct = j })))
      (λ x. let y : soundBytes u ≡ false = sym s ∙ x in rw (x, y)))
