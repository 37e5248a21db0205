-- The places that a DELETE leaves to store, read.
use Rattle.rows.proofs.Prelude.{◌≡◌, refl, List, true, ℕ}
use Rattle.rules.specs.declared.Tables.{Tables as ByteTables}
use Rattle.rules.specs.declared.Table.TheVariants.{Creds, Aces}
use Rattle.rules.specs.declared.Key.TheVariants.{All, Number, Subject}
use Rattle.rules.specs.declared.Action.{Action as ByteAction}
use Rattle.rules.specs.declared.Action.TheVariants.{Serve, Read, SetRowOwner, SetOwner, SetState, Store, Remove, Assert, Malformed}
use Rattle.rules.specs.Bodies.{row_number, ace_storable}
use Rattle.rules.specs.Roles.{cred_sound}
use Rattle.rules.specs.Keys.{goes}
use Rattle.rules.specs.Tables.{rows}
use Rattle.rules.specs.StoreRange.{store_range_of}
use Rattle.rules_typed.specs.Types.{All as AllRows, Numbered}
use Rattle.rules_typed.specs.Checks.{has_subject, of_credentials, of_accesses}
use Rattle.rules_typed.specs.Outcome.{places_by}
use Rattle.rules_typed.specs.Struct.{Given}
use Rattle.rules_typed.specs.Reading.{credential_as, access_of, tables_of}
use Rattle.rules_typed.specs.Tables.{is_bytes}
use Rattle.rules_typed.proofs.ListLaws.{gap_read}
use Rattle.rules_typed.proofs.ByteLaws.{Good}
use Rattle.rules_typed.proofs.PermissionRead.{creds_good, aces_good, cred_long, ace_long}
use Rattle.rules_typed.proofs.RowsRead.{number_key, subject_key}
use Rattle.rules_typed.proofs.Removals.{Removed}
use Rattle.rules_typed.proofs.ActionAs.{action_as}
use Rattle.rules_typed.specs.Writing.{written_places}

pub places_read : (t : ByteTables) → Given t → (b : List ℕ) → is_bytes b ≡ true → (a : ByteAction) → Removed b a
    → written_places (places_by (tables_of t) (action_as b a)) ≡ store_range_of t b a
places_read t g b h Serve k = refl
places_read t g b h Read k = refl
places_read t g b h (SetRowOwner n) k = refl
places_read t g b h (SetOwner o) k = refl
places_read t g b h (SetState n) k = refl
places_read t g b h (Store Creds) k = refl
places_read t g b h (Store Aces) k = refl
places_read t g b h (Remove Creds All) k =
    gap_read credential_as (Good cred_sound) (goes All b) (of_credentials AllRows) (λ w y. refl) (rows Creds t) (creds_good t g)
places_read t g b h (Remove Creds Number) k =
    gap_read credential_as (Good cred_sound) (goes Number b) (of_credentials (Numbered (row_number b))) (λ w y. number_key b w h k y.1 (cred_long w y))
    (rows Creds t) (creds_good t g)
places_read t g b h (Remove Creds Subject) k =
    gap_read credential_as (Good cred_sound) (goes Subject b) (has_subject b) (λ w y. subject_key b w k) (rows Creds t) (creds_good t g)
places_read t g b h (Remove Aces All) k = gap_read access_of (Good ace_storable) (goes All b) (of_accesses AllRows) (λ w y. refl) (rows Aces t) (aces_good t g)
places_read t g b h (Remove Aces Number) k =
    gap_read access_of (Good ace_storable) (goes Number b) (of_accesses (Numbered (row_number b))) (λ w y. number_key b w h k y.1 (ace_long w y)) (rows Aces t)
    (aces_good t g)
places_read t g b h (Remove Aces Subject) k = absurd k
places_read t g b h (Assert c) k = refl
places_read t g b h Malformed k = refl
