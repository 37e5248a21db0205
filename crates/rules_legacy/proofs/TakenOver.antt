-- Theorem: a converted list in which no "*" row opens a security resource is loaded whole by the device owner's records,
-- and then each record has what it had before and what the old rows gave its sender.
use Rattle.rows.proofs.Prelude.{◌≡◌, sym, ap, ap₂, ◌∙◌, Bool, false, cond, List, [], ℕ, ◌≤◌, bit_or}
use Rattle.rows.specs.Rows.{Row, some, joined, union_of}
use Rattle.rules.specs.declared.Tables.{Tables}
use Rattle.rules.specs.declared.Table.TheVariants.{Creds, Aces}
use Rattle.rules.specs.Record.{Request, sender, resource}
use Rattle.rules.specs.Tables.{rows, with_rows}
use Rattle.rules.specs.Defaults.{Defaults}
use Rattle.rules.specs.Permission.{sender_row_in, connection_of, permission, permission_of}
use Rattle.rules.specs.Outcome.{tables_after}
use Rattle.rules.specs.Run.{final}
use Rattle.rules.proofs.RowsStored.{none_held}
use Rattle.rules_lists.specs.Loading.{Stores, Ready, Loaded}
use Rattle.rules_lists.proofs.Loaded.{accepted_loaded}
use Rattle.rules_legacy.specs.OldList.{old_rows, old_union, opens_security, bad_file}
use Rattle.rules_legacy.specs.Conversion.{rows_made, too_many_rows}
use Rattle.rules_legacy.proofs.Answered.{rows_listed}
use Rattle.rules_legacy.proofs.Held.{effective_parts, permission_same}
use Rattle.rules_legacy.proofs.Tested.{rows_tested_lem}

-- tables without access rows
without_rows : (clock : ℕ) (t : Tables) (r : List ℕ) → t.naces ≡ 0 → permission clock t r ≡ permission clock (with_rows Aces t []) r
unfolding permission_of union_of
without_rows clock t r z = rw (effective_parts clock t (sender r) (resource r), none_held Aces t z)

module _ (f : List ℕ) (good : bad_file f ≡ false) (few : too_many_rows f ≡ false) (closed : some opens_security (old_rows f) ≡ false) where
  module _ (d : Defaults) (t : Tables) (qs : List Request) (ready : Ready t) (stores : Stores t qs (rows_made f)) where
    -- the records that store the rows are permitted throughout
    pub rows_loaded : Loaded d t qs (rows_made f)
    rows_loaded =
        rw (rows_listed f) at
        (accepted_loaded d t (joined (rows_made f)) qs (rows_tested_lem f good few ∙ ap (λ (b : Bool). cond b 21 0) closed) ready (rw (rows_listed f) stores))

    -- and then every record at every clock has what it had, and what the old rows gave
    pub taken_over : (clock : ℕ) → clock ≤ 4294967295 → (r : List ℕ)
        → permission clock (final (tables_after d) t qs) r
        ≡ bit_or (old_union (sender_row_in (rows Creds t) (sender r)) (connection_of (sender r)) (resource r) f) (permission clock t r)
    taken_over clock h r =
        permission_same f (final (tables_after d) t qs) rows_loaded.held clock h r
        ∙ ap₂ (λ (ws : List Row) (p : ℕ). bit_or (old_union (sender_row_in ws (sender r)) (connection_of (sender r)) (resource r) f) p)
        (ap (rows Creds) rows_loaded.others)
        (ap (λ (x : Tables). permission clock x r) rows_loaded.others ∙ sym (without_rows clock t r ready.no_aces))
