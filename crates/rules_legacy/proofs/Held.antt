-- Theorem of tables that hold the rows made: each record has what the old rows gave its sender, in addition to what it has without access rows.
use Rattle.rows.proofs.Prelude.{◌≡◌, false, List, [], ℕ, ◌≤◌, ◌<◌, bit_or}
use Rattle.rows.specs.Rows.{rows_of, union_of}
use Rattle.rows.proofs.Union.{or_assoc}
use Rattle.rules.specs.declared.Tables.{Tables}
use Rattle.rules.specs.declared.Table.TheVariants.{Creds, Aces}
use Rattle.rules.specs.declared.Sender.{Sender}
use Rattle.rules.specs.Record.{sender, resource}
use Rattle.rules.specs.Tables.{rows, rows_in, with_rows, row_owner}
use Rattle.rules.specs.Permission.{sender_row_in, connection_of, grants, is_owner, by_owner, by_no_owner, effective_of, permission, permission_of}
use Rattle.rules.specs.Promises.Theorems.{effective}
use Rattle.rules.proofs.BitLaws.{bits_small}
use Rattle.rules.proofs.TableLaws.{rows_with}
use Rattle.rules_legacy.specs.OldList.{old_union, bad_file}
use Rattle.rules_legacy.specs.Conversion.{rows_made, too_many_rows}
use Rattle.rules_legacy.proofs.SameUnion.{same_union}
use Rattle.rules_legacy.proofs.Stored.{rows_sound_lem}
use Rattle.rules.specs.Directory.{resource_of}

-- what the access rows give, and what the tables give without them
pub effective_parts : (clock : ℕ) (t : Tables) (s : Sender) (n : ℕ)
    → effective clock t s n
    ≡ bit_or (union_of (grants clock (sender_row_in (rows Creds t) s) (connection_of s) (resource_of n)) (rows Aces t)) (effective clock (with_rows Aces t []) s n)
unfolding effective_of by_owner by_no_owner is_owner row_owner rows_in rows_of union_of
effective_parts clock t s n = simp or_assoc

-- of a file that gets neither 23 nor 24, tables hold the rows made
pub rows_held : (f : List ℕ) → bad_file f ≡ false → too_many_rows f ≡ false → (t : Tables) → rows Aces (with_rows Aces t (rows_made f)) ≡ rows_made f
rows_held f good few t = let s = rows_sound_lem f few good in rows_with Aces t (rows_made f) s.few s.stores

module _ (f : List ℕ) (t : Tables) (holds : rows Aces t ≡ rows_made f) where
  pub effective_same : (clock n : ℕ) → clock ≤ 4294967295 → n < 64 → (s : Sender)
      → effective clock t s n ≡ bit_or (old_union (sender_row_in (rows Creds t) s) (connection_of s) n f) (effective clock (with_rows Aces t []) s n)
  effective_same clock n h k s = rw (effective_parts clock t s n, holds, same_union clock n h k (rows Creds t) s f)

  -- every record at every clock; its resource has six bits
  pub permission_same : (clock : ℕ) → clock ≤ 4294967295 → (r : List ℕ)
      → permission clock t r
      ≡ bit_or (old_union (sender_row_in (rows Creds t) (sender r)) (connection_of (sender r)) (resource r) f) (permission clock (with_rows Aces t []) r)
  unfolding permission_of
  permission_same clock h r = effective_same clock (resource r) h (bits_small r 4 6) (sender r)
