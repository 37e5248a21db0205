-- Theorems, U4: what a permitted DELETE reports, and what it leaves in the memory that wears; everything else reports 0 and 0.
-- For a record at any clock, with any buffer and any default lists. The bytes' length is that which the struct's type gives.
use Rattle.rows.proofs.Prelude.{◌≡◌, refl, sym, ap, ◌∙◌, Bool, true, false, List, [], ◌+◌, arith, length, cond_cases}
use Rattle.rows.specs.Rows.{Row, some, without}
use Rattle.rows.proofs.Gap as gap
use Rattle.rules.specs.declared.Tables.{Tables}
use Rattle.rules.specs.declared.StoreRange.{StoreRange}
use Rattle.rules.specs.declared.Table.{Table}
use Rattle.rules.specs.Record.{Request, body}
use Rattle.rules.specs.Tables.{head_of, count, bytes, rows, with_rows, table_size}
use Rattle.rules.specs.Defaults.{Defaults}
use Rattle.rules.specs.Keys.{goes}
use Rattle.rules.specs.StoreRange.{no_range, gap_of}
use Rattle.rules.specs.Promises.Theorems.{deletes}
use Rattle.rules.specs.Outcome.{Response, Outcome, response_to, tables_after}
use Rattle.rules.specs.Deleted.{NoRange, Worn}
use Rattle.rules.proofs.Answers.{rows_count}
use Rattle.rules.proofs.TableLaws.{rows_with}
use Rattle.rules.proofs.SoundKept.{removed_sound}
use Rattle.rules.proofs.Refusals.{not_told, permitted_outcome}
use Rattle.rules.proofs.Gaps as gaps
use Rattle.rules.proofs.Gaps.{with_count}
use Rattle.rules.proofs.Deletes.{deleted, quiet}

-- ---- rows that go

-- they end with the last row, also where there is none
gap_ends : (goes : Row → Bool) (ws : List Row) → (some goes ws ≡ false → ws ≡ []) → (gap_of goes ws).first + (gap_of goes ws).count ≡ length ws
unfolding gap_of
gap_ends goes ws none =
    cond_cases (λ (p : StoreRange). p.first + p.count ≡ length ws) (some goes ws)
    (λ _. omega (arith, gap.before_all goes ws))
    (λ e. sym (ap length (none e)))

-- where no fewer rows stay, there are no places
gap_none : (goes : Row → Bool) (ws : List Row) → length (without goes ws) ≡ length ws → gap_of goes ws ≡ no_range
unfolding gap_of
gap_none goes ws same = cond_cases (λ (p : StoreRange). p ≡ no_range) (some goes ws) (λ e. absurd (omega (arith, gap.fewer_stay goes ws e))) (λ _. refl)

-- ---- of a record

pub delete_worn : (d : Defaults) (t : Tables) (q : Request) (k : Table)
    → deletes k q.bytes ≡ true → (response_to d t q).answer ≡ 0 → length (bytes k t) ≡ table_size k
    → Worn k t (tables_after d t q) (response_to d t q).store
delete_worn d t q k h z l =
    let x = deleted d t q k h z in
    let orphaned = goes x.key (body q.bytes) in
    let s = removed_sound k t orphaned x.sound in
    rw (x.tables, x.store)
    (record {
      stored = gaps.bytes_stored k t orphaned x.sound l;
      front = gaps.bytes_kept k t orphaned x.sound l;
      rest = gaps.bytes_rest k t orphaned x.sound l;
      ends = gap_ends orphaned (rows k t) x.none ∙ rows_count k t x.sound;
      changed = gaps.rows_changed k t orphaned x.sound l;
      before = gaps.numbers_before k t orphaned x.sound l;
      behind = gaps.numbers_after k t orphaned x.sound l;
      unused = gaps.numbers_unused k t orphaned x.sound l;
      others = ap (with_rows k t) (sym (rows_with k t (without orphaned (rows k t)) s.few s.stores));
    })

range_unless : (d : Defaults) (t : Tables) (q : Request) → ((response_to d t q).answer ≡ 0 → (response_to d t q).store ≡ no_range) → (response_to d t q).store ≡ no_range
range_unless d t q = not_told (λ (x : Response). x.store) no_range d t q (λ n. refl)

pub no_range_lem : (d : Defaults) (t : Tables) (q : Request) → NoRange q t (tables_after d t q) (response_to d t q)
no_range_lem d t q = record {
  refused = λ other. range_unless d t q (λ z. absurd (other z));
  no_delete = λ other. range_unless d t q (λ z. ap (λ (o : Outcome). o.response.store) (permitted_outcome d t q z) ∙ quiet t q.bytes other);
  no_rows = λ k h same. range_unless d t q (λ z.
      let x = deleted d t q k h z in
      let orphaned = goes x.key (body q.bytes) in
      x.store
      ∙ gap_none orphaned (rows k t) (sym (with_count k t (without orphaned (rows k t))) ∙ ap (λ (u : Tables). count k (head_of u)) (sym x.tables) ∙ same ∙ sym (rows_count k t x.sound)));
}
