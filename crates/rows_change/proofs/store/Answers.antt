-- `store` meets its contract, by the laws of the place where a row is stored: over the row that has its number, or after the last.
use Rattle.rows.proofs.Prelude.{◌≡◌, sym, ◌∙◌, List, ℕ, ◌≤◌, length, take}
use Rattle.std.specs.Prelude.{Option}
use Rattle.rows.specs.Rows.{rows_of, numbered_as, has_key}
use Rattle.rows.specs.Promises.{IsTable, index_of, index_from}
use Rattle.rows.proofs.Laws.{numbered_key, index_inside, row_within, stored_at, stored_end, end_inside}
use Rattle.rows_change.proofs.store.Goals as goal

-- the number is the row's first two bytes, so `find` looks for the row's number
found_is : {rows : List ℕ} (row : List ℕ) {stride count : ℕ} {f : Option ℕ} → IsTable stride count rows → length row ≡ stride
    → f ≡ index_of (has_key 0 (take 2 row)) (rows_of stride count rows)
    → index_from 0 (numbered_as row) (rows_of stride count rows) ≡ f
found_is row {stride = stride} t e h =
    let n : 2 ≤ stride = t.numbered in
    sym (h ∙ rw (numbered_key row (rw e n)))

pub returns-in-Some : goal.returns-in-Some
returns-in-Some c =
    let at = found_is c.args.row.now c.requires.table c.requires.row_len.0 (sym c.in-Some.is ∙ rw c.new.ensures at c.find-found.ensures) in
    let s = stored_at _ _ _ _ c.requires.table _ at _ c.put_row.ensures c.put_row.auto.rows in
    record { value = s.0; rows_value = s.1 }

pub returns-in-None : goal.returns-in-None
returns-in-None c =
    let none = found_is c.args.row.now c.requires.table c.requires.row_len.0 (sym c.in-None.is ∙ rw c.new.ensures at c.find-found.ensures) in
    let s = stored_end _ _ _ _ c.requires.table none _ c.put_row-in-None.ensures c.put_row-in-None.auto.rows in
    record { value = s.0; rows_value = s.1 }

pub put_row-requires : goal.put_row-requires
put_row-requires c =
    let at = found_is c.args.row.now c.requires.table c.requires.row_len.0 (sym c.in-Some.is ∙ rw c.new.ensures at c.find-found.ensures) in
    (c.requires.row_len.0, row_within _ _ _ _ c.requires.table.fits (index_inside _ _ _ _ c.requires.table _ at))

pub put_row-requires-in-None : goal.put_row-requires-in-None
put_row-requires-in-None c =
    let none = found_is c.args.row.now c.requires.table c.requires.row_len.0 (sym c.in-None.is ∙ rw c.new.ensures at c.find-found.ensures) in
    (c.requires.row_len.0, end_inside _ _ _ _ c.requires.table none c.requires.row_len.1)
