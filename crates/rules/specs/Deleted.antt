-- What a permitted DELETE leaves: rows without a subject (U3), and the places to store (U4).
use Rattle.std.specs.Prelude.{ℕ, ◌*◌, ◌+◌, ◌<◌, ◌≤◌, ◌≡◌, drop, take, false, true}
use mathlib.Core.List.{List, Memᴰ, Sublistᴰ, [], ◌∷◌}
use Rattle.rows.specs.Rows.{Row, without, number_at}
use Rattle.rules.specs.Bodies.{cred_subject}
use Rattle.rules.specs.Promises.Theorems.{has_subject}
use Rattle.rules.specs.Tables.{rows, with_rows, bytes, capacity, count, head_of, stride}
use Rattle.rules.specs.declared.Table.TheVariants.{Creds}
use Rattle.rules.specs.declared.Tables.{Tables}
use Rattle.rules.specs.Outcome.{Response}
use Rattle.rules.specs.Record.{Request}
use Rattle.rules.specs.StoreRange.{no_range}
use Rattle.rules.specs.Promises.Theorems.{deletes, overwritten}
use Rattle.rules.specs.declared.StoreRange.{StoreRange}
use Rattle.rules.specs.declared.Table.{Table}

-- of the tables before and after, for the subject s
pub record SubjectGone (s : List ℕ) (t t' : Tables) : Type 0 where
  -- the rows are those without the subject
  pub rows_left : rows Creds t' ≡ without (has_subject s) (rows Creds t)
  -- so none of them has it, each row of another subject is one of them, and they are in their order
  pub orphaned : (w : Row) → Memᴰ w (rows Creds t') → cred_subject w ≡ s → ⊥
  pub left : (w : Row) → Memᴰ w (rows Creds t) → (cred_subject w ≡ s → ⊥) → Memᴰ w (rows Creds t')
  pub order : Sublistᴰ (rows Creds t') (rows Creds t)
  -- access rows and all else in the tables are the same
  pub others : t' ≡ with_rows Creds t (rows Creds t')

-- of the tables before a DELETE, those after it and the places reported
pub record Worn (k : Table) (t t' : Tables) (p : StoreRange) : Type 0 where
  -- the old bytes, with the places overwritten and nothing else, are the new bytes
  pub stored : overwritten (stride k) p (bytes k t) (bytes k t') ≡ bytes k t'
  -- no byte before the first place is another, nor one after the last
  pub front : take (p.first * stride k) (bytes k t') ≡ take (p.first * stride k) (bytes k t)
  pub rest : drop ((p.first + p.count) * stride k) (bytes k t') ≡ drop ((p.first + p.count) * stride k) (bytes k t)
  -- the last place is the last that held a row
  pub ends : p.first + p.count ≡ count k (head_of t)
  -- each place holds another row number than before, and no other place does
  pub changed : (i : ℕ) → p.first ≤ i → i < p.first + p.count → number_at (stride k) i (bytes k t') ≡ number_at (stride k) i (bytes k t) → ⊥
  pub before : (i : ℕ) → i < p.first → number_at (stride k) i (bytes k t') ≡ number_at (stride k) i (bytes k t)
  pub behind : (i : ℕ) → p.first + p.count ≤ i → i < capacity k → number_at (stride k) i (bytes k t') ≡ number_at (stride k) i (bytes k t)
  -- it is 0 when the place is unused
  pub unused : (i : ℕ) → count k (head_of t') ≤ i → i < capacity k → number_at (stride k) i (bytes k t') ≡ 0 ∷ 0 ∷ []
  -- all else in the tables is the same, except for the count
  pub others : t' ≡ with_rows k t (rows k t')

-- of everything else, with the tables before and after it: a record that is refused, a record that is no DELETE of rows, and a DELETE after which as many rows are held
pub record NoRange (q : Request) (t t' : Tables) (y : Response) : Type 0 where
  pub refused : (y.answer ≡ 0 → ⊥) → y.store ≡ no_range
  pub no_delete : ((k : Table) → deletes k q.bytes ≡ false) → y.store ≡ no_range
  pub no_rows : (k : Table) → deletes k q.bytes ≡ true → count k (head_of t') ≡ count k (head_of t) → y.store ≡ no_range
