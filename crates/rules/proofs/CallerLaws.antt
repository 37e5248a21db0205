-- What code finds once for a record is the record's own: the sender's row, and the checks 2 to 7.
use Rattle.rows.proofs.Prelude.{◌≡◌, refl, sym, ap, Bool, List, [], ◌∷◌, ◌++◌, ℕ, length}
use Rattle.rows.specs.Rows.{Row}
use Rattle.rows.specs.Promises.{index_of, row_at}
use Rattle.rows.proofs.Laws.{some_index, found_cases, first_at}
use Rattle.rules.specs.declared.Tables.{Tables}
use Rattle.rules.specs.declared.Table.TheVariants.{Creds}
use Rattle.rules.specs.declared.Sender.{Sender}
use Rattle.rules.specs.declared.Sender.TheVariants.{Unauthenticated, Partner}
use Rattle.rules.specs.Record.{header_of, sender}
use Rattle.rules.specs.Tables.{rows}
use Rattle.rules.specs.Permission.{numbered, sender_row_in, sender_row}
use Rattle.rules.specs.Checks.{no_row, no_credential}
use Rattle.rules.specs.Promises.Groups.{header_checks, sender_checks}
use Rattle.rules.specs.Promises.Callers.{index_for, caller_of, caller_row, lacks_row, caller_checks}

-- the row at the sender's place is its own
pub row_for : (ws : List Row) (s : Sender) → row_at (index_for ws s) ws ≡ sender_row_in ws s
row_for ws Unauthenticated = refl
row_for ws (Partner n) = sym (first_at (numbered n) ws)

pub caller_row_lem : (t : Tables) (r : List ℕ) → caller_row t (caller_of (rows Creds t) r) ≡ sender_row t (sender r)
caller_row_lem t r = row_for (rows Creds t) (sender r)

-- a partner has a row exactly where it has a place
no_row_lacks : (ws : List Row) (s : Sender) → lacks_row s (index_for ws s) ≡ no_row ws s
no_row_lacks ws Unauthenticated = refl
no_row_lacks ws (Partner n) =
    found_cases (index_of (numbered n) ws)
    (λ i e. rw (e, some_index 0 (numbered n) ws, e))
    (λ e. rw (e, some_index 0 (numbered n) ws, e))

pub caller_checks_lem : (ws : List Row) (r : List ℕ) → caller_checks (length r) (caller_of ws r) ≡ sender_checks ws r
unfolding no_credential
caller_checks_lem ws r = ap (λ (b : Bool). header_checks (length r) (header_of r) ++ (7, b) ∷ []) (no_row_lacks ws (sender r))
