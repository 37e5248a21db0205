-- `entry_answer`: an owner settles it, then the first access row that lets the sender alter, of as many as there is room for.
use Rattle.rows.proofs.Prelude.{◌≡◌, sym, ap, ◌∙◌, arith, ℕ}
use Rattle.std.specs.Prelude.{Option}
use Rattle.rows.specs.Rows.{Row}
use Rattle.rows.specs.Promises.{index_of, row_at}
use Rattle.rows.proofs.Laws.{index_row}
use Rattle.rules.specs.declared.Table.TheVariants.{Aces, Creds}
use Rattle.rules.specs.declared.Tables.{Tables}
use Rattle.rules.specs.declared.Sender.{Sender}
use Rattle.rules.specs.Directory.{some_security}
use Rattle.rules.specs.Tables.{head_of, rows, rows_in}
use Rattle.rules.specs.Permission.{sender_row, connection_of, is_owner}
use Rattle.rules.specs.Isolation.{names_owner}
use Rattle.rules.specs.Promises.Callers.{index_for}
use Rattle.rules.specs.Promises.Words.{seen}
use Rattle.rules.proofs.CallerLaws.{row_for}
use Rattle.rules_isolation.specs.Question.{lets_alter}
use Rattle.isolation.proofs.EntryLaws.{names_answer, none_answer, alters_answer}
use Rattle.isolation.proofs.entry_answer.Goals as goal

-- what the calls answer of the sender's row is what the definitions say of the sender
module _ (t : Tables) (s : Sender) (w : Row) (at : Option ℕ) (e : at ≡ index_for (rows Creds t) s) (is : w ≡ row_at at (rows Creds t)) where
  own : w ≡ sender_row t s
  own = is ∙ rw e (row_for (rows Creds t) s)

  owns : some_security (is_owner (head_of t) w) ≡ names_owner t s
  unfolding names_owner
  owns = ap (λ (x : Row). some_security (is_owner (head_of t) x)) own

  altering : index_of (lets_alter w (connection_of s)) (rows Aces t) ≡ index_of (lets_alter (sender_row t s) (connection_of s)) (rows Aces t)
  altering = ap (λ (x : Row). index_of (lets_alter x (connection_of s)) (rows Aces t)) own

pub returns-then-names_owner : goal.returns-then-names_owner
returns-then-names_owner c =
    names_answer _ _ _
    (sym (owns (seen c.args.tables) c.args.who _ _ c.index_for.ensures c.row_of-cred.ensures) ∙ sym c.names_owner.ensures ∙ c.if-names_owner.true)

pub overflow_add-result : goal.overflow_add-result
unfolding rows_in
overflow_add-result c =
    let told = rw c.ace_rows.ensures at c.altering_row.ensures in
    omega (arith, (index_row _ _ _ _ _ (sym told ∙ c.in-Some.is)).0)

pub returns-in-None : goal.returns-in-None
returns-in-None c =
    let t = seen c.args.tables in
    let told = rw (c.connection_of.ensures, c.ace_rows.ensures) at c.altering_row.ensures in
    none_answer _ _ _
    (sym (owns t c.args.who _ _ c.index_for.ensures c.row_of-cred.ensures) ∙ sym c.names_owner.ensures ∙ c.if-names_owner.false)
    (sym (altering t c.args.who _ _ c.index_for.ensures c.row_of-cred.ensures) ∙ sym told ∙ c.in-None.is)

pub returns-in-Some : goal.returns-in-Some
returns-in-Some c =
    let t = seen c.args.tables in
    let told = rw (c.connection_of.ensures, c.ace_rows.ensures) at c.altering_row.ensures in
    alters_answer _ _ _
    (sym (owns t c.args.who _ _ c.index_for.ensures c.row_of-cred.ensures) ∙ sym c.names_owner.ensures ∙ c.if-names_owner.false) _
    (sym (altering t c.args.who _ _ c.index_for.ensures c.row_of-cred.ensures) ∙ sym told ∙ c.in-Some.is)
