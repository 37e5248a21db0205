-- Theorems, U3: a permitted DELETE of cred with 16 bytes leaves exactly the rows without that subject, in their order, and all else as it was.
-- 13 where no row has it. For a record at any clock, with any buffer and any default lists, and for every subject.
use Rattle.rows.proofs.Prelude.{◌≡◌, refl, sym, ap, ◌∙◌, Bool, true, false, cond, List, ◌++◌, ℕ, length, take, drop, bool_cases, contradiction}
use Rattle.rows.specs.Rows.{Row, same, some, without, has_key}
use Rattle.rows.proofs.Kept.{same_true, same_refl}
use Rattle.rows.proofs.Without.{without_order, without_gone, without_left}
use Rattle.rules.specs.declared.Tables.{Tables}
use Rattle.rules.specs.declared.Table.TheVariants.{Creds}
use Rattle.rules.specs.declared.Action.TheVariants.{Remove}
use Rattle.rules.specs.declared.Key.TheVariants.{Subject}
use Rattle.rules.specs.declared.Check.TheVariants.{Pass}
use Rattle.rules.specs.Record.{sender, header_of, Request, body}
use Rattle.rules.specs.Bodies.{is_nil, cred_subject}
use Rattle.rules.specs.Promises.Theorems.{has_subject}
use Rattle.rules.specs.Tables.{rows, with_rows}
use Rattle.rules.specs.Defaults.{Defaults}
use Rattle.rules.specs.Permission.{sender_row, permission}
use Rattle.rules.specs.Action.{if_allowed, delete_creds, action}
use Rattle.rules.specs.Reading.{reply_of, reads}
use Rattle.rules.specs.Promises.Theorems.{deletes}
use Rattle.rules.specs.Checks.{verdict, number_of, is_malformed}
use Rattle.rules.specs.Promises.Groups.{row_checks, capacity_checks}
use Rattle.rules.specs.Outcome.{response_to, tables_after}
use Rattle.rules.specs.Verdicts.{none_applies, earlier}
use Rattle.rules.specs.Deleted.{SubjectGone}
use Rattle.rules.proofs.Answers.{passed, no_reply_fits}
use Rattle.rules.proofs.CheckLaws.{skip_all}
use Rattle.rules.proofs.TableLaws.{rows_with}
use Rattle.rules.proofs.SoundKept.{removed_sound}
use Rattle.rules.proofs.Refusals.{none_permitted, answer_is}
use Rattle.rules.proofs.Deletes.{deleted, delete_verb, delete_is}

-- ---- the key of 16 bytes at 2 is the subject

key_subject : (s : List ℕ) → length s ≡ 16 → has_key 2 s ≡ has_subject s
unfolding has_key
key_subject s l = let f : ℕ → Row → Bool = λ n w. same (take n (drop 2 w)) s in ap f l

by_subject : (b : List ℕ) → length b ≡ 16 → is_malformed (delete_creds b) ≡ false → delete_creds b ≡ Remove Creds Subject
unfolding delete_creds if_allowed
by_subject b l m = bool_cases (is_nil b) (λ e. contradiction refl (rw (l, e) at m)) (λ e. rw (l, e))

other_subject : (s : List ℕ) (w : Row) → (cred_subject w ≡ s → ⊥) → has_subject s w ≡ false
other_subject s w other = bool_cases (has_subject s w) (λ e. absurd (other (same_true (cred_subject w) s e))) (λ e. e)

has_own : (s : List ℕ) (w : Row) → cred_subject w ≡ s → has_subject s w ≡ true
has_own s w e = rw e (same_refl s)

-- ---- of a record

module _ (d : Defaults) (t : Tables) (q : Request) (asks : deletes Creds q.bytes ≡ true) (long : length (body q.bytes) ≡ 16) where
  pub subject_gone : (response_to d t q).answer ≡ 0 → SubjectGone (body q.bytes) t (tables_after d t q)
  subject_gone z =
      let b = body q.bytes in
      let x = deleted d t q Creds asks z in
      let is-delete = delete_is Creds q.bytes asks in
      let by : Remove Creds x.key ≡ Remove Creds Subject = sym x.is ∙ is-delete ∙ by_subject b long (ap is_malformed (sym is-delete ∙ x.is)) in
      let at : x.key ≡ Subject = cc in
      let s = removed_sound Creds t (has_subject b) x.sound in
      let ws = without (has_subject b) (rows Creds t) in
      let is : tables_after d t q ≡ with_rows Creds t ws = x.tables ∙ rw (at, key_subject b long) in
      let are : rows Creds (tables_after d t q) ≡ ws = ap (rows Creds) is ∙ rows_with Creds t ws s.few s.stores in
      record {
        rows_left = are;
        orphaned = λ w m e. contradiction (has_own b w e) (without_gone (has_subject b) w (rows Creds t) (rw are at m));
        left = λ w m other. rw are (without_left (has_subject b) w (rows Creds t) m (other_subject b w other));
        order = rw are (without_order (has_subject b) (rows Creds t));
        others = is ∙ ap (with_rows Creds t) (sym are);
      }

  -- where the earlier checks pass: 0 where a row has the subject, and else 13
  pub subject_answer : none_applies (earlier t (permission q.clock t q.bytes) q.bytes) ≡ true
      → (response_to d t q).answer ≡ cond (some (has_subject (body q.bytes)) (rows Creds t)) 0 13
  unfolding reads verdict
  subject_answer h =
      let r = q.bytes in
      let b = body r in
      let p = permission q.clock t r in
      let some-has = some (has_subject b) (rows Creds t) in
      let e : verdict (earlier t p r) ≡ Pass = none_permitted (earlier t p r) h in
      let unread : reads (header_of r) ≡ false = rw (delete_verb Creds r asks) in
      let is-delete = delete_is Creds r asks in
      let i : action r ≡ Remove Creds Subject = is-delete ∙ by_subject b long (ap is_malformed (sym is-delete) ∙ passed (earlier t p r) e 10) in
      answer_is d t q
      ∙ ap number_of (sym (skip_all (earlier t p r) (row_checks q.clock t (sender_row t (sender r)) b (action r) ++ capacity_checks q.capacity (length (reply_of q.clock t r))) refl e refl))
      ∙ rw (i, key_subject b long, no_reply_fits t q unread) (bool_cases some-has (λ x. rw x) (λ x. rw x))
