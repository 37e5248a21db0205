-- Theorems of one C call that judges a record, at once or at a take: it is judged as the rules judge it, and so what U3, U4, U9 and U11 say
-- of a record on tables holds of the bytes that the call leaves and of the words that it says.
use Rattle.rows.proofs.Prelude.{◌≡◌, refl, sym, ap, subst, ◌∙◌, true, false, cond, List, [], ℕ, ◌≤◌, length, get_or, eqb, bit_or, contradiction}
use Rattle.rows.specs.Rows.{some}
use Rattle.rules.specs.declared.Table.{Table}
use Rattle.rules.specs.declared.Table.TheVariants.{Creds, Aces}
use Rattle.rules.specs.Directory.{roles}
use Rattle.rules.specs.Record.{Request, received, verb, resource, body, sender, header_of}
use Rattle.rules.specs.Promises.Theorems.{has_subject}
use Rattle.rules.specs.Roles.{roles_in_force, both_taken}
use Rattle.rules.specs.Tables.{table_size, bytes, rows, with_rows}
use Rattle.rules.specs.Defaults.{Defaults}
use Rattle.rules.specs.Permission.{permission, sender_row, sender_row_in, connection_of}
use Rattle.rules.specs.Promises.Theorems.{deletes}
use Rattle.rules.specs.Links.{asks_links}
use Rattle.rules.specs.Outcome.{Response, Outcome, response_to, tables_after}
use Rattle.rules.specs.Checks.{verdict}
use Rattle.rules.specs.Verdicts.{none_applies, earlier}
use Rattle.rules.specs.Deleted.{SubjectGone, Worn, NoRange}
use Rattle.rules.specs.YardSet.{YardSet, NoSet}
use Rattle.rules.specs.Asserted.{RoleAsserted}
use Rattle.rules.proofs.CheckLaws.{check_cases}
use Rattle.rules.proofs.Refusals.{permitted_outcome}
use Rattle.rules.proofs.SubjectRows.{subject_gone, subject_answer}
use Rattle.rules.proofs.Wear.{delete_worn, no_range_lem}
use Rattle.rules.proofs.YardSet.{yard_set, no_set}
use Rattle.rules.proofs.RoleRows.{role_asserted, role_answer}
use Rattle.rules_terminal.specs.Terminal.{Terminal, direct_checks, due, judged}
use Rattle.rules_terminal.specs.Inputs.{take_at, direct}
use Rattle.rules_terminal.specs.CallRun.{response_of}
use Rattle.rules_terminal.proofs.Built.{direct_number, direct_told, take_told, call_left}
use Rattle.rules_terminal.proofs.Takes.{judged_take}
use Rattle.rules_legacy.specs.OldList.{old_union}
use Rattle.rules_legacy.specs.Conversion.{rows_made}
use Rattle.rules_legacy.proofs.Held.{permission_same}
use Rattle.rules_interface.specs.Memory.{Memory, terminal_at}
use Rattle.rules_interface.specs.Calls.{CCall}
use Rattle.rules_interface.specs.CallRun.{call_of}
use Rattle.rules_interface.specs.Judged.{tables_on, answer_told, record_out, JudgesOn, at_once, at_take, told_on, OutcomeOn}
use Rattle.rules_interface.proofs.CCalls.{c_meets}

-- ---- judged as the rules judge it

-- a record judged directly that does not get 1
at_once_lem : (d : Defaults) (x : Terminal) (q : Request) → eqb (judged d x q).response.answer 1 ≡ false
    → ((judged d x q).response ≡ response_to d x.tables q) × ((judged d x q).terminal.tables ≡ tables_after d x.tables q)
unfolding judged
at_once_lem d x q n = check_cases (verdict (direct_checks x)) (λ e. rw e (refl, refl)) (λ k e. contradiction (direct_number x k e) (rw e at n))

answer_of : (y z : Response) → y ≡ z → y.answer ≡ z.answer
answer_of y z e = ap (λ (v : Response). v.answer) e

pub c_outcome : (d : Defaults) (m : Memory) (c : CCall) (q : Request) → JudgesOn d m c q → OutcomeOn d m c q
c_outcome d m c q (at_once _ p n) =
    let x = terminal_at m in
    let k = call_of (direct q) c in
    let meets = c_meets d m (direct q) c p in
    let s = direct_told d x q k meets in
    let o = at_once_lem d x q (rw (← answer_of (response_of k) _ s) n) in
    record {
      responses_same = s ∙ o.0;
      tables_same = ap (λ (y : Terminal). y.tables) (call_left d x (direct q) k meets) ∙ o.1;
    }
c_outcome d m c q (at_take clock capacity p n) =
    let x = terminal_at m in
    let i = take_at clock capacity in
    let k = call_of i c in
    let meets = c_meets d m i c p in
    let s = take_told d x clock capacity k meets in
    let o = judged_take d x clock capacity (rw (← answer_of (response_of k) _ s.1) n) in
    let same : record_out c ≡ due x = s.0 ∙ o.handed in
    record {
      responses_same = s.1 ∙ o.response ∙ ap (λ (r : List ℕ). response_to d x.tables (received clock r capacity)) (sym same);
      tables_same = rw same (ap (λ (y : Terminal). y.tables) (call_left d x i k meets) ∙ o.tables);
    }

-- ---- so of the requests

module _ (d : Defaults) (m : Memory) (c : CCall) (q : Request) (judges : JudgesOn d m c q) where
  told_is : told_on c q.bytes ≡ response_to d (tables_on m) q
  told_is = (c_outcome d m c q judges).responses_same

  after_is : tables_on c.memory ≡ tables_after d (tables_on m) q
  after_is = (c_outcome d m c q judges).tables_same

  zero_is : answer_told c ≡ 0 → (response_to d (tables_on m) q).answer ≡ 0
  zero_is z = sym (answer_of _ _ told_is) ∙ z

  -- U3: a permitted DELETE of cred with 16 bytes leaves the rows without that subject, and all else as it was
  pub c_subject_gone : deletes Creds q.bytes ≡ true → length (body q.bytes) ≡ 16 → answer_told c ≡ 0
      → SubjectGone (body q.bytes) (tables_on m) (tables_on c.memory)
  c_subject_gone asks long z = rw after_is (subject_gone d (tables_on m) q asks long (zero_is z))

  -- U3: if the checks before 13 pass, it is told 0 if a row has the subject, and else 13
  pub c_subject_answer : deletes Creds q.bytes ≡ true → length (body q.bytes) ≡ 16
      → none_applies (earlier (tables_on m) (permission q.clock (tables_on m) q.bytes) q.bytes) ≡ true
      → answer_told c ≡ cond (some (has_subject (body q.bytes)) (rows Creds (tables_on m))) 0 13
  c_subject_answer asks long none = answer_of _ _ told_is ∙ subject_answer d (tables_on m) q asks long none

  -- U4: the rows that a permitted DELETE tells C to store, and no others, differ in the bytes that it leaves
  pub c_delete_worn : (k : Table) → deletes k q.bytes ≡ true → answer_told c ≡ 0 → length (bytes k (tables_on m)) ≡ table_size k
      → Worn k (tables_on m) (tables_on c.memory) (told_on c q.bytes).store
  c_delete_worn k asks z long =
      subst (λ (y : Response). Worn k (tables_on m) (tables_on c.memory) y.store) (sym told_is)
      (rw after_is (delete_worn d (tables_on m) q k asks (zero_is z) long))

  -- U4: everything else tells C 0 and 0
  pub c_no_places : NoRange q (tables_on m) (tables_on c.memory) (told_on c q.bytes)
  c_no_places = rw (told_is, after_is) (no_range_lem d (tables_on m) q)

  -- U9: the set that a permitted RETRIEVE or UPDATE of /yard tells C
  pub c_yard_set : asks_links (header_of q.bytes) ≡ true → answer_told c ≡ 0 → YardSet (tables_on m) q (told_on c q.bytes).links
  c_yard_set asks z =
      subst (λ (y : Response). YardSet (tables_on m) q y.links) (sym told_is) (yard_set d (tables_on m) q asks (zero_is z))

  -- U9: everything else tells C the empty set
  pub c_no_set : NoSet q (told_on c q.bytes)
  c_no_set = rw told_is (no_set d (tables_on m) q)

  -- U11: a permitted UPDATE of roles changes the sender's own row alone, and of it the roles
  pub c_role_asserted : verb q.bytes ≡ 2 → resource q.bytes ≡ roles → answer_told c ≡ 0
      → RoleAsserted q.clock (body q.bytes) (sender q.bytes) (tables_on m) (tables_on c.memory)
  c_role_asserted updates on z = rw after_is (role_asserted d (tables_on m) q updates on (zero_is z))

  -- U11: if the checks before 13 pass, it is told 22 if both places hold other roles in force, and else 0
  pub c_role_answer : verb q.bytes ≡ 2 → resource q.bytes ≡ roles
      → none_applies (earlier (tables_on m) (permission q.clock (tables_on m) q.bytes) q.bytes) ≡ true
      → answer_told c ≡ cond (both_taken (body q.bytes) (roles_in_force q.clock (sender_row (tables_on m) (sender q.bytes)))) 22 0
  c_role_answer updates on none = answer_of _ _ told_is ∙ role_answer d (tables_on m) q updates on none

  -- U12: in tables whose access rows are those made of an older list, a permitted record is told the permission that the old list gave, beside
  -- what it has without access rows
  pub c_permission_same : (f : List ℕ) → rows Aces (tables_on m) ≡ rows_made f → q.clock ≤ 4294967295 → answer_told c ≡ 0
      → get_or c.words 1 0
      ≡ bit_or (old_union (sender_row_in (rows Creds (tables_on m)) (sender q.bytes)) (connection_of (sender q.bytes)) (resource q.bytes) f)
      (permission q.clock (with_rows Aces (tables_on m) []) q.bytes)
  c_permission_same f holds h z =
      ap (λ (y : Response). y.permission) told_is
      ∙ ap (λ (o : Outcome). o.response.permission) (permitted_outcome d (tables_on m) q (zero_is z))
      ∙ permission_same f (tables_on m) holds q.clock h q.bytes
