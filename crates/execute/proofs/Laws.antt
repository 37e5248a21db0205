-- What a decision that passes says of the record: it passed every check, so the outcome is its effect.
use Rattle.rows.proofs.Prelude.{◌≡◌, refl, sym, ap, ap₂, ◌∙◌, Bool, true, false, not, ◌&&◌, cond, and-false, List, [], ◌∷◌, ◌++◌, ℕ, ◌≤◌, length, eqb, ltb-false}
use Rattle.rows.specs.Rows.{Row}
use Rattle.text.specs.Buffer.{Puts}
use Rattle.text.proofs.Buffers.{written_start}
use Rattle.rules.specs.declared.Tables.{Tables}
use Rattle.rules.specs.declared.Check.{Check}
use Rattle.rules.specs.declared.Check.TheVariants.{Pass}
use Rattle.rules.specs.declared.Decision.{Decision}
use Rattle.rules.specs.declared.Caller.{Caller}
use Rattle.rules.specs.declared.StoreRange.{StoreRange}
use Rattle.rules.specs.declared.Links.{Links}
use Rattle.rules.specs.declared.Head.{Head}
use Rattle.rules.specs.declared.Judgement.{Judgement}
use Rattle.rules.specs.Record.{Request, header_of, body, payload_of, sender, retrieve}
use Rattle.rules.specs.Tables.{rows, head_of, tables_of, sound}
use Rattle.rules.specs.Defaults.{Defaults}
use Rattle.rules.specs.Permission.{permission, sender_row}
use Rattle.rules.specs.declared.Action.TheVariants.{Serve}
use Rattle.rules.specs.Action.{action, action_of, security_action}
use Rattle.rules.specs.StoreRange.{store_range_of}
use Rattle.rules.specs.Links.{links_of}
use Rattle.rules.specs.Reading.{contents, reads, reply_to, reply_of, too_short, filled}
use Rattle.rules.specs.Checks.{verdict, checks}
use Rattle.rules.specs.Promises.Groups.{sender_checks, form_checks, request_checks, state_checks, row_checks, action_checks, capacity_checks}
use Rattle.rules.specs.Promises.Callers.{caller_of, caller_row}
use Rattle.rules.specs.Promises.Decision.{later_checks, decision_checks, decision_by, decided}
use Rattle.rules.specs.Outcome.{Outcome, outcome_of, outcome_at, outcome, response_to, effect_by}
use Rattle.rules.specs.Promises.Results.{result_of, result_with}
use Rattle.rules.proofs.CheckLaws.{skip_at, rest_passes}
use Rattle.rules.proofs.Answers.{passed}
use Rattle.rules.proofs.CallerLaws.{caller_row_lem}
use Rattle.decision.proofs.Laws.{check_decided}
use Rattle.decision_links.specs.Linked.{permitted_links}
use Rattle.decision_links.proofs.OwnForm.{links_are}
use Rattle.rules.specs.declared.Table.TheVariants.{Creds}
use Rattle.execute.specs.Executed.{payload_by, permitted_by}

-- ---- a group of checks that passes

front_passes : (xs ys : List (ℕ × Bool)) → verdict (xs ++ ys) ≡ Pass → verdict xs ≡ Pass
unfolding verdict
front_passes [] ys e = refl
front_passes ((n, true) ∷ xs) ys e = e
front_passes ((n, false) ∷ xs) ys e = front_passes xs ys e

-- ---- a decision that passes

module _ (t : Tables) (q : Request) (g : Decision) (is : g ≡ decided t q) (pass : g.check ≡ Pass) where
  all_pass : verdict (decision_checks t q) ≡ Pass
  all_pass = sym (ap (λ (x : Decision). x.check) is ∙ check_decided t q) ∙ pass

  decided_is : g ≡ decision_by (caller_of (rows Creds t) q.bytes) (permission q.clock t q.bytes) (action q.bytes) (length (reply_of q.clock t q.bytes)) Pass
  unfolding decided
  decided_is = is ∙ ap (decision_by _ _ _ _) all_pass

  pub caller_is : g.caller ≡ caller_of (rows Creds t) q.bytes
  caller_is = ap (λ (x : Decision). x.caller) decided_is

  pub row_is : caller_row t g.caller ≡ sender_row t (sender q.bytes)
  row_is = ap (caller_row t) caller_is ∙ caller_row_lem t q.bytes

  -- the reply, the links and the payload by the caller that was found
  pub reply_as : reply_to q.clock t (caller_row t g.caller) g.caller.header ≡ reply_of q.clock t q.bytes
  reply_as = ap₂ (λ (w : Row) (k : Caller). reply_to q.clock t w k.header) row_is caller_is

  pub payload_as : payload_by g.check g.caller.header q.bytes ≡ payload_of q.bytes
  payload_as = ap₂ (λ (c : Check) (k : Caller). payload_by c k.header q.bytes) pass caller_is

  pub action_is : g.action ≡ action q.bytes
  action_is = ap (λ (x : Decision). x.action) decided_is

  -- a record for an application resource is served, and has no reply
  module _ (e : g.caller.header.resource.configuration ≡ false) where
    plain : (header_of q.bytes).resource.configuration ≡ false
    plain = sym (ap (λ (k : Caller). k.header.resource.configuration) caller_is) ∙ e

    pub serves : g.action ≡ Serve
    unfolding action_of
    serves = let h = header_of q.bytes in
        action_is ∙ ap (λ (b : Bool). cond b (security_action h.verb h.connection h.resource.number (body q.bytes)) Serve) plain

    pub no_reply : reply_of q.clock t q.bytes ≡ []
    unfolding reply_to reads
    no_reply = let h = header_of q.bytes in
        ap (λ (b : Bool). cond (eqb h.verb retrieve && b) (contents q.clock t (sender_row t (sender q.bytes)) h.resource.number) []) plain
        ∙ rw and-false

  pub length_is : g.reply ≡ length (reply_of q.clock t q.bytes)
  length_is = ap (λ (x : Decision). x.reply) decided_is

  abbrev own : Row
  own = sender_row t (sender q.bytes)

  abbrev behind : List (ℕ × Bool)
  behind = later_checks q.clock t own (header_of q.bytes) (body q.bytes) q.capacity

  request_passes : verdict behind ≡ Pass
  request_passes = rest_passes (sender_checks (rows Creds t) q.bytes) behind all_pass

  abbrev first_checks : List (ℕ × Bool)
  first_checks =
      action_checks q.clock t own (permission q.clock t q.bytes) (header_of q.bytes) (body q.bytes) (action q.bytes)

  abbrev capacity_checks_lem : List (ℕ × Bool)
  capacity_checks_lem = capacity_checks q.capacity (length (reply_of q.clock t q.bytes))

  -- the checks of the state and of the rows
  pub rows_pass : verdict (state_checks (head_of t) g.action ++ row_checks q.clock t own (body q.bytes) g.action) ≡ Pass
  rows_pass =
      rw action_is
      (rest_passes (request_checks (permission q.clock t q.bytes) (header_of q.bytes) (action q.bytes))
      _ (front_passes first_checks capacity_checks_lem request_passes))

  -- the reply fits
  pub reply_fits : length (reply_of q.clock t q.bytes) ≤ q.capacity
  unfolding too_short
  reply_fits = ltb-false _ _ (passed capacity_checks_lem (rest_passes first_checks capacity_checks_lem request_passes) 15)

  -- with sound tables: nothing is refused before
  module _ (h : sound t ≡ true) where
    pub form_passes : verdict (form_checks t q.bytes) ≡ Pass
    form_passes = sym (skip_at 1 _ _ (ap not h) (sym (front_passes (sender_checks (rows Creds t) q.bytes) behind all_pass)))

    whole : Pass ≡ verdict (checks t (permission q.clock t q.bytes) q)
    whole = skip_at 1 (not (sound t)) (decision_checks t q) (ap not h) (sym all_pass)

    pub links_as : permitted_links q.clock t g.caller ≡ links_of q.clock t q.bytes
    links_as = ap (permitted_links q.clock t) caller_is ∙ links_are t q.bytes form_passes q.clock

    -- what is reported, with the tables afterwards, and the buffer
    pub says : (d : Defaults) (n : ℕ) (p : StoreRange) (k : Links) (next : Tables) → n ≡ length (payload_of q.bytes) → p ≡ store_range_of t (body q.bytes) g.action → k ≡ links_of q.clock t q.bytes
        → next ≡ effect_by d t q g.action
        → record { answer = 0; permission = g.permission; payload = n; reply = g.reply; store = p; links = k; tables = next } ≡ result_of (outcome d t q)
    unfolding outcome outcome_at
    says d n p k next o e f i = rw (← whole, o, e, f, i, decided_is)

    -- by the judgement that the sender gets
    pub gives : (d : Defaults) (p : StoreRange) (k : Links) (head : Head) (cs es : List ℕ) (j : Judgement) → j ≡ permitted_by g q.bytes p k head
        → p ≡ store_range_of t (body q.bytes) g.action → k ≡ links_of q.clock t q.bytes → tables_of head cs es ≡ effect_by d t q g.action
        → result_with j cs es ≡ result_of (outcome d t q)
    gives d p k head cs es j e f i n =
        ap (λ (x : Judgement). result_with x cs es) e ∙ says d _ p k (tables_of head cs es) (ap length payload_as) f i n

    pub passes : (d : Defaults) → outcome_of d t (permission q.clock t q.bytes) q Pass ≡ outcome d t q
    unfolding outcome outcome_at
    passes d = ap (outcome_of d t (permission q.clock t q.bytes) q) whole

    pub fills : (d : Defaults) (b b' : List ℕ) (n : ℕ) {reply : List ℕ} → length b ≡ q.capacity → reply ≡ reply_of q.clock t q.bytes → Puts b 0 reply b' n
        → b' ≡ filled b (response_to d t q).contents
    unfolding filled
    fills d b b' n l e p =
        p.buffer ∙ written_start b _ (rw (l, e) reply_fits) ∙ ap (filled b) e ∙ ap (λ (o : Outcome). filled b o.response.contents) (passes d)
