-- `decide_request`: the groups of checks are the list, and a record that passes them has the definition's permission, action and length.
use Rattle.rows.proofs.Prelude.{◌≡◌, ap, ap₂, ◌∙◌, Bool, List, ◌++◌, ℕ, length}
use Rattle.rows.specs.Rows.{Row}
use Rattle.rules.specs.declared.Tables.{Tables}
use Rattle.rules.specs.declared.Table.TheVariants.{Aces}
use Rattle.rules.specs.declared.Action.{Action}
use Rattle.rules.specs.declared.Caller.{Caller}
use Rattle.rules.specs.declared.Check.{Check}
use Rattle.rules.specs.declared.Check.TheVariants.{Pass, Refuse}
use Rattle.rules.specs.declared.Decision.{Decision}
use Rattle.rules.specs.Tables.{rows, head_of, tables_of}
use Rattle.rules.specs.Permission.{permission_of}
use Rattle.rules.specs.Action.{action_of}
use Rattle.rules.specs.Reading.{reply_to, too_short}
use Rattle.rules.specs.Checks.{refuse_if, verdict}
use Rattle.rules.specs.Promises.Groups.{request_checks, state_checks, row_checks, capacity_checks}
use Rattle.rules.specs.Promises.Callers.{caller_row}
use Rattle.rules.specs.Promises.Decision.{nothing_permitted, decided_by}
use Rattle.rules.proofs.CheckLaws.{stop_all, skip_all, last}
use Rattle.decision.proofs.Laws.{turned, let_through}
use Rattle.decision.proofs.decide_request.Goals as goal

module _ (clock : ℕ) (t : Tables) (k : Caller) (b : List ℕ) (room : ℕ) where
  abbrev row : Row
  row = caller_row t k

  abbrev allowed : ℕ
  allowed = permission_of clock (head_of t) (rows Aces t) row k.header

  abbrev asked : Action
  asked = action_of k.header b

  abbrev size : ℕ
  size = length (reply_to clock t row k.header)

  abbrev requests : List (ℕ × Bool)
  requests = request_checks allowed k.header asked

  abbrev states : List (ℕ × Bool)
  states = state_checks (head_of t) asked

  abbrev of_rows : List (ℕ × Bool)
  of_rows = row_checks clock t row b asked

  abbrev capacity : List (ℕ × Bool)
  capacity = capacity_checks room size

  -- a check that refuses says what all say
  refused : (c : Check) (n : ℕ) (d : Decision) → c ≡ verdict ((requests ++ (states ++ of_rows)) ++ capacity) → c ≡ Refuse n → d ≡ nothing_permitted k c
      → d ≡ decided_by clock t k b room
  unfolding decided_by
  refused c n d e r f = turned _ _ _ _ _ _ _ _ e r f

  -- what was found before the checks, and what the checks of the request say of it
  module _ (w : Row) (p : ℕ) (a : Action) (c : Check) (row_is : w ≡ row) (found : p ≡ permission_of clock (head_of t) (rows Aces t) w k.header) (asks : a ≡ asked)
      (requested : c ≡ verdict (request_checks p k.header a)) where
    allowed_is : p ≡ allowed
    allowed_is = found ∙ ap (λ (r : Row). permission_of clock (head_of t) (rows Aces t) r k.header) row_is

    first : c ≡ verdict requests
    first = requested ∙ ap₂ (λ (m : ℕ) (x : Action). verdict (request_checks m k.header x)) allowed_is asks

    refused_first : (n : ℕ) (d : Decision) → c ≡ Refuse n → d ≡ nothing_permitted k c → d ≡ decided_by clock t k b room
    refused_first n d r = refused c n d (stop_all (requests ++ (states ++ of_rows)) capacity n (stop_all requests (states ++ of_rows) n first r) r) r

    -- past the request, and past the state
    module _ (pass : c ≡ Pass) (c' : Check) (stated : c' ≡ verdict (state_checks (head_of t) a)) where
      second : c' ≡ verdict states
      second = stated ∙ ap (λ (x : Action). verdict (state_checks (head_of t) x)) asks

      past : {out : Check} → out ≡ verdict (states ++ of_rows) → out ≡ verdict (requests ++ (states ++ of_rows))
      past h = skip_all requests (states ++ of_rows) first pass h

      refused_second : (n : ℕ) (d : Decision) → c' ≡ Refuse n → d ≡ nothing_permitted k c' → d ≡ decided_by clock t k b room
      refused_second n d r = refused c' n d (stop_all (requests ++ (states ++ of_rows)) capacity n (past (stop_all states of_rows n second r)) r) r

      module _ (pass' : c' ≡ Pass) (c'' : Check) (rowed : c'' ≡ verdict (row_checks clock t w b a)) where
        -- all but 15
        third : c'' ≡ verdict (requests ++ (states ++ of_rows))
        third = past (skip_all states of_rows second pass' (rowed ∙ ap₂ (λ (r : Row) (x : Action). verdict (row_checks clock t r b x)) row_is asks))

        refused_third : (n : ℕ) (d : Decision) → c'' ≡ Refuse n → d ≡ nothing_permitted k c'' → d ≡ decided_by clock t k b room
        refused_third n d r = refused c'' n d (stop_all (requests ++ (states ++ of_rows)) capacity n third r) r

        module _ (pass'' : c'' ≡ Pass) (long : ℕ) (c''' : Check) (long_is : long ≡ size) (fits : c''' ≡ refuse_if 15 (too_short room long)) where
          whole : c''' ≡ verdict ((requests ++ (states ++ of_rows)) ++ capacity)
          whole = skip_all (requests ++ (states ++ of_rows)) capacity third pass'' (last 15 (too_short room size) (rw (← long_is) fits))

          refused_fourth : (n : ℕ) (d : Decision) → c''' ≡ Refuse n → d ≡ nothing_permitted k c''' → d ≡ decided_by clock t k b room
          refused_fourth n d r = refused c''' n d whole r

          passed_all : c''' ≡ Pass → record { check = c'''; caller = k; permission = p; action = a; reply = long } ≡ decided_by clock t k b room
          unfolding decided_by
          passed_all e = let_through _ _ _ _ _ _ _ _ _ e whole allowed_is asks long_is

pub returns-in_default : goal.returns-in_default
returns-in_default c =
    let a = c.args in
    refused_first a.clock (tables_of a.tables.head a.tables.creds.now a.tables.aces.now) a.caller a.b.now a.capacity _ _ _ _ c.row_of-cred.ensures c.effective-permission.ensures
    c.action_of-a.ensures c.check_request-c.ensures _ _ c.in_default.is c.turned_away.ensures

pub returns-in_default-c : goal.returns-in_default-c
returns-in_default-c c =
    let a = c.args in
    refused_second a.clock (tables_of a.tables.head a.tables.creds.now a.tables.aces.now) a.caller a.b.now a.capacity _ _ _ _ c.row_of-cred.ensures c.effective-permission.ensures
    c.action_of-a.ensures c.check_request-c.ensures c.in-Pass.is _ c.check_states-c.ensures _ _ c.in_default-c.is c.turned_away-in_default-c.ensures

pub returns-in_default-c-2 : goal.returns-in_default-c-2
returns-in_default-c-2 c =
    let a = c.args in
    refused_third a.clock (tables_of a.tables.head a.tables.creds.now a.tables.aces.now) a.caller a.b.now a.capacity _ _ _ _ c.row_of-cred.ensures c.effective-permission.ensures
    c.action_of-a.ensures c.check_request-c.ensures c.in-Pass.is _ c.check_states-c.ensures c.in-Pass-c.is _ c.check_rows-c.ensures _ _ c.in_default-c-2.is
    c.turned_away-in_default-c-2.ensures

pub returns-in_default-c-3 : goal.returns-in_default-c-3
returns-in_default-c-3 c =
    let a = c.args in
    refused_fourth a.clock (tables_of a.tables.head a.tables.creds.now a.tables.aces.now) a.caller a.b.now a.capacity _ _ _ _ c.row_of-cred.ensures c.effective-permission.ensures
    c.action_of-a.ensures c.check_request-c.ensures c.in-Pass.is _ c.check_states-c.ensures c.in-Pass-c.is _ c.check_rows-c.ensures c.in-Pass-c-2.is _ _
    c.reply_length-length.ensures c.check_capacity-c.ensures _ _ c.in_default-c-3.is c.turned_away-in_default-c-3.ensures

pub returns : goal.returns
returns c =
    let a = c.args in
    passed_all a.clock (tables_of a.tables.head a.tables.creds.now a.tables.aces.now) a.caller a.b.now a.capacity _ _ _ _ c.row_of-cred.ensures c.effective-permission.ensures
    c.action_of-a.ensures c.check_request-c.ensures c.in-Pass.is _ c.check_states-c.ensures c.in-Pass-c.is _ c.check_rows-c.ensures c.in-Pass-c-2.is _ _
    c.reply_length-length.ensures c.check_capacity-c.ensures c.in-Pass-c-3.is
