-- `link_bit`: by the two groups of checks, of the link's own header.
use Rattle.rows.proofs.Prelude.{◌≡◌, ap, ◌∙◌, Bool, List, ℕ, arith}
use Rattle.rules.specs.declared.Head.{Head}
use Rattle.rules.specs.declared.Header.{Header}
use Rattle.rules.specs.declared.Check.{Check}
use Rattle.rules.specs.declared.Action.TheVariants.{Serve}
use Rattle.rules.specs.Checks.{verdict}
use Rattle.rules.specs.Promises.Groups.{request_checks, state_checks}
use Rattle.rules.proofs.CheckLaws.{stop_all, skip_all}
use Rattle.decision_links.specs.Linked.{link_header, link_passes}
use Rattle.decision_links.proofs.link_bit.Goals as goal

module _ (h : Head) (permission : ℕ) (header : Header) (n : ℕ) where
  abbrev requests : List (ℕ × Bool)
  requests = request_checks permission (link_header header n) Serve

  abbrev states : List (ℕ × Bool)
  states = state_checks h Serve

  -- what the first group says, of the header that the link has
  first : (g : Header) {c : Check} → c ≡ verdict (request_checks permission g Serve) → g ≡ link_header header n → c ≡ verdict requests
  first g e is = e ∙ ap (λ (x : Header). verdict (request_checks permission x Serve)) is

pub returns-in_default : goal.returns-in_default
unfolding link_passes
returns-in_default c =
    let a = c.args in
    let no = c.in_default.is in
    let told = first a.h a.permission a.header a.n _ c.check_request-c.ensures c.link_header.ensures in
    (rw (← stop_all (requests a.h a.permission a.header a.n) (states a.h a.permission a.header a.n) _ told no, no), omega arith)

pub returns-in_default-c : goal.returns-in_default-c
unfolding link_passes
returns-in_default-c c =
    let a = c.args in
    let told = first a.h a.permission a.header a.n _ c.check_request-c.ensures c.link_header.ensures in
    let whole = skip_all (requests a.h a.permission a.header a.n) (states a.h a.permission a.header a.n) told c.in-Pass.is c.check_states-c.ensures in
    (rw (← whole, c.in_default-c.is), omega arith)

pub returns : goal.returns
unfolding link_passes
returns c =
    let a = c.args in
    let told = first a.h a.permission a.header a.n _ c.check_request-c.ensures c.link_header.ensures in
    let whole = skip_all (requests a.h a.permission a.header a.n) (states a.h a.permission a.header a.n) told c.in-Pass.is c.check_states-c.ensures in
    (rw (← whole, c.in-Pass-c.is), omega arith)
