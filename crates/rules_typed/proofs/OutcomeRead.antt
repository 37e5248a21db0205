-- Theorem: of sound tables and any record of bytes, the outcome over bytes represents the typed outcome of what is read:
-- the response is the typed one, written, byte for byte, and the tables afterwards are read as the typed ones.
use Rattle.rows.proofs.Prelude.{◌≡◌, refl, sym, ap, ◌∙◌, true, List, ℕ, ones}
use Rattle.rules.specs.Outcome.{Outcome as ByteOutcome, outcome as outcomeBytes, outcome_of, outcome_at}
use Rattle.rules_typed.specs.Types.{Outcome, Tables, Record, Request, Refused, Resource, Security, Application}
use Rattle.rules_typed.specs.Writing.{written, written_links}
use Rattle.rules_typed.specs.Lists.{just, none, Maybe, list_of}
use Rattle.rules_typed.specs.Reading.{tables_of, read_record}
use Rattle.rules.specs.Defaults.{Defaults, fresh}
use Rattle.rules.specs.declared.Tables.{Tables as ByteTables}
use Rattle.rules.specs.declared.Header.{Header}
use Rattle.rules_typed.specs.Struct.{Given}
use Rattle.rules.specs.Record.{Request as ByteRequest, passed_on, header_of, body}
use Rattle.rules_typed.specs.Tables.{is_bytes}
use Rattle.rules.specs.Permission.{permission}
use Rattle.rules.specs.declared.Check.{Check}
use Rattle.rules.specs.declared.Check.TheVariants.{Pass, Refuse}
use Rattle.rules_typed.specs.Checks.{verdict, checks, request_checks}
use Rattle.rules.specs.Checks.{verdict as verdictBytes, checks as checksBytes}
use Rattle.rules_typed.proofs.Verdicts.{verdict_of, verdict_back}
use Rattle.rules_typed.specs.Outcome.{refused, outcome_in, outcome, payload_of, outcome_by}
use Rattle.rules.specs.Links.{set_of, links_of as linksOfBytes}
use Rattle.rules_typed.proofs.LinksRead.{form, two_parts, decided_read, links_read}
use Rattle.rules.proofs.CheckLaws.{stop_all, skip_all, check_cases}
use Rattle.rules_typed.proofs.ChecksRead.{from_seven, asked, header_as, permission_read, reply_read}
use Rattle.rules_typed.proofs.HeaderRead.{typed_form, form_read, IsRequest, is_request}
use Rattle.rules_typed.specs.Bodies.{request_of}
use Rattle.rules_typed.proofs.Removals.{removed}
use Rattle.rules_typed.proofs.PlacesRead.{places_read}
use Rattle.rules_typed.proofs.ByteLaws.{bytes_drop}
use Rattle.rules.specs.Action.{action}
use Rattle.rules.specs.Reading.{reply_of}
use Rattle.rules.specs.StoreRange.{store_range_of}
use Rattle.rules_typed.proofs.EffectRead.{effect_read}
use Rattle.rules.proofs.SoundKept.{passed_all}

pub record Represents (o : ByteOutcome) (x : Outcome) : Type 0 where
  pub response : o.response ≡ written x.response
  pub tables : just (tables_of o.tables) ≡ x.tables

module _ (d : Defaults) (t : ByteTables) (g : Given t) (q : ByteRequest) (h : is_bytes q.bytes ≡ true) where
  abbrev r : List ℕ
  r = q.bytes

  abbrev p : ℕ
  p = permission q.clock t r

  abbrev T : Tables
  T = tables_of t

  abbrev fresh' : Tables
  fresh' = tables_of (fresh d)

  abbrev x : Record
  x = read_record q

  -- the answer of both, by the checks over bytes
  abbrev Same : Check → Type 0
  Same c = verdict (checks (just T) x) ≡ verdict_of c

  refused_read : (n : ℕ) → Represents (outcome_of d t p q (Refuse n)) (refused n (just T))
  unfolding written_links set_of ones
  refused_read n = record { response = refl; tables = refl }

  refused_in : (n : ℕ) (m : Maybe Request) → outcome_in fresh' (just T) m (Refused n) ≡ refused n (just T)
  refused_in n none = refl
  refused_in n (just a) = refl

  -- 2 to 6 refuse
  at_form : (n : ℕ) → verdictBytes (form r) ≡ Refuse n → Represents (outcomeBytes d t q) (outcome fresh' (just T) x)
  unfolding outcomeBytes outcome_at outcome verdictBytes
  at_form n e =
      let v : verdictBytes (checksBytes t p q) ≡ Refuse n = two_parts t g p q ∙ sym (stop_all (form r) (from_seven t p q) n refl e) ∙ e in
      let f : verdictBytes (typed_form x) ≡ Refuse n = ap verdictBytes (sym (form_read q)) ∙ e in
      let u : Same (Refuse n) =
      verdict_back (checks (just T) x) ∙ ap verdict_of (sym (stop_all (typed_form x) (list_of (request_of x) (λ a. request_checks T a)) n refl f) ∙ f) in
      rw (v, u) (rw (refused_in n (request_of x)) (refused_read n))

  module _ (e : verdictBytes (form r) ≡ Pass) where
    k : IsRequest q
    k = is_request q h e

    abbrev a : Request
    a = asked q k.verb k.resource

    same_verdict : Same (verdictBytes (checksBytes t p q))
    unfolding verdictBytes
    same_verdict =
        let f : verdictBytes (typed_form x) ≡ Pass = ap verdictBytes (sym (form_read q)) ∙ e in
        let all = sym (skip_all (typed_form x) (list_of (request_of x) (λ a. request_checks T a)) refl f refl) in
        verdict_back (checks (just T) x)
        ∙ ap verdict_of (all ∙ ap (λ (m : Maybe Request). verdictBytes (list_of m (λ a. request_checks T a))) k.read
        ∙ sym (decided_read t g q k.verb k.resource k.names h e))

    payload_read : passed_on (header_of r) (body r) ≡ payload_of k.resource (body r)
    unfolding passed_on
    payload_read = ap (λ (y : Header). passed_on y (body r)) k.names ∙ by k.resource
      where
        by : (z : Resource) → passed_on (header_as r k.verb z) (body r) ≡ payload_of z (body r)
        by (Security s) = refl
        by (Application s) = refl

    by_verdict : (c : Check) → verdictBytes (checksBytes t p q) ≡ c → Represents (outcome_of d t p q c) (outcome_by fresh' T a (verdict_of c))
    by_verdict Pass f =
        let n = removed (body r) (header_of r) in
        let v = k.verb in
        let z = k.resource in
        record {
          response =
              rw (
                permission_read t g q v z k.names,
                reply_read t g q v z k.names,
                places_read t g (body r) (bytes_drop 4 r h) (action r) n,
                links_read
                    t g q v z k.names e,
              )
              (ap (λ (y : List ℕ). record {
                answer = 0;
                permission = p;
                payload = y;
                contents = reply_of q.clock t r;
                store = store_range_of t (body r)
                    (action r);
                links = linksOfBytes q.clock t r;
              }) payload_read);
          tables = ap just (effect_read t g d q h (action r) (passed_all t p q f) n);
        }
    by_verdict (Refuse n) f = refused_read n

    at_request : Represents (outcomeBytes d t q) (outcome fresh' (just T) x)
    unfolding outcomeBytes outcome_at outcome
    at_request = rw (same_verdict, k.read) (by_verdict (verdictBytes (checksBytes t p q)) refl)

  pub outcome_typed : Represents (outcomeBytes d t q) (outcome fresh' (just T) x)
  outcome_typed = check_cases (verdictBytes (form r)) at_request at_form
