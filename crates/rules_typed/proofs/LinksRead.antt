-- The links of /yard, read: a link's own record over bytes is the typed request for it.
use Rattle.rows.proofs.Prelude.{◌≡◌, refl, sym, ap, ◌∙◌, Bool, true, not, ◌&&◌, ◌||◌, and-false, and-true, List, [], ◌∷◌, ◌++◌, ℕ, ◌+◌, ◌*◌, ◌/◌, ◌%◌, ◌≤◌, ◌<◌}
use Rattle.rows.proofs.Prelude.{arith, length, eqb, lt-ltb, bool_cases, ones, ap₂, map}
use native.Mathlib.Nat.{zero-add}
use Rattle.rules.specs.declared.Tables.{Tables as ByteTables}
use Rattle.rules.specs.declared.Check.TheVariants.{Pass}
use Rattle.rules.specs.Bits.{be16}
use Rattle.rules.specs.Record.{Request as ByteRequest, received, header_of, sender, verb, connection, credential, resource, header_zeros, body}
use Rattle.rules.specs.Directory.{yard, resource_of as byteResource, known as knownNumber}
use Rattle.rules.specs.Permission.{permission}
use Rattle.rules.specs.Action.{action_of, action}
use Rattle.rules.specs.Checks.{verdict, is_pass, bad_length, no_verb, zero_bit_set, mismatch, unknown_resource, checks as checksBytes}
use Rattle.rules.specs.Promises.Groups.{header_checks}
use Rattle.rules.specs.Links.{own_record, permits, set_of, asks_links as asksLinksBytes, link_set, links_of as linksOfBytes}
use Rattle.rules.proofs.BitLaws.{bits_small}
use Rattle.rules.proofs.CheckLaws.{skip_all}
use Rattle.rules.proofs.Answers.{passed, long_enough}
use Rattle.rules.proofs.LinkLaws.{own}
use Rattle.rules_typed.specs.Lists.{without, Maybe, just}
use Rattle.rules_typed.specs.Types.{Request, Verb, Create, Retrieve, Update, Delete, Observe, Resource, Application, ApplicationResource, Weight, Tare}
use Rattle.rules_typed.specs.Types.{Zero, Ticket, Lamp, Calib, Display, Yard, Serve, Action}
use Rattle.rules_typed.specs.Checks.{request_checks, verdict as decision}
use Rattle.rules_typed.specs.Outcome.{linked, asks_links, links_of, is_refused, is_yard}
use Rattle.rules_typed.specs.Struct.{Given}
use Rattle.rules_typed.specs.Reading.{tables_of}
use Rattle.rules_typed.specs.Tables.{is_bytes}
use Rattle.rules_typed.specs.Writing.{written_links}
use Rattle.rules_typed.proofs.StateRead.{verb_number}
use Rattle.rules_typed.proofs.ChecksRead.{action_bytes, from_seven, checks_read, Names, asked}
use Rattle.rules.specs.declared.Header.{Header}
use Rattle.rules.specs.declared.Sender.{Sender}
use Rattle.rules.specs.declared.Resource.{Resource as ByteResource}
use Rattle.rules_typed.proofs.DirectoryRead.{entry_read}
use Rattle.rules_typed.proofs.Verdicts.{pass_read}
use Rattle.rules_typed.proofs.ActionAs.{action_as}
use Rattle.rules_typed.specs.Directory.{number_of, row_of, links}

abbrev pub form : List ℕ → List (ℕ × Bool)
form r = header_checks (length r) (header_of r)

-- with sound tables: 2 to 6, and the others
pub two_parts : (t : ByteTables) → Given t → (p : ℕ) (q : ByteRequest) → verdict (checksBytes t p q) ≡ verdict (form q.bytes ++ from_seven t p q)
unfolding verdict action_bytes
two_parts t g p q = rw g.is_sound

-- a record that passes 2 to 6 gets the typed decision
pub decided_read : (t : ByteTables) → Given t → (q : ByteRequest) (v : Verb) (e : Resource) → Names q.bytes v e → is_bytes q.bytes ≡ true
    → verdict (form q.bytes) ≡ Pass → verdict (checksBytes t (permission q.clock t q.bytes) q) ≡ verdict (request_checks (tables_of t) (asked q v e))
decided_read t g q v e k h f =
    let r = q.bytes in
    let p = permission q.clock t r in
    two_parts t g p q
    ∙ sym (skip_all (form r) (from_seven t p q) refl f refl)
    ∙ checks_read t g q v e k h (long_enough r (passed (form r) f 2))

-- ---- a link's own record

own_bytes : (r : List ℕ) (n : ℕ) → n < 64 → is_bytes (own_record r n) ≡ true
unfolding is_bytes own_record be16
own_bytes r n l =
    let v = bits_small r 0 3 in
    let c = bits_small r 3 1 in
    let k = bits_small r 16 16 in
    rw (
      lt-ltb (verb r * 32 + connection r * 16 + n / 4) 256 (omega arith),
      lt-ltb (n % 4 * 64) 256 (omega arith),
      lt-ltb (credential r / 256) 256 (omega arith),
      lt-ltb (credential r % 256) 256 (omega arith),
    )

-- ---- a set of links

abbrev pub number : ApplicationResource → ℕ
number a = number_of (Application a)

pub below : (a : ApplicationResource) → (row_of a).number < 64
below Weight = omega arith
below Tare = omega arith
below Zero = omega arith
below Ticket = omega arith
below Lamp = omega arith
below Calib = omega arith
below Display = omega arith
below Yard = omega arith

set_kept : (refuses : ApplicationResource → Bool) (p : ℕ → Bool) → ((a : ApplicationResource) → p (number a) ≡ not (refuses a))
    → (xs : List ApplicationResource)
    → set_of (λ _. true) (map number (without refuses xs)) ≡ set_of p (map number xs)
unfolding set_of without
set_kept refuses p h [] = refl
set_kept refuses p h (a ∷ xs) =
    rw (h a) (bool_cases (refuses a) (λ f. rw (f, set_kept refuses p h xs, zero-add)) (λ f. rw (f, set_kept refuses p h xs)))

module _ (t : ByteTables) (g : Given t) (q : ByteRequest) (v : Verb) (e : Resource) (k : Names q.bytes v e) (f : verdict (form q.bytes) ≡ Pass) where
  abbrev r : List ℕ
  r = q.bytes

  long : 4 ≤ length r
  long = long_enough r (passed (form r) f 2)

  verb_is : verb r ≡ verb_number v
  verb_is = ap (λ (h : Header). h.verb) k

  module _ (a : ApplicationResource) (l : (row_of a).number < 64) where
    abbrev n : ℕ
    n = (row_of a).number

    abbrev o : List ℕ
    o = own_record r n

    own_names : Names o v (Application a)
    own_names =
        let x = own r n long l in
        ap₂ (λ (w : ℕ) (z : ByteResource). record {
          verb = w;
          connection = connection o;
          resource = z;
          zeros = header_zeros o;
          credential = credential o;
          sender = sender o;
        })
        (x.verb_same ∙ verb_is) (ap byteResource x.resource_is ∙ entry_read (Application a))

    own_form : verdict (form o) ≡ Pass
    unfolding verdict bad_length no_verb zero_bit_set mismatch unknown_resource own_record be16
    own_form =
        let x = own r n long l in
        let there : knownNumber (resource o) ≡ true = ap (λ (h : Header). h.resource.known) own_names in
        rw (there, x.verb_same, x.zeros, x.connection_same, x.credential_same, passed (form r) f 3, passed (form r) f 5)

    abbrev alone : Sender → Maybe Action → List ℕ → Request
    alone s m b = record { clock = q.clock; capacity = 0; sender = s; verb = v; resource = Application a; action = m; body = b }

    own_request : asked (received q.clock o 0) v (Application a) ≡ linked (asked q v e) a
    unfolding action_of
    own_request =
        let x = own r n long l in
        ap (λ (s : Sender). alone s (action_as (body o) (action o)) (body o)) x.sender_same
        ∙ ap (λ (h : Header). alone (sender r) (action_as (body o) (action_of h (body o))) (body o)) own_names
        ∙ ap (λ (b : List ℕ). alone (sender r) (just Serve) b) x.no_body

    pub permits_read : permits q.clock t o ≡ not (is_refused (decision (request_checks (tables_of t) (linked (asked q v e) a))))
    unfolding permits
    permits_read =
        ap is_pass (decided_read t g (received q.clock o 0) v (Application a) own_names (own_bytes r n l) own_form)
        ∙ ap (λ (x : Request). is_pass (verdict (request_checks (tables_of t) x))) own_request
        ∙ pass_read (request_checks (tables_of t) (linked (asked q v e) a))

  -- ---- the set

  abbrev refuses : ApplicationResource → Bool
  refuses a = is_refused (decision (request_checks (tables_of t) (linked (asked q v e) a)))

  asks_read : asks_links v e ≡ asksLinksBytes (header_of r)
  unfolding asksLinksBytes
  asks_read = asks v ∙ sym (ap (λ (h : Header). asksLinksBytes h) k)
    where
      asks : (w : Verb) → asks_links w e ≡ (eqb (number_of e) yard && (eqb (verb_number w) 1 || eqb (verb_number w) 2))
      asks Create = sym (and-false (is_yard e))
      asks Retrieve = sym (and-true (is_yard e))
      asks Update = sym (and-true (is_yard e))
      asks Delete = sym (and-false (is_yard e))
      asks Observe = sym (and-false (is_yard e))

  links_set : set_of (λ _. true) (map number (links_of (tables_of t) (asked q v e))) ≡ link_set q.clock t r
  unfolding links_of link_set set_of
  links_set =
      rw asks_read
      (bool_cases (asksLinksBytes (header_of r))
      (λ f. rw f (set_kept refuses (λ n. permits q.clock t (own_record r n)) (λ a. permits_read a (below a)) links))
      (λ f. rw f))

  pub links_read : written_links (map number (links_of (tables_of t) (asked q v e))) ≡ linksOfBytes q.clock t r
  unfolding written_links
  links_read = ap (λ (s : ℕ). record { set = s; size = ones s }) links_set
