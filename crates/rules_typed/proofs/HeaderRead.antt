-- The header, read: 2 to 6 apply to the same records, and a record that passes them is a request with its verb and its resource.
use Rattle.rows.proofs.Prelude.{◌≡◌, refl, sym, ap, ap₂, ◌∙◌, Bool, true, false, not, ◌&&◌, ◌||◌, List, [], ◌∷◌, ℕ, ◌<◌, eqb, bool_cases, eqb-true, eqb-false}
use Rattle.rows.proofs.Prelude.{arith, or-false, leb, length, ltb, contradiction, ltb-false, not-false}
use Rattle.rules_typed.specs.Checks.{agree}
use Rattle.rules_typed.specs.Reading.{connection_as, read_record}
use Rattle.rules_typed.proofs.DirectoryRead.{Found, known, unknown, found, resource_read, entry_read, resource_as}
use Rattle.rules_typed.specs.Lists.{is_none, just, Maybe}
use Rattle.rules_typed.specs.Directory.{resource_of}
use Rattle.rules.specs.Directory.{known as knownNumber, resource_of as byteResource}
use Rattle.rules.specs.declared.Resource.{Resource as ByteResource}
use Rattle.rules.specs.declared.Sender.{Sender}
use Rattle.rules.specs.Record.{Request as ByteRequest, sender, verb, connection, header_zeros, credential, body}
use Rattle.rules_typed.specs.Bodies.{sender_of, request_of, request_by}
use Rattle.rules.specs.Bits.{bits}
use Rattle.rules_typed.specs.Types.{Record, Resource, Verb, Action}
use Rattle.rules_typed.proofs.LinksRead.{form}
use Rattle.rules.specs.Checks.{bad_length, no_verb, zero_bit_set, mismatch, unknown_resource, verdict}
use Rattle.rules_typed.proofs.StateRead.{no_verb_read, is_verb}
use Rattle.rules.proofs.BitLaws.{bits_small}
use Rattle.rules_typed.proofs.ChecksRead.{Names, asked}
use Rattle.rules_typed.specs.Tables.{is_bytes}
use Rattle.rules.specs.declared.Check.TheVariants.{Pass}
use Rattle.rules.proofs.Answers.{passed}
use Rattle.rules_typed.proofs.ActionRead.{action_read}

not_not : (b : Bool) → not (not b) ≡ b
not_not true = refl
not_not false = refl

-- ---- 5, 6 and the sender

disagree_read : (c n : ℕ) → c < 2 → not (agree (connection_as c) n) ≡ ((eqb c 0 && not (eqb n 0)) || (not (eqb c 0) && eqb n 0))
unfolding connection_as
disagree_read c n l =
    bool_cases (eqb c 1)
    (λ e. let z : c ≡ 1 = eqb-true c 1 e in rw z (not_not (eqb n 0)))
    (λ e. let z : c ≡ 0 = omega (arith, eqb-false c 1 e) in rw z (sym (or-false (not (eqb n 0)))))

unknown_read : (n : ℕ) → Found n → is_none (resource_of n) ≡ not (knownNumber n)
unknown_read n (known e) = rw (resource_read e) (sym (ap (λ (x : ByteResource). not x.known) (entry_read e)))
unknown_read n (unknown u f) = rw (u, f)

pub sender_read : (q : ByteRequest) → sender_of (read_record q) ≡ sender q.bytes
unfolding sender_of sender connection_as
sender_read q =
    let r = q.bytes in
    bool_cases (leb 4 (length r)) (λ e. rw e (bool_cases (eqb (bits r 3 1) 1) (λ f. rw f) (λ f. rw f))) (λ e. rw e)

-- ---- 2 to 6

abbrev pub typed_form : Record → List (ℕ × Bool)
typed_form r =
    (2, ltb r.size 4 || ltb 256 r.size)
    ∷ (3, is_none r.verb)
    ∷ (4, not (eqb r.zeros 0))
    ∷ (5, not (agree r.connection r.credential))
    ∷ (6, is_none r.resource)
    ∷ []

pub form_read : (q : ByteRequest) → form q.bytes ≡ typed_form (read_record q)
unfolding bad_length no_verb zero_bit_set mismatch unknown_resource
form_read q =
    let r = q.bytes in
    sym (rw (no_verb_read (bits r 0 3), disagree_read (bits r 3 1) (bits r 16 16) (bits_small r 3 1), unknown_read (bits r 4 6) (found (bits r 4 6))))

-- ---- a record that passes them

record IsResource (n : ℕ) : Type 0 where
  resource : Resource
  read : resource_of n ≡ just resource
  number : byteResource n ≡ resource_as resource

is_resource : (n : ℕ) → Found n → knownNumber n ≡ true → IsResource n
is_resource n (known e) h = record { resource = e; read = resource_read e; number = entry_read e }
is_resource n (unknown u f) h = contradiction h u

pub record IsRequest (q : ByteRequest) : Type 0 where
  pub verb : Verb
  pub resource : Resource
  pub names : Names q.bytes verb resource
  pub read : request_of (read_record q) ≡ just (asked q verb resource)

pub is_request : (q : ByteRequest) → is_bytes q.bytes ≡ true → verdict (form q.bytes) ≡ Pass → IsRequest q
unfolding no_verb unknown_resource
is_request q h f =
    let r = q.bytes in
    let v = is_verb (verb r) (ltb-false 4 (verb r) (passed (form r) f 3)) in
    let there : knownNumber (bits r 4 6) ≡ true = not-false _ (passed (form r) f 6) in
    let e = is_resource (bits r 4 6) (found (bits r 4 6)) there in
    let names : Names r v.verb e.resource =
    ap₂ (λ (w : ℕ) (z : ByteResource). record {
      verb = w;
      connection = connection r;
      resource = z;
      zeros = header_zeros r;
      credential = credential r;
      sender = sender r;
    })
    v.number e.number in
    record {
      verb = v.verb;
      resource = e.resource;
      names = names;
      read =
          ap₂ (request_by (read_record q)) v.read e.read
          ∙ ap₂ (λ (s : Sender) (a : Maybe Action). just
          (record { clock = q.clock; capacity = q.capacity; sender = s; verb = v.verb; resource = e.resource; action = a; body = body r }))
          (sender_read q) (sym (action_read r h v.verb e.resource names));
    }
