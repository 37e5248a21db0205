-- A record that passes 2 to 6 is the one that waits, at its clock; written, it is its bytes; and a valid one, written, is read again.
use Rattle.rows.proofs.Prelude.{◌≡◌, refl, sym, ap, ◌∙◌, true, false, List, ◌++◌, ℕ, ◌+◌, ◌*◌, ◌≤◌, ◌<◌, arith, length, take}
use Rattle.rows.proofs.Prelude.{drop, eqb, eqb-true, eqb-false, bool_cases, contradiction, not-false, and_left, or_left, ltb, ltb-false}
use Rattle.rows.proofs.Prelude.{length-drop, take-append-drop, drop-drop, le-leb, le-ltb}
use Rattle.rules.specs.declared.Sender.{Sender}
use Rattle.rules.specs.declared.Sender.TheVariants.{Unauthenticated, Partner}
use Rattle.rules.specs.declared.Check.TheVariants.{Pass}
use Rattle.rules.specs.Bits.{bits, be16}
use Rattle.rules.specs.Record.{received}
use Rattle.rules.specs.Checks.{verdict as verdictBytes}
use Rattle.rules.proofs.Answers.{passed}
use Rattle.rules.proofs.BitLaws.{bits_split, bits_small}
use Rattle.rules_typed.specs.Lists.{Maybe, none, just, is_none}
use Rattle.rules_typed.specs.Types.{Record, Connection, AnonClear, AuthCrypt, Verb, Create, Retrieve, Update, Delete, Observe, Resource, Security}
use Rattle.rules_typed.specs.Types.{Application}
use Rattle.rules_typed.specs.Types.{Doxm, Pstat, Cred, Acl2, Roles, Weight, Tare, Zero, Ticket, Lamp, Calib, Display, Yard}
use Rattle.rules_typed.specs.Directory.{number_of, resource_of}
use Rattle.rules_typed.specs.Permission.{connection_of}
use Rattle.rules_typed.specs.Tables.{is_bytes, is_number}
use Rattle.rules_typed.specs.Bodies.{sender_of, sender_over}
use Rattle.rules_typed.specs.Checks.{agree}
use Rattle.rules_typed.specs.Reading.{verb_of, connection_as, read_record}
use Rattle.rules_typed.specs.Writing.{connection_number}
use Rattle.rules_typed.proofs.DirectoryRead.{Found, known, unknown, found, resource_read}
use Rattle.rules_typed.proofs.WriteBack.{two_at}
use Rattle.rules_typed.proofs.RowsRead.{bytes_join}
use Rattle.rules_typed.proofs.RowWritten.{two_small, word_read, number_small}
use Rattle.rules_typed.proofs.StateRead.{is_verb, no_verb_read, verb_number as number_of_verb}
use Rattle.rules_queue.specs.Queue.{Waiting, header_checks, sender_number, valid_sender, record_at}
use Rattle.rules_queue.specs.QueueBytes.{verb_number, record_bytes, or_else, waiting_from}

-- ---- read

just_is : {A : Type 0} (m : Maybe A) (x : A) → is_none m ≡ false → m ≡ just (or_else m x)
just_is none x e = contradiction refl e
just_is (just y) x e = refl

pub record Fits (c : Connection) (n : ℕ) : Type 0 where
  pub connects : connection_of (sender_over c n) ≡ c
  pub numbers : sender_number (sender_over c n) ≡ n

fits : (c : Connection) (n : ℕ) → agree c n ≡ true → Fits c n
fits AnonClear n a = record { connects = refl; numbers = sym (eqb-true n 0 a) }
fits AuthCrypt n a = record { connects = refl; numbers = refl }

module _ (x : Record) (p : verdictBytes (header_checks x) ≡ Pass) where
  pub four : 4 ≤ x.size
  four = ltb-false x.size 4 (or_left (ltb x.size 4) _ (passed (header_checks x) p 2))

  pub sender_over_lem : sender_of x ≡ sender_over x.connection x.credential
  unfolding sender_of
  sender_over_lem = rw (le-leb 4 x.size four)

  pub sender_fits : Fits x.connection x.credential
  sender_fits = fits x.connection x.credential (not-false _ (passed (header_checks x) p 5))

  pub at_is : x.size ≡ 4 + length x.body → x ≡ record_at x.clock x.capacity (waiting_from x)
  at_is l =
      let verb = just_is x.verb Observe (passed (header_checks x) p 3) in
      let resource = just_is x.resource (Security Roles) (passed (header_checks x) p 6) in
      let zeros = eqb-true x.zeros 0 (not-false _ (passed (header_checks x) p 4)) in
      let connection = sym sender_fits.connects ∙ ap connection_of (sym sender_over_lem) in
      let number = sym sender_fits.numbers ∙ ap sender_number (sym sender_over_lem) in
      λ i. record {
        clock = x.clock;
        capacity = x.capacity;
        size = l i;
        verb = verb i;
        connection = connection i;
        resource = resource i;
        zeros = zeros i;
        credential = number i;
        body = x.body;
      }

-- numbers of what is read
same_number : (v : Verb) → verb_number v ≡ number_of_verb v
same_number Create = refl
same_number Retrieve = refl
same_number Update = refl
same_number Delete = refl
same_number Observe = refl

verb_number_lem : (v : ℕ) → is_none (verb_of v) ≡ false → verb_number (or_else (verb_of v) Observe) ≡ v
verb_number_lem v e =
    let k = is_verb v (ltb-false 4 v (sym (no_verb_read v) ∙ e)) in
    ap (λ (m : Maybe Verb). verb_number (or_else m Observe)) k.read ∙ same_number k.verb ∙ sym k.number

resource_number : (n : ℕ) → Found n → is_none (resource_of n) ≡ false → number_of (or_else (resource_of n) (Security Roles)) ≡ n
resource_number n (known e) h = rw (resource_read e)
resource_number n (unknown u f) h = contradiction refl (rw f at h)

connection_number_lem : (c : ℕ) → c < 2 → connection_number (connection_as c) ≡ c
unfolding connection_as
connection_number_lem c l = bool_cases (eqb c 1) (λ e. rw (e, eqb-true c 1 e)) (λ e. rw e (omega (arith, eqb-false c 1 e)))

-- of bytes
module _ (clock capacity : ℕ) (r : List ℕ) where
  abbrev x : Record
  x = read_record (received clock r capacity)

  module _ (p : verdictBytes (header_checks x) ≡ Pass) where
    pub record_at_lem : x ≡ record_at clock capacity (waiting_from (read_record (received 0 r 0)))
    unfolding sender_of
    record_at_lem = at_is x p (omega (arith, four x p, length-drop 4 r))

    -- written, it is its bytes
    pub record_back : is_bytes r ≡ true → record_bytes (waiting_from x) ≡ r
    unfolding record_bytes
    record_back h =
        let l : 4 ≤ length r = four x p in
        let verb = verb_number_lem (bits r 0 3) (passed (header_checks x) p 3) in
        let resource = resource_number (bits r 4 6) (found (bits r 4 6)) (passed (header_checks x) p 6) in
        let zeros : bits r 10 6 ≡ 0 = eqb-true (bits r 10 6) 0 (not-false _ (passed (header_checks x) p 4)) in
        let connection = ap (λ (s : Sender). connection_number (connection_of s)) (sender_over_lem x p) ∙ ap connection_number (sender_fits x p).connects
        ∙ connection_number_lem (bits r 3 1) (bits_small r 3 1) in
        let number = ap sender_number (sender_over_lem x p) ∙ (sender_fits x p).numbers in
        let word : bits r 0 3 * 8192 + bits r 3 1 * 4096 + bits r 4 6 * 64 ≡ bits r 0 16 =
        omega (arith, bits_split r 0 3 13, bits_split r 3 1 12, bits_split r 4 6 6) in
        rw (verb, resource, connection, number, word, two_at r h 0 (omega arith), two_at r h 2 (omega arith), ← drop-drop 2 2 r)
        (ap (λ (b : List ℕ). take 2 r ++ b) (take-append-drop 2 (drop 2 r)) ∙ take-append-drop 2 r)

-- ---- written, and read again

record Header (r : List ℕ) (v c e : ℕ) : Type 0 where
  verb : bits r 0 3 ≡ v
  connection : bits r 3 1 ≡ c
  resource : bits r 4 6 ≡ e
  zeros : bits r 10 6 ≡ 0

header : (r : List ℕ) (v c e : ℕ) → c < 2 → e < 64 → bits r 0 16 ≡ v * 8192 + c * 4096 + e * 64 → Header r v c e
header r v c e lc le w =
    let s = bits_split r 0 3 13 in
    let t = bits_split r 3 1 12 in
    let u = bits_split r 4 6 6 in
    record {
      verb = omega (arith, w, s, t, u, bits_small r 3 1, bits_small r 4 6, bits_small r 10 6);
      connection = omega (arith, w, s, t, u, bits_small r 3 1, bits_small r 4 6, bits_small r 10 6);
      resource = omega (arith, w, s, t, u, bits_small r 3 1, bits_small r 4 6, bits_small r 10 6);
      zeros = omega (arith, w, s, t, u, bits_small r 3 1, bits_small r 4 6, bits_small r 10 6);
    }

verb_again : (v : Verb) → verb_of (verb_number v) ≡ just v
unfolding verb_of
verb_again Create = refl
verb_again Retrieve = refl
verb_again Update = refl
verb_again Delete = refl
verb_again Observe = refl

connection_again : (s : Sender) → connection_as (connection_number (connection_of s)) ≡ connection_of s
unfolding connection_as
connection_again Unauthenticated = refl
connection_again (Partner n) = refl

verb_small : (v : Verb) → verb_number v < 8
verb_small Create = omega arith
verb_small Retrieve = omega arith
verb_small Update = omega arith
verb_small Delete = omega arith
verb_small Observe = omega arith

connection_small : (s : Sender) → connection_number (connection_of s) < 2
connection_small Unauthenticated = omega arith
connection_small (Partner n) = omega arith

resource_small : (e : Resource) → number_of e < 64
resource_small (Security Doxm) = omega arith
resource_small (Security Pstat) = omega arith
resource_small (Security Cred) = omega arith
resource_small (Security Acl2) = omega arith
resource_small (Security Roles) = omega arith
resource_small (Application Weight) = omega arith
resource_small (Application Tare) = omega arith
resource_small (Application Zero) = omega arith
resource_small (Application Ticket) = omega arith
resource_small (Application Lamp) = omega arith
resource_small (Application Calib) = omega arith
resource_small (Application Display) = omega arith
resource_small (Application Yard) = omega arith

pub sender_small : (s : Sender) → valid_sender s ≡ true → sender_number s < 65536
sender_small Unauthenticated v = omega arith
sender_small (Partner n) v = number_small n v

over_again : (s : Sender) → sender_over (connection_of s) (sender_number s) ≡ s
over_again Unauthenticated = refl
over_again (Partner n) = refl

agree_again : (s : Sender) → valid_sender s ≡ true → agree (connection_of s) (sender_number s) ≡ true
unfolding is_number
agree_again Unauthenticated v = refl
agree_again (Partner n) v = and_left _ _ v

module _ (w : Waiting) (v : valid_sender w.sender ≡ true) (b : is_bytes w.body ≡ true) where
  abbrev first : ℕ
  first = verb_number w.verb * 8192 + connection_number (connection_of w.sender) * 4096 + number_of w.resource * 64

  pub record_bytes_lem : is_bytes (record_bytes w) ≡ true
  unfolding record_bytes
  record_bytes_lem =
      bytes_join (be16 first) _ (two_small first (omega (arith, verb_small w.verb, connection_small w.sender, resource_small w.resource)))
      (bytes_join (be16 (sender_number w.sender)) w.body (two_small (sender_number w.sender) (sender_small w.sender v)) b)

  pub record_long : length (record_bytes w) ≡ 4 + length w.body
  unfolding record_bytes be16
  record_long = omega arith

  pub record_again : (clock capacity : ℕ) → read_record (received clock (record_bytes w) capacity) ≡ record_at clock capacity w
  unfolding record_bytes be16
  record_again clock capacity =
      let r = record_bytes w in
      let word : bits r 0 16 ≡ first = word_read r record_bytes_lem 0 first (omega (arith, record_long)) refl in
      let h = header r (verb_number w.verb) (connection_number (connection_of w.sender)) (number_of w.resource) (connection_small w.sender)
      (resource_small w.resource) word in
      let number : bits r 16 16 ≡ sender_number w.sender = word_read r record_bytes_lem 2 (sender_number w.sender) (omega (arith, record_long)) refl in
      let size = record_long in
      let verb = ap verb_of h.verb ∙ verb_again w.verb in
      let connection = ap connection_as h.connection ∙ connection_again w.sender in
      let resource = ap resource_of h.resource ∙ resource_read w.resource in
      let zeros = h.zeros in
      λ i. record {
        clock = clock;
        capacity = capacity;
        size = size i;
        verb = verb i;
        connection = connection i;
        resource = resource i;
        zeros = zeros i;
        credential = number i;
        body = w.body;
      }

  -- it is the record that waits
  pub waiting_again : (clock capacity : ℕ) → waiting_from (record_at clock capacity w) ≡ w
  unfolding sender_of
  waiting_again clock capacity = rw (le-leb 4 (4 + length w.body) (omega arith), over_again w.sender)

  pub passes_again : (clock capacity : ℕ) → length w.body ≤ 252 → verdictBytes (header_checks (record_at clock capacity w)) ≡ Pass
  unfolding verdictBytes
  passes_again clock capacity l =
      rw (le-ltb (4 + length w.body) 4 (omega arith), le-ltb 256 (4 + length w.body) (omega arith), agree_again w.sender v)
