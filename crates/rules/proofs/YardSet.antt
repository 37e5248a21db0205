-- Theorems, U9: the set that a permitted RETRIEVE or UPDATE of /yard answers holds exactly those of 8 to 14 whose own record gets answer 0.
-- Every other record has the empty set and size 0. For a record at any clock, with any buffer and any default lists.
use Rattle.rows.proofs.Prelude.{◌≡◌, refl, sym, ap, ap₂, ◌∙◌, Bool, true, false, ◌&&◌, and-false, List, ◌++◌, ℕ, ◌+◌, ◌*◌, ◌/◌, ◌%◌, ◌^◌, ◌≤◌, ◌<◌, le_trans}
use Rattle.rows.proofs.Prelude.{arith, length, eqb, leb, ones, ones_in, le-leb, leb-true, bool_cases}
use lib.Dec.{leb-suc-suc}
use Rattle.rules.specs.declared.Tables.{Tables}
use Rattle.rules.specs.declared.Links.{Links}
use Rattle.rules.specs.Directory.{is_security}
use Rattle.rules.specs.Bits.{be16}
use Rattle.rules.specs.Record.{header_of, Request, received, verb, connection, resource, credential}
use Rattle.rules.specs.Defaults.{Defaults}
use Rattle.rules.specs.Permission.{permission}
use Rattle.rules.specs.Reading.{reads}
use Rattle.rules.specs.Links.{own_record, permits, set_of, asks_links, link_set, links_of, no_links}
use Rattle.rules.specs.Promises.Theorems.{in_links}
use Rattle.rules.specs.Checks.{checks}
use Rattle.rules.specs.Outcome.{Response, Outcome, response_to}
use Rattle.rules.specs.YardSet.{NoSet, YardSet}
use Rattle.rules.proofs.Answers.{passed, long_enough, no_reply_fits}
use Rattle.rules.proofs.BodyLaws.{security_number_lem}
use Rattle.rules.proofs.Refusals.{zero_passes, not_told, permitted_passes, permitted_outcome}
use Rattle.rules.proofs.AnyBody.{any_body}
use Rattle.rules.proofs.LinkLaws.{own, from, within, set_below, in_set_lem, ones_held}

-- ---- a link's own record

link_plain : (n : ℕ) → leb 8 n ≡ true → is_security n ≡ false
link_plain n h = bool_cases (is_security n) (λ e. absurd (omega (arith, security_number_lem n e, leb-true 8 n h))) (λ e. e)

-- a record for an application resource gets answer 0 where it is permitted with no buffer, whatever its buffer
permits_zero : (clock : ℕ) (t : Tables) (r : List ℕ) → is_security (resource r) ≡ false → (d : Defaults) (capacity : ℕ)
    → permits clock t r ≡ eqb (response_to d t (received clock r capacity)).answer 0
unfolding permits reads
permits_zero clock t r plain d capacity =
    let unread : reads (header_of r) ≡ false = rw (plain, and-false) in
    rw (zero_passes d t (received clock r capacity), no_reply_fits t (received clock r 0) unread, no_reply_fits t (received clock r capacity) unread)

own_any_body : (r : List ℕ) (n : ℕ) (b : List ℕ) → length b ≤ 252 → is_security (resource (own_record r n)) ≡ false → (d : Defaults) (t : Tables) (clock capacity : ℕ)
    → (response_to d t (received clock (own_record r n ++ b) capacity)).answer ≡ (response_to d t (received clock (own_record r n) capacity)).answer
unfolding own_record be16
own_any_body r n b few plain = any_body (verb r * 32 + connection r * 16 + n / 4) (n % 4 * 64) (credential r / 256) (credential r % 256) b few plain

-- 8 to 14
from_8 : (n : ℕ) {b c : Bool} → (leb 8 n ≡ true → b ≡ c) → (within 8 7 n && b) ≡ (leb 8 n && leb n 14 && c)
from_8 n h = bool_cases (leb 8 n) (λ e. rw e (ap₂ (λ (x y : Bool). x && y) (leb-suc-suc n 14) (h e))) (λ e. rw e)

-- ---- of a record

pub yard_set : (d : Defaults) (t : Tables) (q : Request) → asks_links (header_of q.bytes) ≡ true → (response_to d t q).answer ≡ 0 → YardSet t q (response_to d t q).links
unfolding link_set
yard_set d t q asks z =
    let r = q.bytes in
    let passes : ℕ → Bool = λ n. permits q.clock t (own_record r n) in
    let l = long_enough r (passed (checks t (permission q.clock t r) q) (permitted_passes d t q z) 2) in
    let plain : (n : ℕ) → n < 64 → leb 8 n ≡ true → is_security (resource (own_record r n)) ≡ false =
    λ n h m. ap (λ (i : ℕ). is_security i) (own r n l h).resource_is ∙ link_plain n m in
    let are : (response_to d t q).links ≡ links_of q.clock t r = ap (λ (o : Outcome). o.response.links) (permitted_outcome d t q z) in
    -- the links are seven from 8 on
    let is : (response_to d t q).links.set ≡ set_of passes (from 8 7) = ap (λ (x : Links). x.set) are ∙ rw asks in
    let small : (response_to d t q).links.set < 2 ^ 64 = rw is (le_trans (set_below passes 7 7 (omega arith)) (omega arith)) in
    record {
      member = λ n h d' capacity.
          ap (λ (x : ℕ). in_links x n) is
          ∙ in_set_lem passes 8 7 (omega arith) n h
          ∙ from_8 n (λ m. permits_zero q.clock t (own_record r n) (plain n h m) d' capacity);
      own = λ n h. own r n l h;
      with_body = λ n h m b few d' capacity. own_any_body r n b few (plain n h (le-leb 8 n m)) d' t q.clock capacity;
      fits = small;
      size = ap (λ (x : Links). x.size) are ∙ ap (λ (x : Links). ones x.set) (sym are) ∙ ones_held (response_to d t q).links.set small;
    }

links_unless : (d : Defaults) (t : Tables) (q : Request) → ((response_to d t q).answer ≡ 0 → (response_to d t q).links ≡ no_links) → (response_to d t q).links ≡ no_links
links_unless d t q = not_told (λ (x : Response). x.links) no_links d t q (λ n. refl)

pub no_set : (d : Defaults) (t : Tables) (q : Request) → NoSet q (response_to d t q)
unfolding link_set ones ones_in
no_set d t q = record {
  refused = λ other. links_unless d t q (λ z. absurd (other z));
  other = λ a. links_unless d t q (λ z. ap (λ (o : Outcome). o.response.links) (permitted_outcome d t q z) ∙ rw a);
}
