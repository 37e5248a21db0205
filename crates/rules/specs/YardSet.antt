-- The set that a permitted record of /yard is answered with (U9): each member's own record would get answer 0.
use Rattle.std.specs.Prelude.{ℕ, ◌<◌, ◌^◌, ◌≤◌, List, [], ◌++◌, ◌≡◌, eqb, leb, length, ◌&&◌, false}
use Rattle.rules.specs.Links.{own_record, asks_links, no_links}
use Rattle.rules.specs.Promises.Theorems.{count_below, in_links}
use Rattle.rules.specs.Record.{body, connection, credential, header_zeros, resource, sender, verb, Request, header_of, received}
use Rattle.rules.specs.Defaults.{Defaults}
use Rattle.rules.specs.Outcome.{Response, response_to}
use Rattle.rules.specs.declared.Tables.{Tables}
use Rattle.rules.specs.declared.Links.{Links}

-- what the definition of a link's own record is to have
pub record Own (r : List ℕ) (n : ℕ) : Type 0 where
  pub verb_same : verb (own_record r n) ≡ verb r
  pub sender_same : sender (own_record r n) ≡ sender r
  pub connection_same : connection (own_record r n) ≡ connection r
  pub credential_same : credential (own_record r n) ≡ credential r
  pub resource_is : resource (own_record r n) ≡ n
  pub zeros : header_zeros (own_record r n) ≡ 0
  pub no_body : body (own_record r n) ≡ []

-- of a permitted RETRIEVE or UPDATE of /yard, and the set and the size that it is answered with
pub record YardSet (t : Tables) (q : Request) (links : Links) : Type 0 where
  -- a resource is in the set exactly where it is one of 8 to 14, and its own record gets answer 0,
  -- at the same clock and on the same tables, with any buffer and for any default lists
  pub member : (n : ℕ) → n < 64 → (d' : Defaults) (capacity : ℕ)
      → in_links links.set n ≡ (leb 8 n && leb n 14 && eqb (response_to d' t (received q.clock (own_record q.bytes n) capacity)).answer 0)
  -- that record has the verb and the sender of the record that asks, and no body; with any body that has room it gets the same answer
  pub own : (n : ℕ) → n < 64 → Own q.bytes n
  pub with_body : (n : ℕ) → n < 64 → 8 ≤ n → (b : List ℕ) → length b ≤ 252 → (d' : Defaults) (capacity : ℕ)
      → (response_to d' t (received q.clock (own_record q.bytes n ++ b) capacity)).answer ≡ (response_to d' t (received q.clock (own_record q.bytes n) capacity)).answer
  -- the set has 64 bits, and the size is the number of its members
  pub fits : links.set < 2 ^ 64
  pub size : links.size ≡ count_below 64 (in_links links.set)

-- of every other record: a record that is refused, and a record that is no RETRIEVE or UPDATE of /yard, and what it is answered
pub record NoSet (q : Request) (y : Response) : Type 0 where
  pub refused : (y.answer ≡ 0 → ⊥) → y.links ≡ no_links
  pub other : asks_links (header_of q.bytes) ≡ false → y.links ≡ no_links
