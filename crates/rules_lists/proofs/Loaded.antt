-- Theorem, U10: an accepted list is permitted throughout when its rows are judged, one straight after the other, as records of the device owner;
-- and then the access rows are the list's, in their order, and nothing else is changed. At any clocks and buffer lengths, for any default lists.
use Rattle.rows.proofs.Prelude.{◌≡◌, refl, ap, subst, ◌∙◌, Bool, true, false, not, false≢true, List, [], ◌∷◌, map, ℕ, ◌/◌, ◌%◌, ◌≤◌, ◌<◌, arith, length, take}
use Rattle.rows.proofs.Prelude.{eqb, ltb-false, ne_eqb, bool_cases, and_left, and_right, or_right}
use Rattle.rows.specs.Rows.{Row, first_row, some}
use Rattle.rows.proofs.Laws.{length_rows_of}
use Rattle.rows.proofs.Kept.{AllLong, every_long}
use Rattle.rules.specs.declared.Tables.{Tables}
use Rattle.rules.specs.declared.Check.TheVariants.{Pass}
use Rattle.rules.specs.declared.Table.TheVariants.{Creds, Aces}
use Rattle.rules.specs.Bits.{bit, bits, be16}
use Rattle.rules.specs.Directory.{entry_of, acl2}
use Rattle.rules.specs.declared.Sender.TheVariants.{Partner}
use Rattle.rules.specs.Record.{Request, sender, credential}
use Rattle.rules.specs.Tables.{storable, rows, with_rows, sound, SoundRows}
use Rattle.rules.specs.Defaults.{Defaults}
use Rattle.rules.specs.Permission.{U, has, numbered, sender_row_in, is_row, names, is_owner, by_owner, permission_of}
use Rattle.rules.specs.Promises.Theorems.{effective}
use Rattle.rules.specs.States.{write_allowed}
use Rattle.rules.specs.Promises.Theorems.{rows_of_reply}
use Rattle.rules.specs.Checks.{bad_length, no_verb, zero_bit_set, mismatch, unknown_resource, no_credential, verdict}
use Rattle.rules.specs.Promises.Groups.{sender_checks}
use Rattle.rules.specs.Outcome.{Response, response_to}
use Rattle.rules.specs.Promises.Storing.{Retrieves, TakesRows, MayStore, AllMayStore}
use Rattle.rules.proofs.BitLaws.{bits_word}
use Rattle.rules.proofs.RecordLaws.{sender_partner}
use Rattle.rules.proofs.Answers.{table_parts}
use Rattle.rules.proofs.BodyLaws.{sized}
use Rattle.rules.proofs.OwnRow.{first_passes, first_every, numbered_two}
use Rattle.rules.proofs.ReadBack.{long_bodies, rows_themselves}
use Rattle.rules.proofs.RowsStored.{otherwise, by_others, long_stored}
use Rattle.rules.proofs.Restored.{retrieved_sound, rows_told, reply_judged}
use Rattle.rules.proofs.Gaps.{has_number_lem}
use Rattle.rules_terminal.specs.Terminal.{Terminal}
use Rattle.rules_terminal.specs.Inputs.{Input, direct}
use Rattle.rules_terminal.specs.CallRun.{Call, response_of, Built, handed_back, all_shown}
use Rattle.rules_terminal.specs.Direct.{Whole}
use Rattle.rules_terminal.proofs.Built.{directs_told}
use Rattle.rules_runs.specs.Isolation.{requests_of, all_responses}
use Rattle.rules_runs.proofs.Calls.{built_rules}
use Rattle.rules_lists.specs.Lists.{listed, bad_size, list_tested}
use Rattle.rules_lists.specs.Loading.{owns_device, storing, Stores, Ready, Loaded}
use Rattle.rules_lists.proofs.Exact.{accepted_faultless}
use Rattle.rules.specs.Sizes.{ace_row_size}

-- ---- the sender

-- where the first row that passes a test has bytes, there is one
some_first : (p : Row → Bool) (ws : List Row) → is_row (first_row p ws) ≡ true → some p ws ≡ true
unfolding first_row some
some_first p [] h = absurd (false≢true h)
some_first p (w ∷ ws) h = bool_cases (p w) (λ e. rw e) (λ e. rw e (some_first p ws (rw e at h)))

module _ (t : Tables) (n : ℕ) (h : sound t ≡ true) (o : owns_device t (Partner n) ≡ true) where
  abbrev own : Row
  own = sender_row_in (rows Creds t) (Partner n)

  a_row : is_row own ≡ true
  unfolding owns_device
  a_row = and_left (is_row own) _ o

  there : some (numbered n) (rows Creds t) ≡ true
  there = some_first (numbered n) (rows Creds t) a_row

  -- no row has number 0
  not_zero : n ≡ 0 → ⊥
  unfolding be16
  not_zero e =
      let z : take 2 own ≡ 0 ∷ 0 ∷ [] = numbered_two n own (first_passes (numbered n) (rows Creds t) there) ∙ rw e in
      has_number_lem Creds own (first_every (numbered n) (storable Creds) (rows Creds t) there (table_parts Creds t h).stores) z

  -- the owner's right
  may_update : (clock : ℕ) → has (effective clock t (Partner n) acl2) U ≡ true
  unfolding otherwise by_owner is_owner owns_device entry_of has
  may_update clock =
      let named : names t.devowner own ≡ true = and_right (is_row own) _ o in by_others clock t (Partner n) acl2 (rw (a_row, named))

  -- ---- the owner's record that stores w

  module _ (small : n < 65536) (w : Row) (l : length w ≡ ace_row_size) where
    number_is : credential (storing n w) ≡ n
    unfolding storing be16
    number_is = bits_word (storing n w) 2 (omega arith) (omega arith) ∙ omega arith

    from_owner : sender (storing n w) ≡ Partner n
    unfolding storing be16 bits bit
    from_owner = sender_partner (storing n w) (omega arith) refl ∙ ap Partner number_is

    pub owner_passes : verdict (sender_checks (rows Creds t) (storing n w)) ≡ Pass
    unfolding storing be16 bits bit verdict bad_length no_verb zero_bit_set mismatch unknown_resource entry_of no_credential
    owner_passes = rw (l, number_is, ne_eqb n 0 not_zero, from_owner, there)

  owner_may : n < 65536 → (q : Request) (w : Row) → length w ≡ ace_row_size → q.bytes ≡ storing n w → MayStore Aces t q w
  unfolding permission_of storing be16 bits bit
  owner_may small q w l e = record {
    passes = rw e (owner_passes small w l);
    updates = rw e;
    on = rw e;
    may = rw (e, from_owner small w l) (may_update q.clock);
    carries = rw e;
  }

-- each may, in the tables before the first
owners_may : (t : Tables) → sound t ≡ true → (ws : List Row) (qs : List Request) → AllLong ace_row_size ws → Stores t qs ws → AllMayStore Aces t qs ws
owners_may t h [] [] l e = tt
owners_may t h [] (q ∷ qs) l e = absurd e
owners_may t h (w ∷ ws) [] l e = absurd e
owners_may t h (w ∷ ws) (q ∷ qs) l e =
    let o = e.0 in (owner_may t o.number h o.owner o.small q w l.0 o.stores, owners_may t h ws qs l.1 e.1)

-- ---- the rows

ready_takes : (t : Tables) → Ready t → TakesRows Aces t
unfolding write_allowed
ready_takes t r = record { is_sound = r.is_sound; in_state = rw r.in_rfpro; no_rows = r.no_aces }

-- rows that a sound table may hold
rows_loaded : (d : Defaults) (t : Tables) (ws : List Row) (qs : List Request) → Ready t → SoundRows Aces ws → Stores t qs ws → Loaded d t qs ws
rows_loaded d t ws qs ready x e =
    let is = rows_themselves Aces ws x.stores in
    let long = every_long ace_row_size (storable Aces) (sized Aces) ws x.stores in
    subst (Loaded d t qs) is (long_stored d Aces t ws qs (ready_takes t ready) long (rw is x) (owners_may t ready.is_sound ws qs long e))

few_rows : (b : List ℕ) → bad_size b ≡ false → length (listed b) ≤ 32
unfolding bad_size
few_rows b e = rw (length_rows_of ace_row_size (length b / ace_row_size) b) (ltb-false 32 (length b / ace_row_size) (or_right (not (eqb (length b % ace_row_size) 0)) _ e))

-- an accepted list is permitted throughout
pub accepted_loaded : (d : Defaults) (t : Tables) (b : List ℕ) (qs : List Request)
    → (list_tested b).answer ≡ 0 → Ready t → Stores t qs (listed b) → Loaded d t qs (listed b)
accepted_loaded d t b qs a ready e =
    let f = accepted_faultless b a in
    rows_loaded d t (listed b) qs ready (record { few = few_rows b f.whole; stores = f.clean.stores; distinct = f.clean.distinct }) e

-- U1: so are the access rows of the reply to a permitted RETRIEVE, which need not be a list that the test accepts
pub reply_loaded : (d : Defaults) (t u : Tables) (q : Request) (qs : List Request)
    → length t.rowners ≡ 64 → Retrieves d Aces t q → Ready u → Stores u qs (rows_of_reply Aces (response_to d t q).contents) → Loaded d u qs (rows Aces t)
reply_loaded d t u q qs l p ready e =
    reply_judged d Aces t u q qs l p (ready_takes u ready)
    (owners_may u ready.is_sound (rows_of_reply Aces (response_to d t q).contents) qs
    (rw (rows_told d Aces t q p l) (long_bodies Aces t (retrieved_sound d Aces t q p))) e)

-- ---- any calls that meet the contracts

-- the records judged in a run are those of the list, with the bytes of the hand-ins: be they judged at takes or at once
pub built_loaded : (d : Defaults) (x : Terminal) (b : List ℕ) (is : List Input) (cs : List Call) → Built d x is cs
    → (list_tested b).answer ≡ 0 → Ready x.tables → Stores x.tables (requests_of x is (all_shown is cs)) (listed b)
    → (map (λ (p : Response). p.answer) (all_responses is (all_shown is cs)) ≡ map (λ (q : Request). 0) (requests_of x is (all_shown is cs)))
    × (rows Aces (handed_back x cs).tables ≡ listed b)
    × (with_rows Aces (handed_back x cs).tables [] ≡ with_rows Aces x.tables [])
built_loaded d x b is cs built a ready e =
    let same = built_rules d x is cs built in
    let l = accepted_loaded d x.tables b (requests_of x is (all_shown is cs)) a ready e in (
      ap (map (λ (p : Response). p.answer)) same.responses_same ∙ l.permitted,
      ap (rows Aces) same.tables_same ∙ l.held,
      ap (λ (t : Tables). with_rows Aces t []) same.tables_same ∙ l.others,
    )

-- records judged directly, with memory that is sound where the tables are: all are judged
pub direct_loaded : (d : Defaults) (x : Terminal) (b : List ℕ) (qs : List Request) (cs : List Call)
    → (list_tested b).answer ≡ 0 → Ready x.tables → Whole x → Stores x.tables qs (listed b) → Built d x (map direct qs) cs
    → (map (λ (p : Response). p.answer) (map response_of cs) ≡ map (λ (q : Request). 0) qs)
    × (rows Aces (handed_back x cs).tables ≡ listed b)
    × (with_rows Aces (handed_back x cs).tables [] ≡ with_rows Aces x.tables [])
direct_loaded d x b qs cs a ready whole e built =
    let same = directs_told d x qs cs built whole in
    let l = accepted_loaded d x.tables b qs a ready e in (
      ap (map (λ (p : Response). p.answer)) same.0 ∙ l.permitted,
      ap (rows Aces) same.1 ∙ l.held,
      ap (λ (t : Tables). with_rows Aces t []) same.1 ∙ l.others,
    )
