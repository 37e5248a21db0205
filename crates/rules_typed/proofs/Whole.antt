-- Theorems: of tables of any content and any record of bytes, the outcome over bytes is the typed outcome, written;
-- and so is a run of records, its responses and its last tables.
use Rattle.rows.proofs.Prelude.{◌≡◌, refl, sym, ap, ap₂, ◌∙◌, true, false, List, [], ◌∷◌, map, ones, bool_cases, subst}
use Rattle.rules.specs.Defaults.{Defaults, fresh}
use Rattle.rules_typed.specs.Types.{Tables, Record}
use Rattle.rules.specs.declared.Tables.{Tables as ByteTables}
use Rattle.rules.specs.Record.{Request as ByteRequest}
use Rattle.rules.specs.Tables.{sound as soundBytes}
use Rattle.rules.specs.Outcome.{outcome as outcomeBytes, Outcome as ByteOutcome, Response as ByteResponse, outcome_at, tables_after, response_to}
use Rattle.rules_typed.specs.Writing.{written_outcome, written_links, written_or, written}
use Rattle.rules_typed.specs.Outcome.{outcome, respond, next}
use Rattle.rules_typed.specs.Lists.{none, just, when, Maybe}
use Rattle.rules_typed.specs.Reading.{read_record, tables_of, read_tables, read_fresh}
use Rattle.rules.specs.Checks.{verdict as verdictBytes}
use Rattle.rules_typed.specs.Checks.{verdict}
use Rattle.rules.specs.Links.{set_of}
use Rattle.rules_typed.specs.Struct.{DefaultBytes, Given, IsStruct, AllBytes}
use Rattle.rules_typed.specs.Tables.{is_bytes}
use Rattle.rules_typed.proofs.OutcomeRead.{outcome_typed, Represents}
use Rattle.rules_typed.proofs.TablesBack.{tables_back}
use Rattle.rules_typed.proofs.StructKept.{given_kept}
use Rattle.rules.specs.Run.{replies, final}
use Rattle.rules_typed.proofs.SoundExact.{read_is}
use Rattle.rules_typed.proofs.FreshRead.{fresh_read}

-- bytes that are no tables get 1, and stay
unsound_written : (d : Defaults) (fresh : Tables) (t : ByteTables) (q : ByteRequest) → soundBytes t ≡ false
    → outcomeBytes d t q ≡ written_outcome t (outcome fresh none (read_record q))
unfolding outcomeBytes outcome_at outcome verdictBytes verdict written_links set_of ones
unsound_written d fresh t q e = rw e

module _ (d : Defaults) (e : DefaultBytes d) where
  abbrev first : Tables
  first = read_fresh d

  typed_outcome : (t : ByteTables) → Given t → (q : ByteRequest) → is_bytes q.bytes ≡ true
      → Represents (outcomeBytes d t q) (outcome first (just (tables_of t)) (read_record q))
  typed_outcome t g q h =
      subst (λ (f : Tables). Represents (outcomeBytes d t q) (outcome f (just (tables_of t)) (read_record q))) (fresh_read d e) (outcome_typed d t g q h)

  sound_written : (t : ByteTables) → Given t → (q : ByteRequest) → is_bytes q.bytes ≡ true
      → outcomeBytes d t q ≡ written_outcome t (outcome first (just (tables_of t)) (read_record q))
  sound_written t g q h =
      let o = typed_outcome t g q h in
      ap₂ (λ (r : ByteResponse) (u : ByteTables). record { response = r; tables = u }) o.response
      (sym (tables_back (tables_after d t q) (given_kept d e t g q h)) ∙ ap (written_or t) o.tables)

  pub outcome_written : (t : ByteTables) → IsStruct t → (q : ByteRequest) → is_bytes q.bytes ≡ true
      → outcomeBytes d t q ≡ written_outcome t (outcome first (read_tables t) (read_record q))
  unfolding when
  outcome_written t i q h =
      rw (read_is t i)
      (bool_cases (soundBytes t)
      (λ s. rw s (sound_written t (record { is_sound = s; struct = i }) q h))
      (λ s. rw s (unsound_written d first t q s)))

  -- the tables afterwards are arrays of bytes again, and are read as the typed ones
  pub struct_kept : (t : ByteTables) → IsStruct t → (q : ByteRequest) → is_bytes q.bytes ≡ true → IsStruct (tables_after d t q)
  unfolding outcomeBytes outcome_at verdictBytes
  struct_kept t i q h =
      bool_cases (soundBytes t)
      (λ s. (given_kept d e t (record { is_sound = s; struct = i }) q h).struct)
      (λ s. rw (s, tables_after) i)

  pub next_read : (t : ByteTables) → IsStruct t → (q : ByteRequest) → is_bytes q.bytes ≡ true
      → read_tables (tables_after d t q) ≡ next first (read_tables t) (read_record q)
  unfolding when outcomeBytes outcome_at outcome verdictBytes verdict
  next_read t i q h =
      rw (read_is t i, read_is (tables_after d t q) (struct_kept t i q h))
      (bool_cases (soundBytes t)
      (λ s. let g : Given t = record { is_sound = s; struct = i } in
      rw (s, (given_kept d e t g q h).is_sound) (typed_outcome t g q h).tables)
      (λ s. rw (s, tables_after, s)))

  -- ---- runs

  abbrev book : List ByteRequest → List Record
  book qs = map read_record qs

  pub replies_written : (t : ByteTables) → IsStruct t → (qs : List ByteRequest) → AllBytes qs
      → replies (response_to d) (tables_after d) t qs ≡ map written (replies (respond first) (next first) (read_tables t) (book qs))
  replies_written t i [] h = refl
  replies_written t i (q ∷ qs) h =
      ap₂ (λ (x : ByteResponse) (xs : List ByteResponse). x ∷ xs) (ap (λ (o : ByteOutcome). o.response) (outcome_written t i q h.0))
      (replies_written (tables_after d t q) (struct_kept t i q h.0) qs h.1
      ∙ ap (λ (m : Maybe Tables). map written (replies (respond first) (next first) m (book qs))) (next_read t i q h.0))

  pub final_read : (t : ByteTables) → IsStruct t → (qs : List ByteRequest) → AllBytes qs
      → read_tables (final (tables_after d) t qs) ≡ final (next first) (read_tables t) (book qs)
  final_read t i [] h = refl
  final_read t i (q ∷ qs) h =
      final_read (tables_after d t q) (struct_kept t i q h.0) qs h.1
      ∙ ap (λ (m : Maybe Tables). final (next first) m (book qs)) (next_read t i q h.0)
