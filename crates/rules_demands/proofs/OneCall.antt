-- Theorems, demands 1 and 2 of one call: what the contracts of `judge` and `take` promise is the typed outcome, written.
use Rattle.rows.proofs.Prelude.{◌≡◌, ap, ◌∙◌, true, false, List, ℕ, bool_cases, not-false}
use Rattle.rules.specs.declared.Check.TheVariants.{Pass}
use Rattle.rules.specs.Record.{Request as ByteRequest, received}
use Rattle.rules.specs.Defaults.{Defaults}
use Rattle.rules.specs.Checks.{verdict as verdictBytes}
use Rattle.rules.specs.Reading.{filled}
use Rattle.rules.specs.Outcome.{Outcome as ByteOutcome, outcome as outcomeBytes}
use Rattle.rules.specs.Promises.Results.{Result, result_of}
use Rattle.rules.specs.Links.{set_of}
use Rattle.rows.proofs.Prelude.{ones}
use Rattle.rules.proofs.Answers.{passed}
use Rattle.rules_typed.specs.Lists.{Maybe, none, when}
use Rattle.rules_typed.specs.Types.{Tables}
use Rattle.rules_typed.specs.Tables.{is_bytes}
use Rattle.rules_typed.specs.Checks.{verdict}
use Rattle.rules_typed.specs.Outcome.{refused, outcome}
use Rattle.rules_typed.specs.Reading.{read_tables, read_record}
use Rattle.rules_typed.specs.Writing.{written_outcome, written_links}
use Rattle.rules_typed.specs.Struct.{IsStruct, DefaultBytes}
use Rattle.rules_typed.proofs.SoundExact.{read_is}
use Rattle.rules_typed.proofs.Whole.{outcome_written}
use Rattle.rules_terminal.specs.Terminal.{Terminal, sound_terminal, take_checks, due, taken, HandedOut, judged}
use Rattle.rules_terminal.specs.Calls.{Takes, Judges}
use Rattle.rules_terminal.proofs.Sound.{terminal_parts}
use Rattle.rules_demands.specs.Demands.{fresh_of, tables_in, judged_in, Tells}

-- on a sound terminal the tables are read
in_sound : (x : Terminal) → IsStruct x.tables → sound_terminal x ≡ true → read_tables x.tables ≡ tables_in x
unfolding tables_in when
in_sound x i h = rw (read_is x.tables i, h, (terminal_parts x h).tables)

take_sound : (x : Terminal) → verdictBytes (take_checks x) ≡ Pass → sound_terminal x ≡ true
take_sound x p = not-false _ (passed (take_checks x) p 1)

module _ (d : Defaults) (e : DefaultBytes d) (x : Terminal) (i : IsStruct x.tables) where
  -- the outcome over bytes
  whole : (q : ByteRequest) → is_bytes q.bytes ≡ true → sound_terminal x ≡ true → outcomeBytes d x.tables q ≡ written_outcome x.tables (judged_in d x q)
  whole q b h =
      outcome_written d e x.tables i q b
      ∙ ap (λ (m : Maybe Tables). written_outcome x.tables (outcome (fresh_of d) m (read_record q))) (in_sound x i h)

  not_sound : (q : ByteRequest) → sound_terminal x ≡ false → judged_in d x q ≡ refused 1 none
  unfolding tables_in when outcome verdict
  not_sound q h = rw h

  -- 1, and the terminal as it was
  unsound_told : (q : ByteRequest) → sound_terminal x ≡ false → (s : Result) (lent queue buffer : List ℕ) → Judges d x q s lent queue buffer
      → Tells (refused 1 none) x.tables s lent buffer
  unfolding judged verdictBytes written_links set_of ones
  unsound_told q h s lent queue buffer j = record { says = rw h at j.says; fills = rw h at j.leaves.fills }

  -- a record judged directly; on a terminal that is not sound, 1
  pub judge_typed : (q : ByteRequest) → is_bytes q.bytes ≡ true → (s : Result) (lent queue buffer : List ℕ) → Judges d x q s lent queue buffer
      → Tells (judged_in d x q) x.tables s lent buffer
  unfolding judged verdictBytes
  judge_typed q b s lent queue buffer j =
      bool_cases (sound_terminal x)
      (λ h. let is = whole q b h in
      record {
        says = rw h at j.says ∙ ap result_of is;
        fills = rw h at j.leaves.fills ∙ ap (λ (o : ByteOutcome). filled lent o.response.contents) is;
      })
      (λ h. rw (not_sound q h) (unsound_told q h s lent queue buffer j))

  -- a take that gives out a record: the outcome of that record, at the take's clock
  pub take_typed : (clock capacity : ℕ) → verdictBytes (take_checks x) ≡ Pass → is_bytes (due x) ≡ true → (u : HandedOut) (lent queue buffer : List ℕ)
      → Takes d x clock capacity u lent queue buffer → Tells (judged_in d x (received clock (due x) capacity)) x.tables u.judgement lent buffer
  unfolding taken
  take_typed clock capacity p b u lent queue buffer j =
      let is = whole (received clock (due x) capacity) b (take_sound x p) in
      record {
        says = ap (λ (o : HandedOut). o.judgement) (rw p at j.hands) ∙ ap result_of is;
        fills = rw p at j.leaves.fills ∙ ap (λ (o : ByteOutcome). filled lent o.response.contents) is;
      }
