-- Theorems of any calls, and of C calls: all records judged are judged as the typed rules judge them one after the other;
-- and demand 3, with a book that keeps typed tables. The premise is read in these.
use Rattle.rows.proofs.Prelude.{◌≡◌, refl, sym, ap, ◌∙◌, Bool, true, false, List, [], ◌∷◌, map, bool_cases, contradiction}
use Rattle.rules.specs.declared.Tables.{Tables as ByteTables}
use Rattle.rules.specs.declared.Sender.{Sender}
use Rattle.rules.specs.Record.{Request as ByteRequest}
use Rattle.rules.specs.Defaults.{Defaults}
use Rattle.rules.specs.Tables.{sound as soundBytes}
use Rattle.rules.specs.Outcome.{Outcome, tables_after}
use Rattle.rules.specs.Run.{replies, final, kept}
use Rattle.rules.specs.Isolation.{is_others as isOthersBytes}
use Rattle.rules.proofs.SoundKept.{sound_same}
use Rattle.rules.proofs.Refusals.{unsound_refused}
use Rattle.rules_typed.specs.Lists.{none, is_none, when}
use Rattle.rules_typed.specs.Types.{Record}
use Rattle.rules_typed.specs.Tables.{is_bytes}
use Rattle.rules_typed.specs.Reading.{tables_of, read_tables}
use Rattle.rules_typed.specs.Writing.{written}
use Rattle.rules_typed.specs.Outcome.{respond, next}
use Rattle.rules_typed.specs.Isolation.{compared}
use Rattle.rules_typed.specs.Struct.{IsStruct, DefaultBytes, AllBytes}
use Rattle.rules_typed.proofs.SoundExact.{read_is}
use Rattle.rules_typed.proofs.Whole.{replies_written, final_read}
use Rattle.rules_typed.proofs.IsolationRead.{others_read, premise_along, along_read, kept_bytes, run_struct}
use Rattle.rules_typed.proofs.ComparedRead.{compared_read}
use Rattle.rules_terminal.specs.Terminal.{Terminal}
use Rattle.rules_terminal.specs.Inputs.{Input}
use Rattle.rules_terminal.specs.CallRun.{Call, Built, handed_back, all_shown}
use Rattle.rules_terminal.proofs.Shown.{built_shown}
use Rattle.rules_queue.specs.QueueBytes.{read_terminal}
use Rattle.rules_queue.proofs.Steps.{steps_written, steps_read}
use Rattle.rules_runs.specs.Isolation.{requests_of, all_responses, BookPremise, Isolated}
use Rattle.rules_runs.proofs.Calls.{handed_isolation, built_rules}
use Rattle.rules_interface.specs.Memory.{Memory, terminal_at}
use Rattle.rules_interface.specs.Calls.{CCall, CBuilt}
use Rattle.rules_interface.specs.CallRun.{calls_of}
use Rattle.rules_interface.proofs.CCalls.{c_built}
use Rattle.rules_demands.specs.Demands.{fresh_of, AsTyped, AsQueue, TypedPremise, TypedIsolated, InputBytes}
use Rattle.rules_demands.proofs.FedBytes.{fed_bytes, queue_inputs}

-- sound tables stay sound, and others stay
pub final_sound : (d : Defaults) (t : ByteTables) (qs : List ByteRequest) → soundBytes (final (tables_after d) t qs) ≡ soundBytes t
final_sound d t [] = refl
final_sound d t (q ∷ qs) = final_sound d (tables_after d t q) qs ∙ sound_same d t q

unsound_final : (d : Defaults) (t : ByteTables) → soundBytes t ≡ false → (qs : List ByteRequest) → final (tables_after d) t qs ≡ t
unsound_final d t u [] = refl
unsound_final d t u (q ∷ qs) =
    let s : tables_after d t q ≡ t = ap (λ (o : Outcome). o.tables) (unsound_refused d t q u) in
    ap (λ (y : ByteTables). final (tables_after d) y qs) s ∙ unsound_final d t u qs

unread_unsound : (t : ByteTables) → IsStruct t → read_tables t ≡ none → soundBytes t ≡ false
unfolding when
unread_unsound t i n =
    let m : is_none (when (soundBytes t) (tables_of t)) ≡ true = ap is_none (sym (read_is t i) ∙ n) in
    bool_cases (soundBytes t) (λ s. contradiction (rw s at m) refl) (λ s. s)

module _ (d : Defaults) (e : DefaultBytes d) (x : Terminal) (i : IsStruct x.tables) (w : is_bytes x.queue ≡ true)
    (is : List Input) (cs : List Call) (b : Built d x is cs) (h : InputBytes is) where
  abbrev qs : List ByteRequest
  qs = requests_of x is (all_shown is cs)

  all : AllBytes qs
  all = fed_bytes x w is (all_shown is cs) h

  stays : read_tables x.tables ≡ none → (handed_back x cs).tables ≡ x.tables
  stays n = (built_rules d x is cs b).tables_same ∙ unsound_final d x.tables (unread_unsound x.tables i n) qs

  -- demands 1 and 2
  pub typed_rules : AsTyped d x.tables qs (all_responses is (all_shown is cs)) (handed_back x cs).tables
  typed_rules =
      let r = built_rules d x is cs b in
      record {
        responses_same = r.responses_same ∙ replies_written d e x.tables i qs all;
        tables_same = ap read_tables r.tables_same ∙ final_read d e x.tables i qs all;
        unread = stays;
      }

  -- and the queue: each call shows what the typed rules give, the terminal that it leaves included
  pub typed_queue : AsQueue d x is (all_shown is cs) (handed_back x cs)
  typed_queue =
      let shown = built_shown d x is cs b in
      let bytes = queue_inputs is h in
      record { shown_same = shown.0 ∙ steps_written d e x i w is bytes; end_same = ap read_terminal shown.1 ∙ steps_read d e x i w is bytes }

  -- the tables left are arrays of bytes again
  pub calls_keep : IsStruct (handed_back x cs).tables
  calls_keep = rw (built_rules d x is cs b).tables_same (run_struct d e (λ _. true) x.tables i qs all)

  -- demand 3
  module _ (chosen : Sender → Bool) where
    abbrev others : List ByteRequest
    others = kept (isOthersBytes chosen) qs

    others_bytes : AllBytes others
    others_bytes = kept_bytes d e chosen qs all

    -- what holds with the book over bytes holds with the typed one
    pub isolated_as_typed : Isolated d chosen x is (all_shown is cs) (handed_back x cs) → TypedIsolated d chosen x is (all_shown is cs) (handed_back x cs)
    isolated_as_typed o =
        let same = others_read d e chosen qs in
        let t = x.tables in
        let end = (built_rules d x is cs b).tables_same in
        let sound-end : soundBytes (handed_back x cs).tables ≡ soundBytes (final (tables_after d) t others) =
        ap soundBytes end ∙ final_sound d t qs ∙ sym (final_sound d t others) in
        record {
          responses_same =
              o.responses_same ∙ replies_written d e t i others others_bytes
              ∙ ap (λ (rs : List Record). map written (replies (respond (fresh_of d)) (next (fresh_of d)) (read_tables t) rs)) same;
          tables_same =
              compared_read chosen (handed_back x cs).tables (final (tables_after d) t others) calls_keep (run_struct d e chosen t i others others_bytes)
              sound-end o.tables_same
              ∙ ap (compared chosen) (final_read d e t i others others_bytes)
              ∙ ap (λ (rs : List Record). compared chosen (final (next (fresh_of d)) (read_tables t) rs)) same;
          unread = stays;
        }

    pub typed_isolation : TypedPremise d chosen x is (all_shown is cs) → TypedIsolated d chosen x is (all_shown is cs) (handed_back x cs)
    typed_isolation p =
        isolated_as_typed (handed_isolation d x is cs b chosen
        (λ s. premise_along d e chosen x.tables i others others_bytes (rw (others_read d e chosen qs) (p s))))

    -- the premise over bytes gives the typed one
    pub premise_typed : BookPremise d chosen x is (all_shown is cs) → TypedPremise d chosen x is (all_shown is cs)
    premise_typed p s = rw (← others_read d e chosen qs) (along_read d e chosen x.tables i others others_bytes (p s))

-- ---- of C calls

module _ (d : Defaults) (e : DefaultBytes d) (m : Memory) (i : IsStruct (terminal_at m).tables) (w : is_bytes m.queue ≡ true)
    (is : List Input) (cs : List CCall) (b : CBuilt d m is cs) (h : InputBytes is) where
  abbrev y : Terminal
  y = terminal_at m

  pub c_typed_rules : AsTyped d y.tables (requests_of y is (all_shown is (calls_of is cs))) (all_responses is (all_shown is (calls_of is cs)))
      (handed_back y (calls_of is cs)).tables
  c_typed_rules = typed_rules d e y i w is (calls_of is cs) (c_built d m is cs b) h

  pub c_typed_queue : AsQueue d y is (all_shown is (calls_of is cs)) (handed_back y (calls_of is cs))
  c_typed_queue = typed_queue d e y i w is (calls_of is cs) (c_built d m is cs b) h

  pub c_typed_isolation : (chosen : Sender → Bool) → TypedPremise d chosen y is (all_shown is (calls_of is cs))
      → TypedIsolated d chosen y is (all_shown is (calls_of is cs)) (handed_back y (calls_of is cs))
  c_typed_isolation chosen = typed_isolation d e y i w is (calls_of is cs) (c_built d m is cs b) h chosen
