-- Theorems: each yard's run without the others is that of a book that keeps typed tables, of any calls.
use Rattle.rows.proofs.Prelude.{◌≡◌, refl, sym, ap, ap₂, ◌∙◌, Bool, true, List, [], ◌∷◌, map, ℕ, cond_cases}
use Rattle.rules.specs.declared.Tables.{Tables as ByteTables}
use Rattle.rules.specs.declared.Sender.{Sender}
use Rattle.rules.specs.Record.{Request as ByteRequest}
use Rattle.rules.specs.Defaults.{Defaults}
use Rattle.rules.specs.Tables.{sound as soundBytes}
use Rattle.rules.specs.Outcome.{Outcome as ByteOutcome, Response as ByteResponse, tables_after}
use Rattle.rules.specs.Run.{final, kept}
use Rattle.rules_typed.specs.Lists.{Maybe}
use Rattle.rules_typed.specs.Types.{Tables}
use Rattle.rules_typed.specs.Tables.{is_bytes}
use Rattle.rules_typed.specs.Reading.{read_tables}
use Rattle.rules_typed.specs.Isolation.{compared}
use Rattle.rules_typed.specs.Struct.{IsStruct, DefaultBytes, AllBytes}
use Rattle.rules_typed.proofs.Whole.{outcome_written, struct_kept, next_read, final_read}
use Rattle.rules_typed.proofs.IsolationRead.{run_struct}
use Rattle.rules_typed.proofs.ComparedRead.{compared_read}
use Rattle.rules_terminal.specs.Terminal.{Terminal, Transition}
use Rattle.rules_terminal.specs.Inputs.{Input, Turn, records_in, request_of, others_turn}
use Rattle.rules_terminal.specs.CallRun.{Call, Built, handed_back, all_shown}
use Rattle.rules_runs.specs.Isolation.{requests_of, all_responses}
use Rattle.rules_runs.proofs.Calls.{built_rules}
use Rattle.rules_isolation.specs.Service.{paired, turns_handed, Again}
use Rattle.rules_isolation.specs.Yards.{of_yards, of_other_yards, Disjoint, AllIsolated, book_turns, turns_of, requests_without, Alone}
use Rattle.rules_isolation.specs.Question.{chosen_by}
use Rattle.rules_isolation.proofs.BuiltYards.{built_each_yard, built_two_yards}
use Rattle.rules_interface.specs.Memory.{Memory, terminal_at}
use Rattle.rules_interface.specs.Calls.{CCall, CBuilt}
use Rattle.rules_interface.specs.CallRun.{calls_of}
use Rattle.rules_interface.proofs.CCalls.{c_built}
use Rattle.rules_demands.specs.Demands.{typed_turns, TypedAlone, InputBytes}
use Rattle.rules_demands.proofs.FedBytes.{fed_bytes}
use Rattle.rules_demands.proofs.Calls.{final_sound, calls_keep}

-- the requests of turns that are kept are bytes
paired_bytes : (keep : Turn → Bool) (qs : List ByteRequest) (rs : List ByteResponse) → AllBytes qs → AllBytes (map request_of (kept keep (paired qs rs)))
paired_bytes keep [] rs h = tt
paired_bytes keep (q ∷ qs) [] h = tt
paired_bytes keep (q ∷ qs) (r ∷ rs) h =
    cond_cases (λ (us : List Turn). AllBytes (map request_of us)) (keep (record { request = q; response = r }))
    (λ _. (h.0, paired_bytes keep qs rs h.1)) (λ _. paired_bytes keep qs rs h.1)

module _ (d : Defaults) (e : DefaultBytes d) where
  turns_written : (t : ByteTables) → IsStruct t → (qs : List ByteRequest) → AllBytes qs → book_turns d t qs ≡ typed_turns d (read_tables t) qs
  turns_written t i [] h = refl
  turns_written t i (q ∷ qs) h =
      ap₂ (λ (r : ByteResponse) (us : List Turn). record { request = q; response = r } ∷ us)
      (ap (λ (o : ByteOutcome). o.response) (outcome_written d e t i q h.0))
      (turns_written (tables_after d t q) (struct_kept d e t i q h.0) qs h.1
      ∙ ap (λ (m : Maybe Tables). typed_turns d m qs) (next_read d e t i q h.0))

  module _ (x : Terminal) (i : IsStruct x.tables) (w : is_bytes x.queue ≡ true) (is : List Input) (cs : List Call) (b : Built d x is cs)
      (h : InputBytes is) where
    abbrev us : List Turn
    us = turns_handed x is (all_shown is cs)

    alone_typed : (ours theirs : Sender → Bool) → Alone d ours theirs x.tables us (handed_back x cs).tables
        → TypedAlone d ours theirs x.tables us (handed_back x cs).tables
    alone_typed ours theirs o =
        let t = x.tables in
        let qs = requests_of x is (all_shown is cs) in
        let rest = requests_without theirs us in
        let bytes : AllBytes rest = paired_bytes (others_turn theirs) qs (all_responses is (all_shown is cs)) (fed_bytes x w is (all_shown is cs) h) in
        let end = (built_rules d x is cs b).tables_same in
        let sound-end : soundBytes (handed_back x cs).tables ≡ soundBytes (final (tables_after d) t rest) =
        ap soundBytes end ∙ final_sound d t qs ∙ sym (final_sound d t rest) in
        record {
          response = o.response ∙ ap (turns_of ours) (turns_written t i rest bytes);
          tables =
              compared_read theirs (handed_back x cs).tables (final (tables_after d) t rest) (calls_keep d e x i w is cs b h)
              (run_struct d e theirs t i rest bytes) sound-end o.tables
              ∙ ap (compared theirs) (final_read d e t i rest bytes);
        }

    -- any number of yards, each answered 'isolated', and again after each call by which somebody else endangers them
    pub typed_each_yard : (yards : List (List ℕ)) → AllIsolated yards x.tables → (yard : List ℕ)
        → Again (of_yards yards) (AllIsolated yards) (records_in x) is (all_shown is cs)
        → TypedAlone d (chosen_by yard) (of_other_yards yards yard) x.tables us (handed_back x cs).tables
    typed_each_yard yards asked yard a = alone_typed (chosen_by yard) (of_other_yards yards yard) (built_each_yard d x is cs b yards asked yard a)

    -- two yards with nobody in both
    pub typed_two_yards : (one two : List ℕ) → Disjoint one two → AllIsolated (one ∷ two ∷ []) x.tables
        → Again (of_yards (one ∷ two ∷ [])) (AllIsolated (one ∷ two ∷ [])) (records_in x) is (all_shown is cs)
        → TypedAlone d (chosen_by one) (chosen_by two) x.tables us (handed_back x cs).tables
        × TypedAlone d (chosen_by two) (chosen_by one) x.tables us (handed_back x cs).tables
    typed_two_yards one two apart asked a =
        let both = built_two_yards d x is cs b one two apart asked a in
        (alone_typed (chosen_by one) (chosen_by two) both.0, alone_typed (chosen_by two) (chosen_by one) both.1)

-- of C calls

module _ (d : Defaults) (e : DefaultBytes d) (m : Memory) (i : IsStruct (terminal_at m).tables) (w : is_bytes m.queue ≡ true)
    (is : List Input) (cs : List CCall) (b : CBuilt d m is cs) (h : InputBytes is) where
  abbrev y : Terminal
  y = terminal_at m

  abbrev answers : List Transition
  answers = all_shown is (calls_of is cs)

  abbrev end : ByteTables
  end = (handed_back (terminal_at m) (calls_of is cs)).tables

  pub c_typed_each_yard : (yards : List (List ℕ)) → AllIsolated yards y.tables → (yard : List ℕ)
      → Again (of_yards yards) (AllIsolated yards) (records_in y) is answers
      → TypedAlone d (chosen_by yard) (of_other_yards yards yard) y.tables (turns_handed y is answers) end
  c_typed_each_yard = typed_each_yard d e y i w is (calls_of is cs) (c_built d m is cs b) h

  pub c_typed_two_yards : (one two : List ℕ) → Disjoint one two → AllIsolated (one ∷ two ∷ []) y.tables
      → Again (of_yards (one ∷ two ∷ [])) (AllIsolated (one ∷ two ∷ [])) (records_in y) is answers
      → TypedAlone d (chosen_by one) (chosen_by two) y.tables (turns_handed y is answers) end
      × TypedAlone d (chosen_by two) (chosen_by one) y.tables (turns_handed y is answers) end
  c_typed_two_yards = typed_two_yards d e y i w is (calls_of is cs) (c_built d m is cs b) h
