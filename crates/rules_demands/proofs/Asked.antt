-- Theorems: the terminal's answer 'isolated' is the premise of demand 3 in typed tables, both ways.
use Rattle.rows.proofs.Prelude.{◌≡◌, refl, sym, ap, ◌∙◌, Bool, true, false, List, [], ℕ, contradiction, bool_cases}
use Rattle.rules.specs.declared.Tables.{Tables as ByteTables}
use Rattle.rules.specs.Tables.{sound as soundBytes}
use Rattle.rules_typed.specs.Lists.{just, is_none, when}
use Rattle.rules_typed.specs.Types.{Tables}
use Rattle.rules_typed.specs.Reading.{tables_of, read_tables}
use Rattle.rules_typed.specs.Isolation.{Harmless}
use Rattle.rules_typed.specs.Struct.{IsStruct}
use Rattle.rules_typed.proofs.SoundExact.{read_is}
use Rattle.rules_typed.proofs.IsolationRead.{premise_along, premise_typed}
use Rattle.rules.specs.declared.Sender.{Sender}
use Rattle.rules.specs.Defaults.{Defaults, no_defaults}
use Rattle.rules_typed.specs.Tables.{is_bytes}
use Rattle.rules_typed.specs.Struct.{DefaultBytes}
use Rattle.rules_terminal.specs.Terminal.{Terminal}
use Rattle.rules_terminal.specs.Inputs.{Input, records_in}
use Rattle.rules_terminal.specs.CallRun.{Call, Built, handed_back, all_shown}
use Rattle.rules_isolation.specs.Service.{Within, Again, others_endanger, turns_handed}
use Rattle.rules_isolation.proofs.BuiltYards.{built_in_service, built_in_quiet_service}
use Rattle.rules_interface.specs.Memory.{Memory, terminal_at}
use Rattle.rules_interface.specs.Calls.{CCall, CBuilt}
use Rattle.rules_interface.specs.CallRun.{calls_of}
use Rattle.rules_interface.proofs.CCalls.{c_built}
use Rattle.rules_demands.specs.Demands.{TypedIsolated, InputBytes}
use Rattle.rules_demands.proofs.Calls.{isolated_as_typed}
use Rattle.rules_isolation.specs.declared.Isolation.TheVariants.{Isolated}
use Rattle.rules_isolation.specs.Question.{chosen_by, odd_length, isolation_of}
use Rattle.rules_isolation.proofs.Exact.{isolated_harmless, harmless_isolated}

no_bytes : DefaultBytes no_defaults
unfolding is_bytes
no_bytes = record { creds = refl; aces = refl }

module _ (t : ByteTables) (i : IsStruct t) (list : List ℕ) where
  read_sound : soundBytes t ≡ true → read_tables t ≡ just (tables_of t)
  unfolding when
  read_sound s = rw (read_is t i, s)

  -- the tables are read, and the senders of the list are harmless in them
  pub isolated_typed : isolation_of t list ≡ Isolated → (read_tables t ≡ just (tables_of t)) × Harmless (chosen_by list) (tables_of t)
  isolated_typed e =
      let says = isolated_harmless t list e in
      let read = read_sound says.1 in
      (read, rw read at (premise_typed (chosen_by list) t i (λ _. says.2)))

  -- and the other way round
  pub typed_isolated : odd_length list ≡ false → (T : Tables) → read_tables t ≡ just T → Harmless (chosen_by list) T → isolation_of t list ≡ Isolated
  unfolding when
  typed_isolated even T read h =
      let s : soundBytes t ≡ true = bool_cases (soundBytes t) (λ e. e) (λ e. contradiction refl (ap is_none (sym (rw e at (read_is t i)) ∙ read))) in
      harmless_isolated t list even s (premise_along no_defaults no_bytes (chosen_by list) t i [] tt (rw read h) s)

-- ---- in service, of any calls: a list answered 'isolated', and again after each call by which somebody else endangers it

module _ (d : Defaults) (e : DefaultBytes d) (x : Terminal) (i : IsStruct x.tables) (w : is_bytes x.queue ≡ true)
    (is : List Input) (cs : List Call) (b : Built d x is cs) (h : InputBytes is)
    (list : List ℕ) (asked : isolation_of x.tables list ≡ Isolated) (part : Sender → Bool) (within : Within part (chosen_by list)) where
  pub typed_in_service : Again (chosen_by list) (λ t. isolation_of t list ≡ Isolated) (records_in x) is (all_shown is cs)
      → TypedIsolated d part x is (all_shown is cs) (handed_back x cs)
  typed_in_service a = isolated_as_typed d e x i w is cs b h part (built_in_service d x is cs b list asked part within a)

  -- or nobody else endangers it
  pub typed_in_quiet_service : others_endanger (chosen_by list) (turns_handed x is (all_shown is cs)) ≡ false
      → TypedIsolated d part x is (all_shown is cs) (handed_back x cs)
  typed_in_quiet_service n = isolated_as_typed d e x i w is cs b h part (built_in_quiet_service d x is cs b list asked part within n)

-- of C calls

module _ (d : Defaults) (e : DefaultBytes d) (m : Memory) (i : IsStruct (terminal_at m).tables) (w : is_bytes m.queue ≡ true)
    (is : List Input) (cs : List CCall) (b : CBuilt d m is cs) (h : InputBytes is)
    (list : List ℕ) (asked : isolation_of (terminal_at m).tables list ≡ Isolated) (part : Sender → Bool) (within : Within part (chosen_by list)) where
  pub c_typed_in_service : Again (chosen_by list) (λ t. isolation_of t list ≡ Isolated) (records_in (terminal_at m)) is (all_shown is (calls_of is cs))
      → TypedIsolated d part (terminal_at m) is (all_shown is (calls_of is cs)) (handed_back (terminal_at m) (calls_of is cs))
  c_typed_in_service = typed_in_service d e (terminal_at m) i w is (calls_of is cs) (c_built d m is cs b) h list asked part within
