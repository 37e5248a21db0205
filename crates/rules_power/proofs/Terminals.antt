-- A day of a terminal, of any way to give what the rules give: what is stored is loaded again, and a sound terminal stays sound.
-- The rules and the calls are two such ways.
use Rattle.rows.proofs.Prelude.{◌≡◌, refl, ap, true, List, ◌∷◌, ℕ, arith, length}
use Rattle.rules.specs.declared.Tables.{Tables}
use Rattle.rules.specs.Defaults.{Defaults}
use Rattle.rules_terminal.specs.Slots.{empty_queue}
use Rattle.rules_terminal.specs.Terminal.{Terminal, terminal, Transition, sound_terminal, cleared_terminal}
use Rattle.rules_terminal.specs.CallRun.{Call}
use Rattle.rules_terminal.proofs.Sound.{terminal_parts, sound_next, fresh_terminal_lem}
use Rattle.rules_terminal.proofs.Direct.{fresh_whole}
use Rattle.rules_terminal.proofs.Built.{call_left}
use Rattle.rules_store.specs.Store.{size_for}
use Rattle.rules_power.specs.Image.{tables_size, terminal_size, SizedTables, SizedTerminal}
use Rattle.rules_power.specs.Day as day
use Rattle.rules_power.specs.Day.{Machine, Event, replied, found, Day, Restarts, AsRun, Kept, in_rounds, Keeps}
use Rattle.rules_power.specs.Kept as kept
use Rattle.rules_power.specs.Kept.{Act, input, clear, act_next, Answers, Calls, nothing_waits, whole, tables_alone}
use Rattle.rules_power.proofs.Days.{power_on, day_restarts, restarts_run, run_keeps, rounds_keep}
use Rattle.rules_power.proofs.Images.{length_tables, length_terminal, sized_tables, sized_terminal, tables_back, terminal_back}
use Rattle.rules_power.proofs.Lengths.{tables_sized, next_sized, fresh_sized}

-- ---- by the rules, and by calls

pub answers_next : (d : Defaults) (x y : Terminal) (act : Act) (a : Transition) → Answers d x act a y → y ≡ act_next d x act
answers_next d x y act a (kept.gives _ i) = refl
answers_next d x y act a (kept.clears _) = refl

pub calls_next : (d : Defaults) (x y : Terminal) (act : Act) (c : Call) → Calls d x act c y → y ≡ act_next d x act
calls_next d x y act c (kept.gives _ i _ m) = call_left d x i c m
calls_next d x y act c (kept.clears _ _ e) = e

act_sized : (d : Defaults) (x : Terminal) (act : Act) → SizedTerminal x → SizedTerminal (act_next d x act)
unfolding cleared_terminal
act_sized d x (input i) l = next_sized d x i l
act_sized d x clear l = fresh_sized d

act_tables : (d : Defaults) (x : Terminal) (act : Act) → SizedTables x.tables → SizedTables (act_next d x act).tables
unfolding cleared_terminal
act_tables d x (input i) l = tables_sized d x i l
act_tables d x clear l = (fresh_sized d).tables

act_sound : (d : Defaults) (x : Terminal) (act : Act) → sound_terminal x ≡ true → sound_terminal (act_next d x act) ≡ true
unfolding cleared_terminal
act_sound d x (input i) h = sound_next d x i h
act_sound d x clear h = fresh_terminal_lem d

nothing_sound : (x : Terminal) → sound_terminal x ≡ true → sound_terminal (nothing_waits x) ≡ true
nothing_sound x h = fresh_whole x.tables (terminal_parts x h).tables

-- ---- a sound terminal stays sound

module _ {Input Answer : Type 0} (m : Machine Terminal Input Answer)
    (gives-sound : (x y : Terminal) (i : Input) (a : Answer) → m.Gives x i a y → sound_terminal x ≡ true → sound_terminal y ≡ true)
    (restart-sound : (x : Terminal) → sound_terminal x ≡ true → sound_terminal (m.restart x) ≡ true) where
  restarts_sound : (x z : Terminal) (es : List (Event Input Answer)) → Restarts m x es z → sound_terminal x ≡ true → sound_terminal z ≡ true
  restarts_sound x z es day.ends h = h
  restarts_sound x z es (day.answers {y = y} {es = more} i a g rest) h = restarts_sound y z more rest (gives-sound x y i a g h)
  restarts_sound x z es (day.counts {y = y} {es = more} i a g rest) h =
      restarts_sound (m.restart y) z more rest (restart-sound y (gives-sound x y i a g h))
  restarts_sound x z es (day.leaves_out {es = more} i rest) h = restarts_sound (m.restart x) z more rest (restart-sound x h)
  restarts_sound x z es (day.idles {es = more} rest) h = restarts_sound (m.restart x) z more rest (restart-sound x h)

  -- after an input that leaves a sound terminal, whatever was there before
  restarts_first : (x z : Terminal) (i : Input) (a : Answer) (es : List (Event Input Answer)) → Restarts m x (replied i a ∷ es) z
      → ((y : Terminal) → m.Gives x i a y → sound_terminal y ≡ true) → sound_terminal z ≡ true
  restarts_first x z i a es (day.answers {y = y} _ _ g rest) first = restarts_sound y z es rest (first y g)

-- ---- any way to give what the rules give

module _ {Answer : Type 0} (Gives : Terminal → Act → Answer → Terminal → Type 0) (d : Defaults)
    (gives-next : (x y : Terminal) (act : Act) (a : Answer) → Gives x act a y → y ≡ act_next d x act) where
  pub whole_keeps : Keeps (whole Gives) SizedTerminal
  whole_keeps = record {
    loads = sized_terminal;
    goes_on = λ x y act a g l. rw (gives-next x y act a g) (act_sized d x act l);
    sized = length_terminal;
    back = terminal_back;
    rests = λ bytes. refl;
  }

  pub tables_keep : Keeps (tables_alone Gives) (λ x. SizedTables x.tables)
  tables_keep = record {
    loads = λ bytes l. sized_tables bytes (omega arith);
    goes_on = λ x y act a g l. rw (gives-next x y act a g) (act_tables d x act l);
    sized = λ x l. length_tables x.tables l;
    back = λ x l. ap (λ (t : Tables). terminal t empty_queue) (tables_back x.tables l);
    rests = λ bytes. refl;
  }

  -- ---- a sound terminal stays sound

  sound_after : (x y : Terminal) (act : Act) (a : Answer) → Gives x act a y → sound_terminal x ≡ true → sound_terminal y ≡ true
  sound_after x y act a g h = rw (gives-next x y act a g) (act_sound d x act h)

  cleared_sound : (x y : Terminal) (a : Answer) → Gives x clear a y → sound_terminal y ≡ true
  unfolding cleared_terminal
  cleared_sound x y a g = rw (gives-next x y clear a g) (fresh_terminal_lem d)

  -- ---- one image of tables and the queue: a run without power cuts, whose end is in the store

  module _ (s end : List ℕ) (f : length s ≡ size_for terminal_size) where
    abbrev start : Terminal
    start = found (whole Gives) s

    whole_restarts : (es : List (Event Act Answer)) (z : Terminal) → Day (whole Gives) start s es z end
        → Restarts (whole Gives) start es z × Kept (whole Gives) SizedTerminal z end
    whole_restarts es z = day_restarts (whole Gives) SizedTerminal whole_keeps start z s end es (power_on (whole Gives) SizedTerminal whole_keeps s f)

    pub any_whole_run : (es : List (Event Act Answer)) (z : Terminal) → Day (whole Gives) start s es z end
        → AsRun (whole Gives) start es z × (found (whole Gives) end ≡ z)
    any_whole_run es z days =
        let r = whole_restarts es z days in (restarts_run (whole Gives) (λ x. refl) start z es r.0, r.1.finds)

    pub any_whole_sound : (es : List (Event Act Answer)) (z : Terminal) → Day (whole Gives) start s es z end
        → sound_terminal start ≡ true → sound_terminal z ≡ true
    any_whole_sound es z days = restarts_sound (whole Gives) sound_after (λ x h. h) start z es (whole_restarts es z days).0

    -- whatever the store held before the clear button, or before the first image
    pub any_whole_first : (a : Answer) (es : List (Event Act Answer)) (z : Terminal) → Day (whole Gives) start s (replied clear a ∷ es) z end
        → sound_terminal z ≡ true
    any_whole_first a es z days =
        restarts_first (whole Gives) sound_after (λ x h. h) start z clear a es (whole_restarts (replied clear a ∷ es) z days).0
        (λ y. cleared_sound start y a)

    -- several inputs are stored together, and then answered
    pub any_whole_rounds : (es : List (Event (List Act) (List Answer))) (z : Terminal) → Day (in_rounds (whole Gives)) start s es z end
        → AsRun (in_rounds (whole Gives)) start es z × (found (whole Gives) end ≡ z)
    unfolding found
    any_whole_rounds es z days =
        let m = in_rounds (whole Gives) in
        let keeps = rounds_keep (whole Gives) SizedTerminal whole_keeps in
        let r = day_restarts m SizedTerminal keeps start z s end es (power_on m SizedTerminal keeps s f) days in
        (restarts_run m (λ x. refl) start z es r.0, r.1.finds)

  -- ---- only the tables: a run in which nothing waits after a restart, and the tables of its end are in the store

  module _ (s end : List ℕ) (f : length s ≡ size_for tables_size) where
    abbrev started : Terminal
    started = found (tables_alone Gives) s

    abbrev Good : Terminal → Type 0
    Good x = SizedTables x.tables

    pub any_tables_run : (es : List (Event Act Answer)) (z : Terminal) → Day (tables_alone Gives) started s es z end
        → Restarts (tables_alone Gives) started es z × (found (tables_alone Gives) end ≡ nothing_waits z)
    any_tables_run es z days =
        let r = day_restarts (tables_alone Gives) Good tables_keep started z s end es (power_on (tables_alone Gives) Good tables_keep s f) days in
        (r.0, r.1.finds)

    pub any_tables_sound : (es : List (Event Act Answer)) (z : Terminal) → Day (tables_alone Gives) started s es z end
        → sound_terminal started ≡ true → sound_terminal z ≡ true
    any_tables_sound es z days = restarts_sound (tables_alone Gives) sound_after nothing_sound started z es (any_tables_run es z days).0

    pub any_tables_first : (a : Answer) (es : List (Event Act Answer)) (z : Terminal) → Day (tables_alone Gives) started s (replied clear a ∷ es) z end
        → sound_terminal z ≡ true
    any_tables_first a es z days =
        restarts_first (tables_alone Gives) sound_after nothing_sound started z clear a es (any_tables_run (replied clear a ∷ es) z days).0
        (λ y. cleared_sound started y a)

    -- several inputs are stored together, and then answered
    pub any_tables_rounds : (es : List (Event (List Act) (List Answer))) (z : Terminal) → Day (in_rounds (tables_alone Gives)) started s es z end
        → Restarts (in_rounds (tables_alone Gives)) started es z × (found (tables_alone Gives) end ≡ nothing_waits z)
    unfolding found
    any_tables_rounds es z days =
        let m = in_rounds (tables_alone Gives) in
        let keeps = rounds_keep (tables_alone Gives) Good tables_keep in
        let r = day_restarts m Good keeps started z s end es (power_on m Good keeps s f) days in
        (r.0, r.1.finds)

    pub any_tables_rounds_sound : (es : List (Event (List Act) (List Answer))) (z : Terminal) → Day (in_rounds (tables_alone Gives)) started s es z end
        → sound_terminal started ≡ true → sound_terminal z ≡ true
    any_tables_rounds_sound es z days =
        restarts_sound (in_rounds (tables_alone Gives)) (run_keeps (tables_alone Gives) (λ x. sound_terminal x ≡ true) sound_after) nothing_sound started z es
        (any_tables_rounds es z days).0
