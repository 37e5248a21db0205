-- A day of any machine is one without a store, in which each input that was cut counts or is left out.
-- Where a restart loses nothing it is a run without power cuts.
use Rattle.rows.proofs.Prelude.{◌≡◌, refl, sym, ap, subst, ◌∙◌, true, List, [], ◌∷◌, ◌++◌, map, ℕ, length, contradiction}
use mathlib.Core.List.{flatten}
use mathlib.Core.Logic.{◌⊎◌, inl, inr, ⊎_elim}
use Rattle.rules_store.specs.declared.Step.TheVariants.{Done}
use Rattle.rules_store.specs.Store as store
use Rattle.rules_store.specs.Store.{size_for, current}
use Rattle.rules_store.specs.Cuts.{Attempt}
use Rattle.rules_store.proofs.Parts.{length_current}
use Rattle.rules_store.proofs.Steps.{done_current}
use Rattle.rules_store.proofs.Safe.{safe, safe_size}
use Rattle.rules_power.specs.Day as day
use Rattle.rules_power.specs.Day.{Machine, Event, found, Day, Restarts, Run, AsRun, Kept, in_rounds, Keeps, all_answered, event_of}

module _ {State Input Answer : Type 0} (m : Machine State Input Answer) (Good : State → Type 0) (k : Keeps m Good) where
  -- when the power comes on
  pub power_on : (s : List ℕ) → length s ≡ size_for m.size → Kept m Good (found m s) s
  unfolding found
  power_on s f = record {
    fits = f;
    good = k.loads (current m.size s) (length_current m.size s f);
    finds = sym (k.rests (current m.size s));
  }

  -- ---- an input

  module _ (x y : State) (s t : List ℕ) (i : Input) (a : Answer) (h : Kept m Good x s) (g : m.Gives x i a y) (w : Attempt (m.image y) s t) where
    good_after : Good y
    good_after = k.goes_on x y i a g h.good

    image_size : length (m.image y) ≡ m.size
    image_size = k.sized y good_after

    fits_after : length t ≡ size_for m.size
    fits_after = safe_size (m.image y) s t w ∙ h.fits

    new : current m.size t ≡ m.image y → Kept m Good y t
    unfolding found
    new e = record { fits = fits_after; good = good_after; finds = ap m.load e ∙ k.back y good_after }

    old : current m.size t ≡ current m.size s → Kept m Good x t
    unfolding found
    old e = record { fits = fits_after; good = h.good; finds = ap m.load e ∙ h.finds }

    -- a program goes on with the state at hand
    pub after_done : (from : ℕ) → store.next t (m.image y) from ≡ Done → Kept m Good y t
    after_done from e = new (rw (← image_size) (done_current t (m.image y) from e))

    pub after_cut : Kept m Good x t ⊎ Kept m Good y t
    after_cut =
        let one = rw image_size at (safe (m.image y) s t w) in ⊎_elim (λ e. inl (old e)) (λ e. inr (new e)) one

  -- ---- a day

  abbrev Result : State → List (Event Input Answer) → State → List ℕ → Type 0
  Result x es z end = Restarts m x es z × Kept m Good z end

  pub day_restarts : (x z : State) (s end : List ℕ) (es : List (Event Input Answer)) → Kept m Good x s → Day m x s es z end → Result x es z end
  day_restarts x z s end es h day.ends = (day.ends, h)
  day_restarts x z s end es h (day.answers {y = y} {t = t} {es = more} i a g w from e rest) =
      let r = day_restarts y z t end more (after_done x y s t i a h g w from e) rest in (day.answers i a g r.0, r.1)
  day_restarts x z s end es h (day.cuts {y = y} {t = t} {es = more} i a g w rest) =
      ⊎_elim
      (λ (h' : Kept m Good x t).
      let r = day_restarts (found m t) z t end more (power_on t h'.fits) rest in
      (day.leaves_out i (subst (λ (v : State). Restarts m v more z) h'.finds r.0), r.1))
      (λ (h' : Kept m Good y t).
      let r = day_restarts (found m t) z t end more (power_on t h'.fits) rest in
      (day.counts i a g (subst (λ (v : State). Restarts m v more z) h'.finds r.0), r.1))
      (after_cut x y s t i a h g w)
  day_restarts x z s end es h (day.idles {es = more} rest) =
      let r = day_restarts (found m s) z s end more (power_on s h.fits) rest in
      (day.idles (subst (λ (v : State). Restarts m v more z) h.finds r.0), r.1)

-- ---- several inputs are stored together

module _ {State Input Answer : Type 0} (m : Machine State Input Answer) where
  -- what each input keeps, a run keeps
  module _ (Good : State → Type 0) (each : (x y : State) (i : Input) (a : Answer) → m.Gives x i a y → Good x → Good y) where
    pub run_keeps : (x z : State) (is : List Input) (bs : List Answer) → Run m x is bs z → Good x → Good z
    run_keeps x z is bs day.none h = h
    run_keeps x z is bs (day.more {y = y} {is = is'} {bs = bs'} i a g rest) h = run_keeps y z is' bs' rest (each x y i a g h)

  pub rounds_keep : (Good : State → Type 0) → Keeps m Good → Keeps (in_rounds m) Good
  rounds_keep Good k =
      record { loads = k.loads; goes_on = run_keeps Good k.goes_on; sized = k.sized; back = k.back; rests = k.rests }

  joined : (x y z : State) (is js : List Input) (bs cs : List Answer) → Run m x is bs y → Run m y js cs z → Run m x (is ++ js) (bs ++ cs) z
  joined x y z is js bs cs day.none r = r
  joined x y z is js bs cs (day.more {y = v} {is = is'} {bs = bs'} i a g rest) r = day.more i a g (joined v y z is' js bs' cs rest r)

  -- a run of rounds is the run of all their inputs
  pub rounds_run : (x z : State) (rounds : List (List Input)) (rs : List (List Answer)) → Run (in_rounds m) x rounds rs z
      → Run m x (flatten rounds) (flatten rs) z
  unfolding flatten
  rounds_run x z rounds rs day.none = day.none
  rounds_run x z rounds rs (day.more {y = y} {is = later} {bs = bs} is cs g rest) =
      joined x y z is (flatten later) cs (flatten bs) g (rounds_run y z later bs rest)

-- ---- a stretch in which every input is answered

module _ {State Input Answer : Type 0} (m : Machine State Input Answer) where
  pub stretch_run : (x z : State) (es : List (Event Input Answer)) → Restarts m x es z → all_answered es ≡ true → AsRun m x es z
  stretch_run x z es day.ends h = record { inputs = []; replies = []; run = day.none; seen = day.none }
  stretch_run x z es (day.answers {y = y} {es = more} i a g rest) h =
      let r = stretch_run y z more rest h in
      record { inputs = i ∷ r.inputs; replies = a ∷ r.replies; run = day.more i a g r.run; seen = day.transition i a r.seen }
  stretch_run x z es (day.counts i a g rest) h = contradiction h refl
  stretch_run x z es (day.leaves_out i rest) h = contradiction h refl
  stretch_run x z es (day.idles rest) h = contradiction h refl

-- ---- where a restart loses nothing

module _ {State Input Answer : Type 0} (m : Machine State Input Answer) (same : (x : State) → m.restart x ≡ x) where
  pub restarts_run : (x z : State) (es : List (Event Input Answer)) → Restarts m x es z → AsRun m x es z
  restarts_run x z es day.ends = record { inputs = []; replies = []; run = day.none; seen = day.none }
  restarts_run x z es (day.answers {y = y} {es = more} i a g rest) =
      let r = restarts_run y z more rest in
      record { inputs = i ∷ r.inputs; replies = a ∷ r.replies; run = day.more i a g r.run; seen = day.transition i a r.seen }
  restarts_run x z es (day.counts {y = y} {es = more} i a g rest) =
      let r = subst (λ (v : State). AsRun m v more z) (same y) (restarts_run (m.restart y) z more rest) in
      record { inputs = i ∷ r.inputs; replies = a ∷ r.replies; run = day.more i a g r.run; seen = day.counted i a r.seen }
  restarts_run x z es (day.leaves_out {es = more} i rest) =
      let r = subst (λ (v : State). AsRun m v more z) (same x) (restarts_run (m.restart x) z more rest) in
      record { inputs = r.inputs; replies = r.replies; run = r.run; seen = day.left_out i r.seen }
  restarts_run x z es (day.idles {es = more} rest) =
      let r = subst (λ (v : State). AsRun m v more z) (same x) (restarts_run (m.restart x) z more rest) in
      record { inputs = r.inputs; replies = r.replies; run = r.run; seen = day.unseen r.seen }

-- ---- two machines that differ only in what is answered

module _ {State Input Answer : Type 0} (m : Machine State Input Answer) {Other : Type 0} (Gives : State → Input → Other → State → Type 0)
    (f : Input → Answer → Other) (gives : (x y : State) (i : Input) (a : Answer) → m.Gives x i a y → Gives x i (f i a) y) where
  abbrev other : Machine State Input Other
  other = record { Gives = Gives; size = m.size; image = m.image; load = m.load; restart = m.restart }

  -- a day of the one is a day of the other
  pub day_mapped : (x z : State) (s end : List ℕ) (es : List (Event Input Answer)) → Day m x s es z end → Day other x s (map (event_of f) es) z end
  unfolding found
  day_mapped x z s end es day.ends = day.ends
  day_mapped x z s end es (day.answers {y = y} {t = t} {es = more} i a g w from e rest) =
      day.answers i (f i a) (gives x y i a g) w from e (day_mapped y z t end more rest)
  day_mapped x z s end es (day.cuts {y = y} {t = t} {es = more} i a g w rest) =
      day.cuts i (f i a) (gives x y i a g) w (day_mapped (found m t) z t end more rest)
  day_mapped x z s end es (day.idles {es = more} rest) = day.idles (day_mapped (found m s) z s end more rest)
