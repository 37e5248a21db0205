-- Theorem: a record leaves the same seats exactly where it leaves as many credential rows as there were, unless it clears the tables.
-- One record never both adds and removes rows, so their number tells whether the queue is to be looked through.
use Rattle.rows.proofs.Prelude.{◌≡◌, refl, sym, ap, ap₂, ◌∙◌, Bool, true, false, List, [], ◌∷◌, map, ◌+◌, arith, length, take, length-map, eq-eqb}
use Rattle.rows.proofs.Prelude.{eqb-true, bool_cases, contradiction, and_left, and_right, and_both}
use Rattle.rows.specs.Rows.{Row, same, numbered_as, some, without, stored}
use Rattle.rows.proofs.Gap.{fewer_stay, none_goes}
use Rattle.rows.proofs.Kept.{same_true, same_refl, length_stored}
use Rattle.rules.specs.declared.Tables.{Tables}
use Rattle.rules.specs.declared.Table.TheVariants.{Creds, Aces}
use Rattle.rules.specs.declared.Action.{Action}
use Rattle.rules.specs.declared.Action.TheVariants.{Serve, Read, SetRowOwner, SetOwner, SetState, Store, Remove, Assert, Malformed}
use Rattle.rules.specs.Record.{Request, body}
use Rattle.rules.specs.Tables.{row_of, rows, with_rows, sound, SoundRows}
use Rattle.rules.specs.Defaults.{Defaults}
use Rattle.rules.specs.Action.{action}
use Rattle.rules.specs.Permission.{permission}
use Rattle.rules.specs.Checks.{checks, verdict}
use Rattle.rules.specs.Outcome.{outcome, outcome_at, effect_by, entered, response_to, tables_after}
use Rattle.rules.proofs.Answers.{rows_count}
use Rattle.rules.proofs.TableLaws.{rows_with}
use Rattle.rules.proofs.SoundKept.{Passed, passed_all, stored_sound, removed_sound, asserted_sound, sound_kept}
use Rattle.rules_terminal.specs.Slots.{Seat}
use Rattle.rules_terminal.specs.Round.{nobody, seats, same_seats, same_count}
use Rattle.rules_terminal.specs.Terminal.{is_reset, clears}
use Rattle.rules.proofs.CheckLaws.{check_cases}

-- ---- the test of seats

pub seats_are : (ps qs : List Seat) → same_seats ps qs ≡ true → ps ≡ qs
unfolding same_seats
seats_are [] [] e = refl
seats_are [] (q ∷ qs) e = contradiction e refl
seats_are (p ∷ ps) [] e = contradiction e refl
seats_are (p ∷ ps) (q ∷ qs) e =
    ap₂ (λ (a : Seat) (l : List Seat). a ∷ l) (same_true p q (and_left _ _ e)) (seats_are ps qs (and_right (same p q) _ e))

pub seats_again : (ps : List Seat) → same_seats ps ps ≡ true
unfolding same_seats
seats_again [] = refl
seats_again (p ∷ ps) = and_both (same p p) _ (same_refl p) (seats_again ps)

-- ---- rows stored and removed

-- a row that is replaced keeps its number
seats_stored : (new : Row) (ws : List Row) → some (numbered_as new) ws ≡ true → map (take 2) (stored new ws) ≡ map (take 2) ws
unfolding some stored numbered_as
seats_stored new [] h = contradiction h refl
seats_stored new (w ∷ ws) h =
    bool_cases (numbered_as new w) (λ e. rw (e, same_true (take 2 w) (take 2 new) e)) (λ e. rw (e, seats_stored new ws (rw e at h)))

as_many_stored : (new : Row) (ws : List Row) → length (stored new ws) ≡ length ws → map (take 2) (stored new ws) ≡ map (take 2) ws
as_many_stored new ws e =
    bool_cases (some (numbered_as new) ws) (seats_stored new ws)
    (λ f. let more : length (stored new ws) ≡ length ws + 1 = length_stored new ws ∙ rw f in absurd (omega arith))

as_many_without : (goes : Row → Bool) (ws : List Row) → length (without goes ws) ≡ length ws → without goes ws ≡ ws
as_many_without goes ws e = bool_cases (some goes ws) (λ f. absurd (omega (arith, fewer_stay goes ws f))) (none_goes goes ws)

-- ---- of the tables

-- tables with other credential rows, as many, that have the same numbers
seats_with : (t : Tables) (ws : List Row) → sound t ≡ true → SoundRows Creds ws
    → (length ws ≡ length (rows Creds t) → map (take 2) ws ≡ map (take 2) (rows Creds t))
    → same_count t (with_rows Creds t ws) ≡ true → seats (with_rows Creds t ws) ≡ seats t
unfolding seats same_count
seats_with t ws h x same e =
    rw (rows_with Creds t ws x.few x.stores)
    (ap (λ (ps : List Row). nobody ∷ ps) (same (sym (eqb-true t.ncreds (length ws) e) ∙ sym (rows_count Creds t h))))

effect_seats : (d : Defaults) (t : Tables) (q : Request) (a : Action) → sound t ≡ true → Passed t q a → is_reset a ≡ false
    → same_count t (effect_by d t q a) ≡ true → seats (effect_by d t q a) ≡ seats t
unfolding seats entered
effect_seats d t q Serve h x n e = refl
effect_seats d t q Read h x n e = refl
effect_seats d t q (SetRowOwner o) h x n e = refl
effect_seats d t q (SetOwner o) h x n e = refl
effect_seats d t q (SetState s) h x n e = rw n
effect_seats d t q (Store Creds) h x n e = seats_with t _ h (stored_sound Creds t q h x) (as_many_stored (row_of Creds (body q.bytes)) (rows Creds t)) e
effect_seats d t q (Store Aces) h x n e = refl
effect_seats d t q (Remove Creds key) h x n e = seats_with t _ h (removed_sound Creds t _ h) (λ l. ap (map (take 2)) (as_many_without _ (rows Creds t) l)) e
effect_seats d t q (Remove Aces key) h x n e = refl
effect_seats d t q (Assert c) h x n e = seats_with t _ h (asserted_sound c t q h x) (as_many_stored _ (rows Creds t)) e
effect_seats d t q Malformed h x n e = refl

-- of a record
pub seats_same : (d : Defaults) (t : Tables) (q : Request) → sound t ≡ true → clears d t q ≡ false → same_count t (tables_after d t q) ≡ true
    → seats (tables_after d t q) ≡ seats t
unfolding outcome outcome_at clears
seats_same d t q h n m =
    let p = permission q.clock t q.bytes in
    check_cases (verdict (checks t p q))
    (λ e. rw (e, tables_after) (effect_seats d t q (action q.bytes) h (passed_all t p q e) (rw (e, response_to) at n) (rw (e, tables_after) at m)))
    (λ k e. rw (e, tables_after))

-- and the other way round: where the seats are the same, there are as many rows
pub as_many : (t t' : Tables) → sound t ≡ true → sound t' ≡ true → seats t' ≡ seats t → same_count t t' ≡ true
unfolding same_count seats
as_many t t' h h' e =
    eq-eqb t.ncreds t'.ncreds
    (omega (arith, rows_count Creds t h, rows_count Creds t' h', length-map (rows Creds t) (take 2), length-map (rows Creds t') (take 2), ap length e))

-- so the number of rows tells whether one was added or removed
pub count_tells : (d : Defaults) (t : Tables) (q : Request) → sound t ≡ true → clears d t q ≡ false
    → same_seats (seats t) (seats (tables_after d t q)) ≡ same_count t (tables_after d t q)
count_tells d t q h c =
    let t' = tables_after d t q in
    bool_cases (same_count t t')
    (λ e. rw (e, seats_same d t q h c e) (seats_again (seats t)))
    (λ e. bool_cases (same_seats (seats t) (seats t'))
    (λ f. contradiction (as_many t t' h (sound_kept d t q h) (sym (seats_are (seats t) (seats t') f))) e)
    (λ f. f ∙ sym e))
