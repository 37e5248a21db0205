-- Device states, targets and verbs, read: the table of writes, the moves, and what a verb needs and is offered are the same.
use Rattle.rows.proofs.Prelude.{◌≡◌, refl, true, false, not, ◌&&◌, ◌||◌, ℕ, zero, suc, ◌≤◌, arith, eqb, ltb, ne_eqb, ◌<◌, lt-ltb}
use Rattle.rules.specs.States.{write_allowed, move_listed}
use Rattle.rules.specs.Permission.{needed_bit}
use Rattle.rules.specs.Checks.{offered}
use Rattle.rules_typed.specs.Lists.{Maybe, none, just, any, is_none}
use Rattle.rules_typed.specs.Types.{Uuid, RFNOP, Verb, Create, Retrieve, Update, Delete, Observe, SecurityResource, Doxm, Pstat, Cred, Acl2, Roles}
use Rattle.rules_typed.specs.Types.{Security}
use Rattle.rules_typed.specs.States.{owned, may_move, state_number, allowed, is_state}
use Rattle.rules_typed.specs.Checks.{needs, offers, offers_delete}
use Rattle.rules_typed.specs.Reading.{verb_of, state_of, target_of}
use Rattle.rules_typed.specs.Directory.{security_number}

-- of a number to 4
pub to_four : (P : ℕ → Type 0) → P 0 → P 1 → P 2 → P 3 → P 4 → (n : ℕ) → n ≤ 4 → P n
to_four P a b c d e zero h = a
to_four P a b c d e (suc zero) h = b
to_four P a b c d e (suc (suc zero)) h = c
to_four P a b c d e (suc (suc (suc zero))) h = d
to_four P a b c d e (suc (suc (suc (suc zero)))) h = e
to_four P a b c d e (suc (suc (suc (suc (suc n))))) h = absurd (omega arith)

-- a state that is kept
pub record IsState (s : ℕ) : Type 0 where
  pub low : 1 ≤ s
  pub high : s ≤ 4

pub of_state : (P : ℕ → Type 0) → P 1 → P 2 → P 3 → P 4 → (s : ℕ) → IsState s → P s
of_state P b c d e zero h = absurd (omega (arith, h.low))
of_state P b c d e (suc n) h = to_four (λ k. 1 ≤ k → P k) (λ l. absurd (omega arith)) (λ _. b) (λ _. c) (λ _. d) (λ _. e) (suc n) h.high h.low

pub state_back : (s : ℕ) → IsState s → state_number (state_of s) ≡ s
unfolding state_of
state_back s h = of_state (λ s. state_number (state_of s) ≡ s) refl refl refl refl s h

pub serves_read : (s : ℕ) → IsState s → is_state (state_of s) RFNOP ≡ eqb s 3
unfolding state_of is_state
serves_read s h = of_state (λ s. is_state (state_of s) RFNOP ≡ eqb s 3) refl refl refl refl s h

pub owners_read : (s : ℕ) → IsState s → (allowed (state_of s)).row_owners ≡ write_allowed s 1
unfolding state_of write_allowed
owners_read s h = of_state (λ s. (allowed (state_of s)).row_owners ≡ write_allowed s 1) refl refl refl refl s h

pub rows_read : (s : ℕ) → IsState s → (allowed (state_of s)).rows ≡ write_allowed s 2
unfolding state_of write_allowed
rows_read s h = of_state (λ s. (allowed (state_of s)).rows ≡ write_allowed s 2) refl refl refl refl s h

pub target_read : (s : ℕ) → IsState s → (allowed (state_of s)).target ≡ write_allowed s 3
unfolding state_of write_allowed
target_read s h = of_state (λ s. (allowed (state_of s)).target ≡ write_allowed s 3) refl refl refl refl s h

pub owner_read : (s : ℕ) (o : Maybe Uuid) → IsState s → (allowed (state_of s)).doxm o ≡ (write_allowed s 0 && (not (eqb s 4) || owned o))
unfolding state_of write_allowed
owner_read s o h = of_state (λ s. (allowed (state_of s)).doxm o ≡ (write_allowed s 0 && (not (eqb s 4) || owned o))) refl refl refl refl s h

pub move_read : (s target : ℕ) (o : Maybe Uuid) → IsState s → target ≤ 4 → may_move (state_of s) o (target_of target) ≡ move_listed s (owned o) target
unfolding state_of target_of move_listed any is_state
move_read s target o h l =
    of_state (λ s. may_move (state_of s) o (target_of target) ≡ move_listed s (owned o) target)
    (first o) (to_four (At 2) refl refl refl refl refl target l) (to_four (At 3) refl refl refl refl refl target l)
    (to_four (At 4) refl refl refl refl refl target l) s h
  where
    At : ℕ → ℕ → Type 0
    At s n = may_move (state_of s) o (target_of n) ≡ move_listed s (owned o) n

    first : (u : Maybe Uuid) → may_move (state_of 1) u (target_of target) ≡ move_listed 1 (owned u) target
    first none = to_four (λ n. may_move (state_of 1) none (target_of n) ≡ move_listed 1 false n) refl refl refl refl refl target l
    first (just x) = to_four (λ n. may_move (state_of 1) (just x) (target_of n) ≡ move_listed 1 true n) refl refl refl refl refl target l

-- ---- verbs

abbrev pub verb_number : Verb → ℕ
verb_number Create = 0
verb_number Retrieve = 1
verb_number Update = 2
verb_number Delete = 3
verb_number Observe = 4

-- a number to 4 is a verb's
pub record IsVerb (v : ℕ) : Type 0 where
  pub verb : Verb
  pub read : verb_of v ≡ just verb
  pub number : v ≡ verb_number verb

pub is_verb : (v : ℕ) → v ≤ 4 → IsVerb v
unfolding verb_of
is_verb v h =
    to_four IsVerb
    (record { verb = Create; read = refl; number = refl })
    (record { verb = Retrieve; read = refl; number = refl })
    (record { verb = Update; read = refl; number = refl })
    (record { verb = Delete; read = refl; number = refl })
    (record { verb = Observe; read = refl; number = refl })
    v h

-- any other is none
past : (k n : ℕ) → k < n → eqb n k ≡ false
past k n h = ne_eqb n k (λ e. absurd (omega (arith, e)))

more : (v : ℕ) → 4 < v → is_none (verb_of v) ≡ ltb 4 v
unfolding verb_of
more v h = rw (past 0 v (omega arith), past 1 v (omega arith), past 2 v (omega arith), past 3 v (omega arith), past 4 v h, lt-ltb 4 v h)

pub no_verb_read : (v : ℕ) → is_none (verb_of v) ≡ ltb 4 v
unfolding verb_of
no_verb_read zero = refl
no_verb_read (suc zero) = refl
no_verb_read (suc (suc zero)) = refl
no_verb_read (suc (suc (suc zero))) = refl
no_verb_read (suc (suc (suc (suc zero)))) = refl
no_verb_read (suc (suc (suc (suc (suc n))))) = more (suc (suc (suc (suc (suc n))))) (omega arith)

pub needs_read : (v : Verb) → needs v ≡ needed_bit (verb_number v)
needs_read Create = refl
needs_read Retrieve = refl
needs_read Update = refl
needs_read Delete = refl
needs_read Observe = refl

offers_delete_lem : (s : SecurityResource) → offers_delete s ≡ offered 3 (security_number s)
unfolding offered
offers_delete_lem Doxm = refl
offers_delete_lem Pstat = refl
offers_delete_lem Cred = refl
offers_delete_lem Acl2 = refl
offers_delete_lem Roles = refl

pub offers_read : (s : SecurityResource) (v : Verb) → offers (Security s) v ≡ offered (verb_number v) (security_number s)
unfolding offered
offers_read s Create = refl
offers_read s Retrieve = refl
offers_read s Update = refl
offers_read s Delete = offers_delete_lem s
offers_read s Observe = refl
