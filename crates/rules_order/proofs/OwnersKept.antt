-- The row owners keep the length that the struct's type gives, whatever record is judged.
use Rattle.rows.proofs.Prelude.{◌≡◌, refl, List, ℕ, ◌≤◌, arith, length, length-append, length-drop, length-take, eqb, cond_cases}
use Rattle.rows.specs.Rows.{Row, with_row}
use Rattle.rules.specs.declared.Tables.{Tables}
use Rattle.rules.specs.declared.Table.TheVariants.{Creds, Aces}
use Rattle.rules.specs.declared.Action.{Action}
use Rattle.rules.specs.declared.Action.TheVariants.{Serve, Read, SetRowOwner, SetOwner, SetState, Store, Remove, Assert, Malformed}
use Rattle.rules.specs.Record.{Request}
use Rattle.rules.specs.Bodies.{target}
use Rattle.rules.specs.Tables.{empty}
use Rattle.rules.specs.Permission.{permission}
use Rattle.rules.specs.Action.{action}
use Rattle.rules.specs.Checks.{checks, verdict}
use Rattle.rules.specs.Defaults.{Defaults, fresh}
use Rattle.rules.specs.Outcome.{entered, effect, outcome, outcome_at, tables_after}
use Rattle.rules.proofs.BodyLaws.{Valid, action_valid}
use Rattle.rules.proofs.CheckLaws.{check_cases}

owners_put : (n : ℕ) (b owners : List ℕ) → length b ≡ 16 → n ≤ 3 → length owners ≡ 64 → length (with_row 16 n b owners) ≡ 64
unfolding with_row
owners_put n b owners l m e = simp (length-append, length-take, length-drop) (omega arith)

effect_owners : (d : Defaults) (clock : ℕ) (t : Tables) (w : Row) (c : ℕ) (b : List ℕ) (a : Action) → Valid c b a → length t.rowners ≡ 64
    → length (effect d clock t w b a).rowners ≡ 64
unfolding entered fresh empty
effect_owners d clock t w c b Serve v l = l
effect_owners d clock t w c b Read v l = l
effect_owners d clock t w c b (SetRowOwner n) v l = owners_put n b t.rowners v.0 v.1 l
effect_owners d clock t w c b (SetOwner owned) v l = l
effect_owners d clock t w c b (SetState target) v l = cond_cases (λ (x : Tables). length x.rowners ≡ 64) (eqb target 0) (λ _. refl) (λ _. l)
effect_owners d clock t w c b (Store Creds) v l = l
effect_owners d clock t w c b (Store Aces) v l = l
effect_owners d clock t w c b (Remove Creds key) v l = l
effect_owners d clock t w c b (Remove Aces key) v l = l
effect_owners d clock t w c b (Assert k) v l = l
effect_owners d clock t w c b Malformed v l = l

pub owners_kept : (d : Defaults) (t : Tables) (q : Request) → length t.rowners ≡ 64 → length (tables_after d t q).rowners ≡ 64
unfolding outcome outcome_at
owners_kept d t q l =
    check_cases (verdict (checks t (permission q.clock t q.bytes) q))
    (λ e. rw (e, tables_after) (effect_owners d q.clock t _ _ _ (action q.bytes) (action_valid q.bytes) l))
    (λ n e. rw (e, tables_after) l)
