-- Theorem: the offset and the length that C gets are those of the outcome's payload within the record.
use Rattle.rows.proofs.Prelude.{◌≡◌, refl, ◌∙◌, List, ℕ, zero, suc, arith, length, ne_eqb}
use Rattle.rules.specs.Record.{Request, received}
use Rattle.rules.specs.Defaults.{Defaults}
use Rattle.rules.specs.Checks.{verdict}
use Rattle.rules.specs.Promises.Results.{payload_part}
use Rattle.rules.proofs.CheckLaws.{check_cases}
use Rattle.rules.proofs.Refusals.{payload_is}
use Rattle.rules_terminal.specs.Terminal.{Terminal, take_checks, due, taken, direct_checks, judged}
use Rattle.rules_interface.specs.Interface.{offset_of, words_of}
use Rattle.rules_interface.specs.CallRun.{part_at, payload_in}

-- a payload is after the header, and none has no place
pub part_found : (n : ℕ) (r : List ℕ) → part_at (offset_of n) n r ≡ payload_part n r
unfolding offset_of
part_found zero r = refl
part_found (suc n) r = rw (ne_eqb (suc n) 0 (λ z. omega arith))

-- ---- of a record judged directly, and of a record taken in the bytes that are given out

judged_payload : (d : Defaults) (x : Terminal) (q : Request)
    → payload_part (length (judged d x q).response.payload) q.bytes ≡ (judged d x q).response.payload
unfolding judged
judged_payload d x q = check_cases (verdict (direct_checks x)) (λ e. rw e (payload_is d x.tables q)) (λ n e. rw e)

taken_payload : (d : Defaults) (x : Terminal) (clock capacity : ℕ)
    → let a = taken d x clock capacity in payload_part (length a.response.payload) a.bytes ≡ a.response.payload
unfolding taken
taken_payload d x clock capacity = check_cases (verdict (take_checks x)) (λ e. rw e (payload_is d x.tables (received clock (due x) capacity))) (λ n e. rw e)

pub payload_found : (d : Defaults) (x : Terminal) (q : Request) → payload_in (words_of (judged d x q)) q.bytes ≡ (judged d x q).response.payload
payload_found d x q = part_found (length (judged d x q).response.payload) q.bytes ∙ judged_payload d x q

pub payload_taken : (d : Defaults) (x : Terminal) (clock capacity : ℕ)
    → payload_in (words_of (taken d x clock capacity)) (taken d x clock capacity).bytes ≡ (taken d x clock capacity).response.payload
payload_taken d x clock capacity =
    let a = taken d x clock capacity in part_found (length a.response.payload) a.bytes ∙ taken_payload d x clock capacity
