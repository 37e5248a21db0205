-- `cred_row`: twenty bytes over zeros, and the last byte two places later.
use Rattle.rows.proofs.Prelude.{◌≡◌, sym, ap, ◌∙◌, List, [], ◌∷◌, ◌++◌, append_assoc, ℕ, ◌≤◌, arith, length, take, drop, get_or, set, replicate}
use Rattle.rows.proofs.Prelude.{drop_of_length-le, length-append, drop-cons, length-take-le}
use lib.Seq.{set_at}
use Rattle.rules.specs.Bodies.{cred_row_of}
use Rattle.row_body.proofs.cred_row.Goals as goal

pub returns-in-21 : goal.returns-in-21
unfolding cred_row_of
returns-in-21 c =
    let b = c.args.b.now in
    let front = take 20 b ++ (0 ∷ 0 ∷ []) in
    let none : List ℕ = replicate 16 0 in
    let long : length front ≡ 22 = rw (length-append, length-take-le 20 b (omega arith)) in
    let short : length b ≤ 21 = omega arith in
    let last : drop 20 b ≡ get_or b 20 0 ∷ [] = drop-cons b 20 0 (omega arith) ∙ ap (λ (r : List ℕ). get_or b 20 0 ∷ r) (drop_of_length-le b short) in
    rw (c.copy_bytes-in-21.ensures, c.in-21.is, last)
    (ap (λ (r : List ℕ). set r 22 (get_or b 20 0)) (sym (append_assoc (take 20 b) (0 ∷ 0 ∷ []) (0 ∷ none)))
    ∙ set_at front 0 none (get_or b 20 0) 22 long
    ∙ append_assoc (take 20 b) (0 ∷ 0 ∷ []) (get_or b 20 0 ∷ none)
    ∙ sym (append_assoc (take 20 b) (0 ∷ 0 ∷ get_or b 20 0 ∷ []) none))
