-- `mismatch_from`: the search finds the first offset at which the bytes differ.
use Rattle.rows.proofs.Prelude.{◌≡◌, get_or, rules}
use Rattle.std.proofs.lemmas.Iterator.{first_from_Range}
use Rattle.store.proofs.Offsets.{found}
use Rattle.store.proofs.mismatch_from.Goals as goal

pub returns : goal.returns
returns c =
    let old = c.args.old.now in
    let new = c.args.new.now in
    found old new c.requires _ _
    (first_from_Range _ _ _ _ (λ i. get_or old i 0 ≡ get_or new i 0 → ⊥) (λ i. get_or old i 0 ≡ get_or new i 0)
    c.find.ensures.ran (λ x q k. search rules) (λ x q k. search rules))
