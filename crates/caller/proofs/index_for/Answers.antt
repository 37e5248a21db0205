-- `index_for`: an unauthenticated sender has no row, and a partner's is the one with its number.
use Rattle.rows.proofs.Prelude.{◌≡◌, ℕ, ◌<◌, ◌^◌, ◌∙◌, arith, rules}
use Rattle.std.specs.Int.{w16, to_be_bytes}
use Rattle.rules.specs.Bits.{be16}
use Rattle.caller.proofs.index_for.Goals as goal

key : (n : ℕ) → n < 2 ^ 16 → to_be_bytes w16 n ≡ be16 n
unfolding be16
key n fits = grind arith

pub returns : goal.returns
returns c =
    let fits : c.in-Partner.n < 2 ^ 16 = search rules in
    let is : c.to_be_bytes-key.result ≡ be16 c.in-Partner.n = c.to_be_bytes-key.ensures ∙ key _ fits in
    rw c.in-Partner.is (rw is at (rw c.cred_rows.ensures at c.find.ensures))
