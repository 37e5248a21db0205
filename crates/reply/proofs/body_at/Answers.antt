-- `body_at`: the body fills the array.
use Rattle.rows.proofs.Prelude.{◌≡◌, ◌∙◌, List, ℕ, arith, length, length-take-le, replicate, append-nil}
use Rattle.text.proofs.Buffers.{written_start}
use Rattle.text.specs.Buffer.{written}
use Rattle.rules.specs.Sizes.{cred_body_size}
use Rattle.reply.proofs.body_at.Goals as goal

-- a text as long as the buffer
fills : (s : List ℕ) → length s ≡ cred_body_size → written (replicate cred_body_size 0) 0 s ≡ s
fills s l = written_start (replicate cred_body_size 0) s (rw l (omega arith)) ∙ rw l (append-nil s)

pub returns : goal.returns
returns c =
    c.put.ensures.buffer ∙ rw c.part.ensures (fills _ (length-take-le cred_body_size c.args.row.now (omega (arith, c.requires))))
