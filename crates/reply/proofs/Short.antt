-- A reply is short, so that its length is a number of bytes that an empty buffer measures.
use Rattle.rows.proofs.Prelude.{◌≡◌, refl, List, [], ◌∷◌, map, ℕ, ◌*◌, ◌≤◌, min, arith, length, length-append, length-take, eqb, cond_cases}
use Rattle.rows.specs.Rows.{Row, joined}
use Rattle.rows.proofs.Laws.{length_rows_of}
use Rattle.rules.specs.declared.Tables.{Tables}
use Rattle.rules.specs.declared.Table.TheVariants.{Creds, Aces}
use Rattle.rules.specs.declared.Head.{Head}
use Rattle.rules.specs.declared.Header.{Header}
use Rattle.rules.specs.Directory.{doxm, pstat, cred, acl2, roles}
use Rattle.rules.specs.Roles.{body_of}
use Rattle.rules.specs.Tables.{head_of, rows_in, row_owner, table_size}
use Rattle.rules.specs.Reading.{own_body, row_bytes, contents, reads, reply_to}
use Rattle.rules.specs.Sizes.{cred_body_size, cred_row_size}
use Rattle.rules.proofs.RoleLaws.{in_force_short}
use Rattle.reply.proofs.RowBytes.{row_part}

abbrev Short : ℕ → List ℕ → Type 0
Short n l = length l ≤ n

own_short : (h : Head) (n : ℕ) → length h.devowner ≡ 16 → Short 17 (own_body h n)
unfolding own_body
own_short h n e =
    cond_cases (Short 17) (eqb n doxm) (λ _. omega (arith, e)) (λ _. cond_cases (Short 17) (eqb n pstat) (λ _. omega arith) (λ _. omega arith))

bodies_short : (ws : List Row) → Short (length ws * cred_body_size) (joined (map body_of ws))
unfolding joined
bodies_short [] = omega arith
bodies_short (w ∷ ws) = rw (length-append, length-take) (omega (arith, bodies_short ws))

rows_short : (clock : ℕ) (t : Tables) (w : Row) (n : ℕ) → Short (table_size Aces) (row_bytes clock t w n)
unfolding row_bytes rows_in
rows_short clock t w n =
    let held = length_rows_of cred_row_size (min t.ncreds 24) t.creds in
    cond_cases (Short (table_size Aces)) (eqb n cred)
    (λ _. omega (arith, held, bodies_short (rows_in Creds t.ncreds t.creds)))
    (λ _. cond_cases (Short (table_size Aces)) (eqb n acl2)
    (λ _. rw (← row_part t.naces _ t.aces _ refl refl, length-take) (omega arith))
    (λ _. cond_cases (Short (table_size Aces)) (eqb n roles) (λ _. omega (arith, in_force_short clock w)) (λ _. omega arith)))

pub reply_short : (clock : ℕ) (t : Tables) (w : Row) (h : Header) → length t.devowner ≡ 16 → Short 1185 (reply_to clock t w h)
unfolding reply_to contents row_owner
reply_short clock t w h o =
    let n = h.resource.number in
    cond_cases (Short 1185) (reads h)
    (λ _. rw (length-append, length-append, length-take) (omega (arith, own_short (head_of t) n o, rows_short clock t w n))) (λ _. omega arith)
