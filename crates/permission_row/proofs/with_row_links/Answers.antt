-- `with_row_links`: nothing more by a row that does not fit the sender or its period, else link by link.
use Rattle.rows.proofs.Prelude.{◌≡◌, sym, ap, ◌∙◌, arith, length, bit_or, rules}
use mathlib.Core.Path.{fun_ext}
use Rattle.rules.specs.Directory.{resource_of}
use Rattle.rules.proofs.BitLaws.{field_below}
use Rattle.permission_row.specs.ByLink.{by_link, of_link}
use Rattle.permission_row.proofs.ByLinkLaws.{unchanged, out_of_period, of_another, by_resource}
use Rattle.permission_row.proofs.with_row_links.Goals as goal

pub returns-then-not-in_force : goal.returns-then-not-in_force
returns-then-not-in_force c =
    let l : length c.args.total ≡ 7 = search rules in
    unchanged _ _ l (λ n. out_of_period _ _ _ _ _ (sym c.in_force.ensures ∙ c.if-not-in_force.true))

pub returns-then-not-subject_fits : goal.returns-then-not-subject_fits
returns-then-not-subject_fits c =
    let l : length c.args.total ≡ 7 = search rules in
    unchanged _ _ l (λ n. of_another _ _ _ _ _ (sym c.subject_fits.ensures ∙ c.if-not-subject_fits.true))

pub overflow_cast-p : goal.overflow_cast-p
overflow_cast-p c = omega (arith, field_below _ 18 5 8 _ (omega arith) c.permission-p.ensures)

pub returns : goal.returns
unfolding by_link
returns c =
    let total = c.args.total in
    rw (
      c.with_row.ensures,
      c.with_row-2.ensures,
      c.with_row-3.ensures,
      c.with_row-4.ensures,
      c.with_row-5.ensures,
      c.with_row-6.ensures,
      c.with_row-7.ensures,
      c.permission-p.ensures,
    )
    (ap by_link (fun_ext (λ n. ap (bit_or (of_link total n))
    (sym (by_resource _ _ _ _ (resource_of n)
    (sym c.subject_fits.ensures ∙ c.if-not-subject_fits.false)
    (sym c.in_force.ensures ∙ c.if-not-in_force.false))))))
