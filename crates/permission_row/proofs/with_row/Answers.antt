-- `with_row`: by the test of the resource.
use Rattle.rows.proofs.Prelude.{sym, ap, ◌∙◌}
use Rattle.rules.specs.declared.Resource.{Resource}
use Rattle.rules.specs.Permission.{resource_fits}
use Rattle.permission_row.proofs.ByLinkLaws.{kept}
use Rattle.permission_row.proofs.with_row.Goals as goal

pub returns-then-resource_fits : goal.returns-then-resource_fits
returns-then-resource_fits c = rw ((sym (c.resource_fits.ensures ∙ ap (λ (e : Resource). resource_fits e c.args.ace.now) c.resource_row.ensures)) ∙ c.if-resource_fits.true)

pub returns-else-resource_fits : goal.returns-else-resource_fits
returns-else-resource_fits c = kept _ _ _ ((sym (c.resource_fits.ensures ∙ ap (λ (e : Resource). resource_fits e c.args.ace.now) c.resource_row.ensures)) ∙ c.if-resource_fits.false)
