-- On a link of /yard, an application resource, only the access rows count.
-- It has no owners, and it is not roles, on which partners have rights.
use Rattle.rows.proofs.Prelude.{◌≡◌, refl, sym, ◌∙◌, false, List, ℕ, eqb, or_zero_r}
use Rattle.rows.specs.Rows.{Row, union_of}
use Rattle.rules.specs.declared.Resource.{Resource}
use Rattle.rules.specs.declared.Head.{Head}
use Rattle.rules.specs.Directory.{entry_of, roles, resource_of}
use Rattle.rules.specs.Permission.{grants, by_roles, effective_of}
use Rattle.permission_row.specs.ByLink.{by_link}
use Rattle.permission.proofs.Owners.{no_owners}

module _ (clock : ℕ) (h : Head) (rs : List Row) (w : Row) (connection : ℕ) where
  rows_alone : (e : Resource) → e.configuration ≡ false → eqb e.number roles ≡ false
      → union_of (grants clock w connection e) rs ≡ effective_of clock h rs w connection e
  unfolding by_roles
  rows_alone e plain other = sym (or_zero_r _) ∙ rw (← no_owners clock h rs w connection e (rw plain), other)

  pub links_alone : by_link (λ n. union_of (grants clock w connection (resource_of n)) rs) ≡ by_link (λ n. effective_of clock h rs w connection (resource_of n))
  unfolding by_link entry_of
  links_alone = rw (
    rows_alone (resource_of 8) refl refl,
    rows_alone (resource_of 9) refl refl,
    rows_alone (resource_of 10) refl refl,
    rows_alone (resource_of 11) refl refl,
    rows_alone (resource_of 12) refl refl,
    rows_alone (resource_of 13) refl refl,
    rows_alone (resource_of 14) refl refl,
  )
