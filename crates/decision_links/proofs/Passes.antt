-- A link asks to be served: no check after 12 applies to it, so it is permitted where it passes those before with its permission.
-- The permissions of all links together are the permission of each.
use Rattle.rows.proofs.Prelude.{◌≡◌, sym, ap, ◌∙◌, false, and-false, List, [], ℕ}
use Rattle.rows.specs.Rows.{Row}
use Rattle.rules.specs.declared.Tables.{Tables}
use Rattle.rules.specs.declared.Table.TheVariants.{Aces}
use Rattle.rules.specs.declared.Caller.{Caller}
use Rattle.rules.specs.declared.Action.TheVariants.{Serve}
use Rattle.rules.specs.Directory.{resource_of, is_security, links}
use Rattle.rules.specs.Tables.{head_of, rows}
use Rattle.rules.specs.Permission.{connection_of, effective_of, permission_of}
use Rattle.rules.specs.Action.{action_of}
use Rattle.rules.specs.Reading.{reads, reply_to, too_short}
use Rattle.rules.specs.Checks.{verdict, is_pass}
use Rattle.rules.specs.Promises.Callers.{caller_row}
use Rattle.rules.specs.Links.{set_of}
use Rattle.permission_row.specs.ByLink.{by_link, of_link}
use Rattle.decision.proofs.Laws.{check_later}
use Rattle.decision_links.specs.Linked.{link_header, linked, link_passes, link_permitted}
use Rattle.decision_links.proofs.Halves.{link_plain, set_same}

module _ (clock : ℕ) (t : Tables) (k : Caller) where
  abbrev allowed : ℕ → ℕ
  allowed n = permission_of clock (head_of t) (rows Aces t) (caller_row t k) (link_header k.header n)

  module _ (n : ℕ) (plain : is_security n ≡ false) where
    serves : action_of (link_header k.header n) [] ≡ Serve
    unfolding action_of
    serves = rw (plain)

    no_reply : reply_to clock t (caller_row t k) (link_header k.header n) ≡ []
    unfolding reply_to reads
    no_reply = rw (plain, and-false)

    passes_decided : link_passes (head_of t) k.header (allowed n) n ≡ link_permitted clock t k n
    unfolding link_passes link_permitted verdict too_short
    passes_decided = sym (ap is_pass (check_later clock t (linked k n) [] 0) ∙ rw (serves, no_reply))

  pub set_is : (w : Row) (connection : ℕ) (ps : List ℕ) → w ≡ caller_row t k → connection ≡ connection_of k.header.sender
      → ps ≡ by_link (λ n. effective_of clock (head_of t) (rows Aces t) w connection (resource_of n))
      → set_of (λ n. link_passes (head_of t) k.header (of_link ps n) n) links ≡ set_of (link_permitted clock t k) links
  unfolding by_link set_of permission_of
  set_is w connection ps ew ec ep =
      rw (ep, ew, ec)
      (set_same (λ n. link_passes (head_of t) k.header (allowed n) n) (link_permitted clock t k) (λ n low high. passes_decided n (link_plain n low high)))
