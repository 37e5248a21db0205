-- The links by a caller that passed 1 to 7: each link goes through the checks after them, with no body and no buffer.
-- Of a record's caller they are the record's: proofs/OwnForm.antt.
use Rattle.std.specs.Prelude.{Bool, cond, [], ◌++◌}
use Rattle.std.specs.Int.Count.{ones}
use Rattle.rules.specs.declared.Tables.{Tables}
use Rattle.rules.specs.declared.Head.{Head}
use Rattle.rules.specs.declared.Header.{Header}
use Rattle.rules.specs.declared.Action.TheVariants.{Serve}
use Rattle.rules.specs.declared.Caller.{Caller}
use Rattle.rules.specs.declared.Links.{Links}
use Rattle.rules.specs.Directory.{resource_of, links}
use Rattle.rules.specs.Checks.{verdict, is_pass}
use Rattle.rules.specs.Promises.Groups.{request_checks, state_checks}
use Rattle.rules.specs.Promises.Decision.{decided_by}
use Rattle.rules.specs.Links.{set_of, asks_links}
use Rattle.rules.specs.Types.{Clock, Permission, ResourceNumber, ResourceSet}

-- the header with the resource n
abbrev pub link_header : Header → ResourceNumber → Header
link_header header n = record {
  verb = header.verb;
  connection = header.connection;
  resource = resource_of n;
  zeros = header.zeros;
  credential = header.credential;
  sender = header.sender;
}

-- the same caller, for the resource n
abbrev pub linked : Caller → ResourceNumber → Caller
linked caller n = record { header = link_header caller.header n; row = caller.row }

-- the link n passes with this permission: it asks to be served
unfoldable pub link_passes : Head → Header → Permission → ResourceNumber → Bool
link_passes head header p n = is_pass (verdict (request_checks p (link_header header n) Serve ++ state_checks head Serve))

-- the link n is permitted
unfoldable pub link_permitted : Clock → Tables → Caller → ResourceNumber → Bool
link_permitted clock t caller n = is_pass (decided_by clock t (linked caller n) [] 0).check

unfoldable pub permitted_set : Clock → Tables → Caller → ResourceSet
permitted_set clock t caller = cond (asks_links caller.header) (set_of (link_permitted clock t caller) links) 0

abbrev pub permitted_links : Clock → Tables → Caller → Links
permitted_links clock t caller = record { set = permitted_set clock t caller; size = ones (permitted_set clock t caller) }
