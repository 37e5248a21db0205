-- Reading the tables back (U1): what a permitted RETRIEVE of a security resource replies.
-- Rows are written in the form of their bodies (Writing), so the reply of cred does not show asserted roles.
use Rattle.std.specs.Prelude.{List, []}
use Rattle.rules_typed.specs.Lists.{Maybe, none, just}
use Rattle.rules_typed.specs.Types.{Clock, SecurityResource, Doxm, Pstat, Cred, Acl2, Roles, Resource, Security, Application, Verb, Create, Retrieve}
use Rattle.rules_typed.specs.Types.{Update, Delete, Observe, Asserted, Credential, Tables, Caller, Reply, NoReply, OwnerReply, StateReply}
use Rattle.rules_typed.specs.Types.{CredentialReply, AccessReply, RoleReply}
use Rattle.rules_typed.specs.Permission.{roles_in_force, row_owner}

-- the sender's own roles in force; connection 0 gets an empty reply (U11)
abbrev pub own_roles : Clock → Maybe Credential → List Asserted
own_roles clock none = []
own_roles clock (just c) = roles_in_force clock c

-- the body of doxm, and of pstat with the present state as target; then the row owner; of cred and acl2 all rows
abbrev pub contents : Clock → Tables → Caller → SecurityResource → Reply
contents clock t who Doxm = OwnerReply t.owner (row_owner t Doxm)
contents clock t who Pstat = StateReply t.state (row_owner t Pstat)
contents clock t who Cred = CredentialReply (row_owner t Cred) t.credentials
contents clock t who Acl2 = AccessReply (row_owner t Acl2) t.accesses
contents clock t who Roles = RoleReply (own_roles clock who.credential)

abbrev pub retrieved : Clock → Tables → Caller → Resource → Reply
retrieved clock t who (Security s) = contents clock t who s
retrieved clock t who (Application a) = NoReply

-- every other record has none
abbrev pub reply_to : Clock → Tables → Caller → Verb → Resource → Reply
reply_to clock t who Create e = NoReply
reply_to clock t who Retrieve e = retrieved clock t who e
reply_to clock t who Update e = NoReply
reply_to clock t who Delete e = NoReply
reply_to clock t who Observe e = NoReply
