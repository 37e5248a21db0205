-- What the code's definitions say of an action, with its body, as a typed action.
use Rattle.rows.proofs.Prelude.{List, [], ◌∷◌, ℕ}
use Rattle.rules.specs.declared.Table.TheVariants.{Creds, Aces}
use Rattle.rules.specs.declared.Key.TheVariants.{All as AllKey, Number, Subject}
use Rattle.rules.specs.declared.Action.{Action as ByteAction}
use Rattle.rules.specs.declared.Action.TheVariants.{Serve as Served, Read as ReadOnly, SetRowOwner as RowOwnerSet, SetOwner as OwnerSet, SetState, Store}
use Rattle.rules.specs.declared.Action.TheVariants.{Remove, Assert, Malformed}
use Rattle.rules.specs.Lookup.{lookup}
use Rattle.rules.specs.Bodies.{new_owner, row_number}
use Rattle.rules.specs.Tables.{row_of}
use Rattle.rules_typed.specs.Lists.{Maybe, none, just}
use Rattle.rules_typed.specs.Types.{SecurityResource, Doxm, Pstat, Cred, Acl2, All, Numbered, Action, Serve, Read, SetRowOwner, SetOwner, Move}
use Rattle.rules_typed.specs.Types.{StoreCredential, StoreAccess, DeleteCredentials, DeleteSubject, DeleteAccesses, AssertRole}
use Rattle.rules_typed.specs.Reading.{owner_of, target_of, asserted_of, credential_as, access_of}

-- the four that have a row owner
unfoldable pub owned_by : ℕ → SecurityResource
owned_by n = lookup n ((0, Doxm) ∷ (1, Pstat) ∷ (2, Cred) ∷ []) Acl2

-- the body b, by what it was found to ask
abbrev pub action_as : List ℕ → ByteAction → Maybe Action
action_as b Served = just Serve
action_as b ReadOnly = just Read
action_as b (RowOwnerSet n) = just (SetRowOwner (owned_by n) (owner_of b))
action_as b (OwnerSet owned) = just (SetOwner (owner_of (new_owner b)))
action_as b (SetState target) = just (Move (target_of target))
action_as b (Store Creds) = just (StoreCredential (credential_as (row_of Creds b)))
action_as b (Store Aces) = just (StoreAccess (access_of (row_of Aces b)))
action_as b (Remove Creds AllKey) = just (DeleteCredentials All)
action_as b (Remove Creds Number) = just (DeleteCredentials (Numbered (row_number b)))
action_as b (Remove Creds Subject) = just (DeleteSubject b)
action_as b (Remove Aces AllKey) = just (DeleteAccesses All)
action_as b (Remove Aces Number) = just (DeleteAccesses (Numbered (row_number b)))
action_as b (Remove Aces Subject) = none
action_as b (Assert c) = just (AssertRole (asserted_of b))
action_as b Malformed = none
