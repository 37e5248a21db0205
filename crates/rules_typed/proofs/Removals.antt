-- A body that removes rows by a number has two bytes, and by a subject sixteen; no access row is removed by a subject.
use Rattle.rows.proofs.Prelude.{◌≡◌, Bool, not, List, ℕ, length, eqb, eqb-true, cond, cond_cases}
use Rattle.rules.specs.declared.Table.{Table}
use Rattle.rules.specs.declared.Table.TheVariants.{Creds, Aces}
use Rattle.rules.specs.declared.Key.TheVariants.{All, Number, Subject}
use Rattle.rules.specs.declared.Action.{Action}
use Rattle.rules.specs.declared.Action.TheVariants.{Serve, Read, SetRowOwner, SetOwner, SetState, Store, Remove, Assert, Malformed}
use Rattle.rules.specs.declared.Header.{Header}
use Rattle.rules.specs.Directory.{doxm, pstat, cred, acl2, roles}
use Rattle.rules.specs.Bodies.{is_nil, new_owned, owner_body, target, state_body, row_number}
use Rattle.rules.specs.Roles.{no_role}
use Rattle.rules.specs.Tables.{storable, row_of}
use Rattle.rules.specs.Action.{if_allowed, update_doxm, update_pstat, store_row, update_rows, update_roles, update_action, delete_number, delete_aces, delete_creds}
use Rattle.rules.specs.Action.{delete_action, read_action, security_action, action_of}

abbrev pub Removed : List ℕ → Action → Type 0
Removed b Serve = Unit {0}
Removed b Read = Unit {0}
Removed b (SetRowOwner n) = Unit {0}
Removed b (SetOwner owned) = Unit {0}
Removed b (SetState s) = Unit {0}
Removed b (Store k) = Unit {0}
Removed b (Remove k All) = Unit {0}
Removed b (Remove k Number) = length b ≡ 2
Removed b (Remove Creds Subject) = length b ≡ 16
Removed b (Remove Aces Subject) = ⊥
Removed b (Assert c) = Unit {0}
Removed b Malformed = Unit {0}

-- by a number: where it is the one looked for, and else
pick : (P : Action → Type 0) (n m : ℕ) {x y : Action} → (n ≡ m → P x) → P y → P (cond (eqb n m) x y)
pick P n m f g = cond_cases P (eqb n m) (λ e. f (eqb-true n m e)) (λ _. g)

module _ (b : List ℕ) where
  abbrev P : Action → Type 0
  P a = Removed b a

  allowed : (t : Bool) (a : Action) → P a → P (if_allowed t a)
  unfolding if_allowed
  allowed t a p = cond_cases P t (λ _. p) (λ _. tt)

  number : (k : Table) → length b ≡ 2 → P (delete_number k b)
  unfolding delete_number
  number k l = allowed (not (eqb (row_number b) 0)) (Remove k Number) l

  deletes : (n : ℕ) → P (delete_action n b)
  unfolding delete_action delete_creds delete_aces
  deletes n =
      pick P n cred
      (λ _. pick P (length b) 0 (λ _. tt) (pick P (length b) 2 (number Creds)
      (pick P (length b) 16 (λ l. allowed (not (is_nil b)) (Remove Creds Subject) l) tt)))
      (pick P n acl2 (λ _. pick P (length b) 0 (λ _. tt) (pick P (length b) 2 (number Aces) tt)) tt)

  rows : (n : ℕ) (k : Table) → P (update_rows n k b)
  unfolding update_rows store_row
  rows n k = pick P (length b) 16 (λ _. tt) (allowed (storable k (row_of k b)) (Store k) tt)

  updates : (c n : ℕ) → P (update_action c n b)
  unfolding update_action update_doxm update_pstat update_roles
  updates c n =
      pick P n doxm (λ _. pick P (length b) 16 (λ _. tt) (pick P (length b) 17 (λ _. allowed (owner_body b) (SetOwner (new_owned b)) tt) tt))
      (pick P n pstat (λ _. pick P (length b) 16 (λ _. tt) (pick P (length b) 1 (λ _. allowed (state_body b) (SetState (target b)) tt) tt))
      (pick P n cred (λ _. rows cred Creds)
      (pick P n acl2 (λ _. rows acl2 Aces)
      (pick P n roles (λ _. pick P (length b) 8 (λ _. allowed (not (no_role b)) (Assert c) tt) tt) tt))))

  reads : P (read_action b)
  unfolding read_action
  reads = pick P (length b) 0 (λ _. tt) tt

  pub removed : (h : Header) → P (action_of h b)
  unfolding action_of security_action
  removed h =
      cond_cases P h.resource.configuration
      (λ _. pick P h.verb 1 (λ _. reads)
      (pick P h.verb 2 (λ _. updates h.connection h.resource.number)
      (pick P h.verb 3 (λ _. deletes h.resource.number) (pick P h.verb 4 (λ _. reads) tt))))
      (λ _. tt)
