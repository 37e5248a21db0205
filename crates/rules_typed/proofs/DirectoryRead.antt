-- The directory over bytes has the typed directory's entries, and no others.
use Rattle.rows.proofs.Prelude.{◌≡◌, refl, true, false, ℕ, zero, suc, ne_eqb, ◌<◌, ◌≤◌, arith, eqb}
use Rattle.rules.specs.declared.Resource.{Resource as ByteResource}
use Rattle.rules.specs.Directory.{entry_of, resource_of as byteResource, known as knownNumber}
use Rattle.rules_typed.specs.Lists.{none, just, find}
use Rattle.rules_typed.specs.Types.{Doxm, Pstat, Cred, Acl2, Roles, Resource, Security, Application, Weight, Tare, Zero, Ticket, Lamp, Calib, Display}
use Rattle.rules_typed.specs.Types.{Yard}
use Rattle.rules_typed.specs.Directory.{entry, number_of, resource_of}

abbrev pub resource_as : Resource → ByteResource
resource_as e = record {
  number = number_of e;
  known = true;
  configuration = (entry e).configuration;
  discoverable = (entry e).discoverable;
  secure = (entry e).secure;
  unsecure = (entry e).unsecure;
}

pub entry_read : (e : Resource) → byteResource (number_of e) ≡ resource_as e
unfolding entry_of
entry_read (Security Doxm) = refl
entry_read (Security Pstat) = refl
entry_read (Security Cred) = refl
entry_read (Security Acl2) = refl
entry_read (Security Roles) = refl
entry_read (Application Weight) = refl
entry_read (Application Tare) = refl
entry_read (Application Zero) = refl
entry_read (Application Ticket) = refl
entry_read (Application Lamp) = refl
entry_read (Application Calib) = refl
entry_read (Application Display) = refl
entry_read (Application Yard) = refl

-- a number is a resource's, or unknown
pub data Found : ℕ → Type 0 where
  known : (e : Resource) → Found (number_of e)
  unknown : {n : ℕ} → knownNumber n ≡ false → resource_of n ≡ none → Found n

far : (k n : ℕ) → k < n → eqb k n ≡ false
far k n h = ne_eqb k n (λ e. absurd (omega (arith, e)))

past : (n : ℕ) → 17 ≤ n → resource_of n ≡ none
unfolding resource_of find
past n h =
    rw (
      far 0 n (omega arith),
      far 1 n (omega arith),
      far 2 n (omega arith),
      far 3 n (omega arith),
      far 4 n (omega arith),
      far 8 n (omega arith),
      far 9 n (omega arith),
      far 10 n (omega arith),
      far 11 n (omega arith),
      far 12 n (omega arith),
      far 13 n (omega arith),
      far 14 n (omega arith),
      far 16 n (omega arith),
    )

pub found : (n : ℕ) → Found n
unfolding entry_of resource_of find
found zero = known (Security Doxm)
found (suc zero) = known (Security Pstat)
found (suc (suc zero)) = known (Security Cred)
found (suc (suc (suc zero))) = known (Security Acl2)
found (suc (suc (suc (suc zero)))) = known (Security Roles)
found (suc (suc (suc (suc (suc zero))))) = unknown refl refl
found (suc (suc (suc (suc (suc (suc zero)))))) = unknown refl refl
found (suc (suc (suc (suc (suc (suc (suc zero))))))) = unknown refl refl
found (suc (suc (suc (suc (suc (suc (suc (suc zero)))))))) = known (Application Weight)
found (suc (suc (suc (suc (suc (suc (suc (suc (suc zero))))))))) = known (Application Tare)
found (suc (suc (suc (suc (suc (suc (suc (suc (suc (suc zero)))))))))) = known (Application Zero)
found (suc (suc (suc (suc (suc (suc (suc (suc (suc (suc (suc zero))))))))))) = known (Application Ticket)
found (suc (suc (suc (suc (suc (suc (suc (suc (suc (suc (suc (suc zero)))))))))))) = known (Application Lamp)
found (suc (suc (suc (suc (suc (suc (suc (suc (suc (suc (suc (suc (suc zero))))))))))))) = known (Application Calib)
found (suc (suc (suc (suc (suc (suc (suc (suc (suc (suc (suc (suc (suc (suc zero)))))))))))))) = known (Application Display)
found (suc (suc (suc (suc (suc (suc (suc (suc (suc (suc (suc (suc (suc (suc (suc zero))))))))))))))) = unknown refl refl
found (suc (suc (suc (suc (suc (suc (suc (suc (suc (suc (suc (suc (suc (suc (suc (suc zero)))))))))))))))) = known (Application Yard)
found (suc (suc (suc (suc (suc (suc (suc (suc (suc (suc (suc (suc (suc (suc (suc (suc (suc n))))))))))))))))) =
    unknown refl (past (suc (suc (suc (suc (suc (suc (suc (suc (suc (suc (suc (suc (suc (suc (suc (suc (suc n))))))))))))))))) (omega arith))

-- it is found by its number
pub resource_read : (e : Resource) → resource_of (number_of e) ≡ just e
unfolding resource_of find
resource_read (Security Doxm) = refl
resource_read (Security Pstat) = refl
resource_read (Security Cred) = refl
resource_read (Security Acl2) = refl
resource_read (Security Roles) = refl
resource_read (Application Weight) = refl
resource_read (Application Tare) = refl
resource_read (Application Zero) = refl
resource_read (Application Ticket) = refl
resource_read (Application Lamp) = refl
resource_read (Application Calib) = refl
resource_read (Application Display) = refl
resource_read (Application Yard) = refl
