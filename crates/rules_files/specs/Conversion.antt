-- Lists of the older terminals (U12) over typed rows: the access rows that they become, numbered from 1.
-- An old row has 25 bytes: subject UUID (128), permission (5), zeros (3), set of resources (64).
use Rattle.std.specs.Prelude.{ℕ, ◌+◌, Bool, false, List, [], ◌∷◌, ◌++◌, map, eqb, take}
use Rattle.rules.specs.Bits.{bit, bits}
use Rattle.rules_typed.specs.Lists.{Maybe, none, just}
use Rattle.rules_typed.specs.Types.{Bytes, Uuid, Permission, Resource, AnonClear, AuthCrypt, Subject, IsUuid, IsConnection, Access}
use Rattle.rules_typed.specs.Directory.{number_of}
use Rattle.rules_typed.specs.Reading.{owner_of}

pub record OldRow : Type 0 where
  -- none: "*", anybody
  pub subject : Maybe Uuid
  pub permission : Permission
  pub resources : Resource → Bool

abbrev pub old_row : Bytes → OldRow
old_row w = record { subject = owner_of (take 16 w); permission = bits w 128 5; resources = λ e. eqb (bit w (136 + number_of e)) 1 }

-- a "*" row becomes two, auth-crypt first
abbrev pub subjects : Maybe Uuid → List Subject
subjects none = IsConnection AuthCrypt ∷ IsConnection AnonClear ∷ []
subjects (just u) = IsUuid u ∷ []

-- it holds for every second, without wildcards
abbrev pub access_for : OldRow → Subject → ℕ → Access
access_for o s n = record {
  number = n;
  subject = s;
  permission = o.permission;
  wildcards = record { plus = false; minus = false; star = false };
  resources = o.resources;
  first = 0;
  last = 4294967295;
}

-- the rows without their numbers
unfoldable pub made : List OldRow → List (ℕ → Access)
made [] = []
made (o ∷ os) = map (access_for o) (subjects o.subject) ++ made os

unfoldable pub numbered_from : ℕ → List (ℕ → Access) → List Access
numbered_from n [] = []
numbered_from n (a ∷ rest) = a n ∷ numbered_from (n + 1) rest

unfoldable pub converted : List OldRow → List Access
converted os = numbered_from 1 (made os)
