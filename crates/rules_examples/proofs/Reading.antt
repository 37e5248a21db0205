-- Examples of what is read, and over which connection: the replies of U1, and the endpoints of U2.
-- Each is computed from the definitions.
use Rattle.rows.proofs.Prelude.{◌≡◌, refl, List, [], ◌∷◌, ◌++◌, map, ℕ, ◌+◌, ◌*◌, ◌/◌, ◌%◌}
use Rattle.rules.specs.declared.Tables.{Tables}
use Rattle.rules.specs.Record.{received}
use Rattle.rules.specs.Bodies.{nil}
use Rattle.rules.specs.Defaults.{no_defaults, fresh}
use Rattle.rules.specs.Outcome.{response_to}
use Rattle.rules.proofs.Samples.{definitions, samples, answer, uuid, cred_row, owned5, ace_row, none, connected, serving}

-- ---- reading back (U1): the replies of the four security resources to the owner, and the length that just fits

pub reply : ℕ → List ℕ → List ℕ
reply capacity r = let o = response_to no_defaults owned5 (received 0 r capacity) in o.answer ∷ o.contents

pub replies_read :
    reply 33 (0x30 ∷ 0x00 ∷ 0x00 ∷ 0x05 ∷ [])
    ∷ reply 17 (0x30 ∷ 0x40 ∷ 0x00 ∷ 0x05 ∷ [])
    ∷ reply 39 (0x30 ∷ 0x80 ∷ 0x00 ∷ 0x05 ∷ [])
    ∷ reply 38 (0x30 ∷ 0x80 ∷ 0x00 ∷ 0x05 ∷ [])
    ∷ reply 16 (0x30 ∷ 0xc0 ∷ 0x00 ∷ 0x05 ∷ [])
    ∷ reply 0 (0x90 ∷ 0xc0 ∷ 0x00 ∷ 0x05 ∷ [])
    ∷ []
    ≡ (0 ∷ 0x80 ∷ (uuid ++ nil)) ∷ (0 ∷ 0x40 ∷ nil) ∷ (0 ∷ (nil ++ cred_row 5)) ∷ (15 ∷ []) ∷ (0 ∷ nil) ∷ (0 ∷ []) ∷ []
unfolding samples reply
replies_read = refl

-- ---- endpoints (U2): RETRIEVE of each application resource, 8 to 14 and 16, over connection 1 by the owner and over connection 0

-- everybody may read all that a wildcard reaches
pub broad : Tables
broad = serving (ace_row 1 2 2 1 none (connected 0) ∷ ace_row 2 2 2 1 none (connected 1) ∷ [])

pub header_of : ℕ → ℕ → ℕ → List ℕ
header_of c n k = (0x20 + c * 16 + n / 4) ∷ (n % 4 * 64) ∷ 0x00 ∷ k ∷ []

pub applications : List ℕ
applications = 8 ∷ 9 ∷ 10 ∷ 11 ∷ 12 ∷ 13 ∷ 14 ∷ 16 ∷ []

pub endpoints_secure : map (λ n. answer broad (header_of 1 n 5)) applications ≡ 0 ∷ 0 ∷ 0 ∷ 0 ∷ 0 ∷ 0 ∷ 16 ∷ 0 ∷ []
unfolding samples broad header_of applications
endpoints_secure = refl

pub endpoints_clear : map (λ n. answer broad (header_of 0 n 0)) applications ≡ 0 ∷ 16 ∷ 16 ∷ 16 ∷ 0 ∷ 16 ∷ 0 ∷ 16 ∷ []
unfolding samples broad header_of applications
endpoints_clear = refl

-- security resources are exempt: the five are read over connection 0 in fresh tables; and 16 comes before 8
pub endpoints_exempt : map (λ n. answer (fresh no_defaults) (header_of 0 n 0)) (0 ∷ 1 ∷ 2 ∷ 3 ∷ 4 ∷ 9 ∷ 14 ∷ []) ≡ 0 ∷ 0 ∷ 0 ∷ 0 ∷ 0 ∷ 16 ∷ 8 ∷ []
unfolding definitions header_of
endpoints_exempt = refl
