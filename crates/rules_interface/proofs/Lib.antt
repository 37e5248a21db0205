-- Laws for the code of the C functions (Lent), the payload's place (Payload).
-- Theorems of C calls: a refusal (CRefused); lists of them as calls, and demand 3 (CCalls), what was handed in (CHanded), yards (CYards),
-- lists of rows (CLoaded, CLists), one call and the requests (CJudged), power cuts (CPower), the same inputs again (CReplay);
-- what the numbers say that C gets (CNumbers); that there are such calls (CExists).
pub mod Lent
pub mod Payload
pub mod CRefused
pub mod CCalls
pub mod CJudged
pub mod CLists
pub mod CHanded
pub mod CYards
pub mod CLoaded
pub mod CPower
pub mod CReplay
pub mod CNumbers
pub mod CExists
