-- Theorems over the definitions: the records judged (Judged), demand 3 (Isolation), within 25 takes and none lost (Served), the queue and
-- where the round is (Waits), whose turn it is (InTurn), records handed in and taken one by one (OneByOne). Calls: the same of any calls.
-- Seen has the laws on what answers show; Exists says that there are such calls for any inputs.
pub mod Judged
pub mod Seen
pub mod Isolation
pub mod Served
pub mod Waits
pub mod InTurn
pub mod OneByOne
pub mod Calls
pub mod Exists
