-- The records judged are bytes (FedBytes). Theorems: demands 1 and 2 of one call (OneCall); of any calls and of C calls, with the queue, and demand 3 (Calls);
-- the question of isolation (Asked), yards (Yards); days with power cuts (Days). Examples: the paper's, computed.
pub mod FedBytes
pub mod OneCall
pub mod Calls
pub mod Asked
pub mod Yards
pub mod Days
pub mod Examples
