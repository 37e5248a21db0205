-- What answers show of a run: the records judged, with their bytes taken from the hand-ins (Events, Isolation), and the queue (Waits).
-- Calls made by the definitions (Made).
pub mod Events
pub mod Isolation
pub mod Waits
pub mod OneByOne
pub mod Made
