-- The memory that C passes (Memory), what each C function promises of it (Interface, Storing, Isolated), and lists of C calls (Calls).
-- C calls as calls (CallRun), made by the definitions (Made); records judged directly (Direct), one C call that judges (Judged), days with
-- power cuts (Power), and a history that is asked again (Replay).
pub mod Memory
pub mod Interface
pub mod Storing
pub mod Isolated
pub mod Calls
pub mod CallRun
pub mod Direct
pub mod Judged
pub mod Made
pub mod Power
pub mod Replay
