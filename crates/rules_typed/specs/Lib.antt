-- The rules of document 01 and of the requests, over typed tables and records. Read them next to the paper, in this order:
-- Types, Directory, Bodies (what a record asks for), Permission, States, Reply, Checks, Effect, Outcome, and Isolation (demand 3's premise).
-- Then Tables (when they are sound), how values are written as bytes (Writing) and read from them (Reading), and what the code's types give (Struct).
-- Lists has what the rules do with lists.
pub mod Lists
pub mod Types
pub mod Directory
pub mod Permission
pub mod States
pub mod Tables
pub mod Writing
pub mod Reading
pub mod Struct
pub mod Bodies
pub mod Reply
pub mod Checks
pub mod Effect
pub mod Outcome
pub mod Isolation
