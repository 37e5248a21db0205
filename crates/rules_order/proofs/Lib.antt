-- The laws of another order (ReorderLaws), one record (OneRecord), one input
-- (OwnersKept, OneInput), and the theorems of U14: AnyOrder, Calls, Lists.
pub mod ReorderLaws
pub mod OneRecord
pub mod OwnersKept
pub mod OneInput
pub mod AnyOrder
pub mod Calls
pub mod Lists
