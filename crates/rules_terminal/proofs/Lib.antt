-- The laws of seats and slots, and the theorems over hand-ins and takes.
pub mod SeatLaws
pub mod SlotLaws
pub mod Held
pub mod RowsMoved
pub mod Sound
pub mod Stays
pub mod Refused
pub mod Lockstep
pub mod Isolated
pub mod Served
pub mod Origin
pub mod Direct
pub mod Built
pub mod Shown
pub mod Takes
