-- The test of a list (Lists), what a fault of it is (Faults), and how a list is loaded (Loading).
pub mod Lists
pub mod Loading
pub mod Faults
