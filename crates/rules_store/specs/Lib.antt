-- The layout of a store and the next write (Store), the writes of a whole run (Run), and power cuts (Cuts).
pub mod Store
pub mod Run
pub mod Cuts
