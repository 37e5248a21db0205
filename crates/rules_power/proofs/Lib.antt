-- Laws: days of any machine (Days), images (Images), lengths (Lengths), days of a terminal (Terminals).
-- Theorems: days with power cuts (PowerCuts), with restarts (Stretches), that there are such days (Uncut), what writes nothing (Unwritten); and an example.
pub mod Days
pub mod Images
pub mod Lengths
pub mod Terminals
pub mod PowerCuts
pub mod Stretches
pub mod Uncut
pub mod Unwritten
pub mod Examples
