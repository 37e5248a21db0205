-- The law of a loop that keeps rows, and that of bytes copied in pieces.
pub mod Staying
pub mod Moving
