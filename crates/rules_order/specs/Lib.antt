-- Access rows in any order (U14): of rows (Reorder), and of tables, replies and runs (Order).
pub mod Reorder
pub mod Order
