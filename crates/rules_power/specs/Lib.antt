-- The image of a terminal (Image), a machine that is stored while the power is cut (Day), what is stored of a terminal (Kept),
-- and days on which only the tables are stored (Stretches).
pub mod Image
pub mod Day
pub mod Kept
pub mod Stretches
