-- The test of a list is that of its typed rows (ListRead); the rows that an old list becomes are those of its typed rows (ConversionRead).
pub mod ListRead
pub mod ConversionRead
