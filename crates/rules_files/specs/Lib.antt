-- Files of rows as one reads them: the test of a list (ListTest), and what lists of the older terminals become (Conversion).
pub mod ListTest
pub mod Conversion
