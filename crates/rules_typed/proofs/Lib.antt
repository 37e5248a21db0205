-- Laws of lists that are read (ListLaws), of bytes (ByteLaws), of numbers for states and verbs (StateRead) and of the directory (DirectoryRead).
-- Rule by rule, that what is read gets what the bytes get: PermissionRead, RowsRead, RoleRead, ReplyRead, ChecksRead, EffectRead, PlacesRead, LinksRead,
-- HeaderRead; what a body asks (Removals, ActionAs, ActionRead); the first check that applies (Verdicts).
-- What is read, written, is the row (WriteBack) and the tables (TablesBack), and rows and tables are sound exactly where they are written so (RowExact,
-- RowWritten, AccessWritten, SoundExact); a record leaves arrays of bytes (StructKept).
-- The theorems: one record (OutcomeRead), all tables and runs (Whole), demand 3 (IsolationRead, ComparedRead).
pub mod ListLaws
pub mod ByteLaws
pub mod StateRead
pub mod DirectoryRead
pub mod PermissionRead
pub mod RowsRead
pub mod WriteBack
pub mod RoleRead
pub mod ReplyRead
pub mod Removals
pub mod ActionAs
pub mod ChecksRead
pub mod EffectRead
pub mod PlacesRead
pub mod TablesBack
pub mod StructKept
pub mod Verdicts
pub mod LinksRead
pub mod RowExact
pub mod ActionRead
pub mod HeaderRead
pub mod OutcomeRead
pub mod RowWritten
pub mod AccessWritten
pub mod SoundExact
pub mod FreshRead
pub mod Whole
pub mod IsolationRead
pub mod ComparedRead
