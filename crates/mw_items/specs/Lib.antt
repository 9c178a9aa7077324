pub mod Items
-- What a proof text says.
pub mod Entries
