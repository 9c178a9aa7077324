-- The commands of a source.
-- The two sides of a match.
pub mod Dividing
-- Bounds of commands.
pub mod Bounds
pub mod Commands
