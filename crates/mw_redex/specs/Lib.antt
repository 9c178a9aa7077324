-- Paths in terms, and the list of all of them.
pub mod Paths
-- The ways that an enumeration has before it.
pub mod Waiting
-- Places, replacement there, and which places rules may change.
pub mod Replaced
-- Numbers that no numeral is.
pub mod Largest
