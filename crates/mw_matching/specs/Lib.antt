-- Matches by position, by any splits.
pub mod Matches
-- Arguments that become one element are taken first.
pub mod Rigid
pub mod Patterns
-- Under an associative and commutative operator one argument at a time; and so all matches.
pub mod Bagged
pub mod AllMatches
-- The same matches as they are enumerated.
pub mod Multisets
pub mod Found
