-- What a compiled pattern is.
pub mod Compiled
-- Arguments in groups.
pub mod Groups
-- Which values are one element.
pub mod Singles
-- Arguments with their variables.
pub mod Sharing
