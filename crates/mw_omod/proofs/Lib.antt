-- Variables that are met.
pub mod Meeting
-- Lists that are gone through.
mod Moving
-- Sets of attributes and objects, each in one way.
mod Sets
-- The elements of a side that are kept.
mod Listing
-- Arguments of terms as they are written.
mod Arguments
-- The variables of completed sides.
mod Standing
-- Laws of object modules.
pub mod Declaring
-- What elements become.
mod Becoming
-- The kinds of completed sides.
pub mod RawSides
-- What completion keeps of a statement.
pub mod Kept
-- A rule is completed in one way.
pub mod Once
-- The quoted identifiers of completed sides.
pub mod Identifiers
