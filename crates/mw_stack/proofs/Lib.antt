-- Lists of terms in order, and where one more belongs.
pub mod Cutting
pub mod Searched
-- What changes on the stack.
pub mod Piles
-- Runs that become one.
pub mod Weaving
-- A term that fits at a place.
pub mod Fitting
-- Operators and what stands under them.
pub mod Under
pub mod LongLists
