-- What is asked of arguments.
pub mod Arguments
-- Pieces of what stands under an associative operator.
pub mod Pieces
pub mod Bags
-- All arguments, by the axioms.
pub mod Splits
-- Numbers that choose some of the arguments.
pub mod Places
