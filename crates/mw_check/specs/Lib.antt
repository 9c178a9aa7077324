-- What stands at a place.
pub mod Parts
-- What is told of terms, parts, steps and items.
pub mod Answers
-- What comes of items one after another.
pub mod Chains
-- What comes of groups and conditions.
pub mod Groups
-- What shares of a test are.
pub mod RowSides
-- Verdicts on whole texts.
pub mod Whole
