-- What is checked is what the text means, and it is proved.
pub mod Telling
pub mod Steps
pub mod Proving
pub mod Counted
-- Rows make one term.
pub mod RowKinds
pub mod OneRow
pub mod FirmSides
-- Which answers exclude one another.
pub mod Same
pub mod Leading
pub mod Excluding
pub mod Answering
pub mod Conditions
pub mod Laws
-- How texts are answered that were written of kept proofs.
pub mod Passing
pub mod Free
