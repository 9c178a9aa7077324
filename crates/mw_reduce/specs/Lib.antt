-- What is found at what was asked for.
pub mod Turns
-- The limits of a run.
pub mod Limits
-- How a condition is evaluated.
pub mod Evaluations
-- What comes of a choice.
pub mod Attempts
-- What a run comes to between two replacements.
pub mod Events
-- How a run ends.
pub mod Driven
-- What a reduction gives.
pub mod Reductions
-- Two arguments at a time.
pub mod Pairs
-- What is told of conditions and of terms.
pub mod Judgements
