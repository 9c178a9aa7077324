-- What a rewriting gives.
pub mod Rewritings
-- What a step by a rule leaves.
pub mod Stepped
-- Rules that apply at parts of a term, but for those that are known to fail.
pub mod Finding
-- A rule that is applied to a normal term.
pub mod Applications
