-- What is still to come of a multiset.
pub mod Bags
-- All that an enumeration does, step by step.
pub mod Traces
-- What is to be met, what becomes of it, and the shares that a choice goes through.
pub mod Goals
-- Patterns that have no match by values that go on from some.
pub mod Clashes
-- Values that have their sorts, and those that lack them.
pub mod Lacking
-- The state, and what a step makes of it.
pub mod Machines
-- What contracts see of a search.
pub mod Searches
