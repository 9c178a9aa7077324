-- Nesting keeps variables, their order and groundness.
pub mod Nesting
pub mod Grounds
-- Values are raw, of their kinds, and within the limits on terms, where the term is.
pub mod RawArguments
pub mod RawValues
pub mod KindsOfValues
pub mod Limits
-- Patterns with arguments in another order.
pub mod Reordering
-- Substitutions by position.
pub mod Positions
-- Matches are solutions, and the other way round.
pub mod Solving
pub mod Solved
pub mod Members
pub mod Compiled
pub mod Candidates
pub mod Admitted
-- Parts of several arguments.
pub mod Numbers
pub mod Rest
pub mod Parts
pub mod Lefts
pub mod ProperParts
-- Candidates for a term and for its proper parts.
pub mod Entries
pub mod Inside
