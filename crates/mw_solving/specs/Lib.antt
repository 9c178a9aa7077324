-- What is matched, and what variables get.
pub mod Values
-- Patterns with arguments in another order.
pub mod Reordered
-- Lists of values among which the solutions are.
pub mod Candidates
-- Solutions for a term and for its proper parts.
pub mod Inside
