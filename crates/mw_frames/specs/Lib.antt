pub mod Fair
pub mod Jobs
pub mod State
pub mod Machines
pub mod Steps
-- A statement that applies to a term.
pub mod Redex
-- Whether what comes may stand where it comes.
pub mod Larger
-- A choice as a term.
pub mod Choosing
-- Several arguments, and not all.
pub mod Several
-- Several arguments are taken.
pub mod Taking
pub mod Arrivals
pub mod Lists
-- What comes where a statement is applied.
pub mod Fires
-- Into an argument of a normal term.
pub mod Entered
-- A row is met at the first two of several arguments.
pub mod Pairs
