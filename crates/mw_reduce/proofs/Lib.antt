pub mod Asks
pub mod Values
pub mod Evidence
pub mod Splits
pub mod Tests
pub mod Going
pub mod Deciding
pub mod Evaluating
pub mod Ends
pub mod SideRuns
pub mod Applying
pub mod Reduced
pub mod Joining
mod Halting
mod LessLeft
mod Ordering
mod Judgements
mod Beginnings
