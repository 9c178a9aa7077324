-- Numbers that rise, and what they choose.
pub mod Picked
pub mod Merged
-- Levels of a walk.
pub mod Levels
-- Terms that come among a level's arguments, and others in place of some of them.
pub mod Among
pub mod Exchanging
-- Levels with terms in their holes.
pub mod Filled
pub mod Closing
-- Places from level to level.
pub mod Raised
pub mod Held
pub mod Grouped
pub mod Fewer
pub mod Gathered
pub mod Climbing
pub mod Climbed
-- Into arguments, and out of them.
pub mod Entering
pub mod Parted
-- What calls answer.
pub mod Calls
