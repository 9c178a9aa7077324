-- What is written for a command, and for a unit that is refused.
pub mod Blocks
pub mod Matches
pub mod Notes
pub mod Refused
pub mod Seen
pub mod Verdicts
