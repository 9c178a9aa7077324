-- Texts: names as pieces and holes, which terms tokens spell, and the one reading of a text.
pub mod Names
pub mod Runs
pub mod Seen
pub mod Numerals
pub mod Mixfix
pub mod Proper
pub mod Readings
pub mod Interned
pub mod Mentions
