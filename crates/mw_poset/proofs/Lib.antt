pub mod Members
pub mod Chains
pub mod Marking
pub mod Grouping
pub mod Reading
pub mod Bits
pub mod Rows
pub mod Steps
