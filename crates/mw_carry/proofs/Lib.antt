pub mod Numbers
pub mod Kept
pub mod Once
pub mod Pairs
pub mod Lookups
pub mod Tables
pub mod Profiles
pub mod Carrying
