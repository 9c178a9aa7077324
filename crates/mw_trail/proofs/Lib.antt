pub mod Tracks
pub mod Marks
