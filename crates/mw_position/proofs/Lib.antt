pub mod Begins
pub mod Counting
pub mod Meeting
pub mod Placing
pub mod Grounded
