pub mod World
pub mod Events
pub mod Order
pub mod Whole
pub mod Stopped
