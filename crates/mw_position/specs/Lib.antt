pub mod Positions
pub mod Variables
