pub mod Closed
pub mod Conditions
pub mod Contexts
pub mod Giving
pub mod Sure
pub mod Workable
