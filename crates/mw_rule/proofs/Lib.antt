pub mod Finals
pub mod Untold
pub mod Places
pub mod Outcomes
mod Ended
mod Looking
mod Running
pub mod Alike
pub mod Known
mod Limits
mod Applicable
