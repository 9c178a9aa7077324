-- Laws of canonical terms.
pub mod Largest
pub mod Limits
pub mod Listing
pub mod Making
pub mod Ordered
pub mod Reading
pub mod Table
pub mod Waiting
