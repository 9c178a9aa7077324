-- The modules that imports reach.
pub mod Flat
pub mod Gathering
pub mod Laws
pub mod Seen
