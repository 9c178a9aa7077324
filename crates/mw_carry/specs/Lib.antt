-- Terms and statements of one signature as they stand in another.
pub mod Carried
pub mod Laws
pub mod Profiles
pub mod Tables
pub mod Carriage
