-- What texts mention, one after the other.
pub mod Mentioning
