-- Which operators compute what, and what a step is.
pub mod Schemata
pub mod Spellings
pub mod Kinds
pub mod Results
pub mod Places
pub mod Steps
