-- The modules of the prelude, and which of them a source needs.
pub mod Modules
pub mod Mentions
