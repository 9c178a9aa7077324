-- Modules that were accepted, and why others are refused.
pub mod Pairwise
pub mod Sides
pub mod Classes
pub mod Configurations
pub mod Fragments
pub mod Endings
pub mod Statements
pub mod Imported
pub mod Modules
pub mod Printing
pub mod Working
pub mod SignatureFaults
