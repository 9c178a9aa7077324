-- Laws of the schemata.
pub mod Denoting
pub mod BuiltLaws
pub mod Forms
pub mod Giving
pub mod Naming
pub mod Neighbours
pub mod NoRows
pub mod Stepping
