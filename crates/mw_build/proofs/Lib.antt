-- Laws of modules that are accepted.
pub mod Readable
pub mod Pairwise
pub mod Asking
pub mod Bound
pub mod FragmentTerms
pub mod Terms
-- Own statements, as they are written or completed.
pub mod Owned
pub mod Sides
pub mod Imported
pub mod Origins
pub mod Loading
pub mod Reading
pub mod Accepting
pub mod Naming
pub mod PrintedVariables
pub mod SidesOfTokens
pub mod Printing
pub mod FirstOf
pub mod Roles
pub mod ObjectOperators
pub mod Configurations
pub mod ClassesThere
pub mod OneClasses
pub mod Working
pub mod OneModule
