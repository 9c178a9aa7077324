-- The grammar of a signature.
pub mod Notations
pub mod Readable
pub mod Leaves
pub mod AloneTerms
pub mod Listing
pub mod Compiled
pub mod Worded
pub mod Meaning
pub mod Grammars
pub mod Exact
