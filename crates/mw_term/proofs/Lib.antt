-- Laws of terms in lists.
pub mod Terms
pub mod RawLists
pub mod Orders
pub mod OperatorSets
pub mod KeptFacts
pub mod Parts
pub mod Hashes
pub mod LastTold
pub mod Sections
