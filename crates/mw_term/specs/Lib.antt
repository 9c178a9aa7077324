-- What the types of this crate stand for.
pub mod Raws
pub mod RawFalls
pub mod OperatorSets
pub mod Shapes
pub mod Facts
pub mod Hashes
pub mod Sections
pub mod Weights
pub mod TermFalls
pub mod Signatures
pub mod Statements
