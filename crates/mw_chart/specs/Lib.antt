-- What the chart reads, and what it holds.
pub mod Tree
pub mod Nodes
pub mod Falls
pub mod Listed
pub mod Spelling
pub mod Chart
pub mod Nothing
pub mod Answer
pub mod Readings
pub mod Bits
pub mod Row
pub mod Hash
pub mod Tops
