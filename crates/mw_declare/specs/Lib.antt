-- What a module's statements declare.
pub mod Meaning
pub mod Hierarchy
pub mod Grouping
pub mod Freezing
pub mod Built
pub mod Operators
pub mod Faults
pub mod Declarations
pub mod Proper
pub mod Laws
pub mod Seen
