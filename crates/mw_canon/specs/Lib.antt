-- What canonical terms are, what substitutions of them mean, why there is none, and the axioms of operators.
pub mod Axioms
pub mod Canonical
pub mod Causes
pub mod Made
pub mod Tables
pub mod Free
