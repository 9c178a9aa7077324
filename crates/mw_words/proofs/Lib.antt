-- Laws of what words ask for.
pub mod Rows
pub mod Apart
pub mod Only
