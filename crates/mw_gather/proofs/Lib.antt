pub mod Taken
pub mod Among
pub mod Gathers
