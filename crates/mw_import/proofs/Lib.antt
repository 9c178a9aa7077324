-- Laws of lists of units, of what imports bring and modules have, of tables of units, and of what is wrong with an import.
pub mod Lists
pub mod Gathered
pub mod Brought
pub mod Reaching
pub mod Flattened
pub mod Tables
pub mod Imports
