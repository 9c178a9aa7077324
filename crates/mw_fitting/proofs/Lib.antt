pub mod Depths
pub mod Levels
pub mod Heights
pub mod Fitting
