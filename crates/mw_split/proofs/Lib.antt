pub mod Lists
pub mod Above
pub mod Every
pub mod Next
pub mod Turning
pub mod Whole
pub mod Columns
