pub mod Deductions
pub mod Counting
pub mod Failures
pub mod Reasons
pub mod Ways
pub mod Replacing
pub mod Beside
