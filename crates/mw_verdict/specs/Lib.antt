pub mod Checks
pub mod Leads
pub mod Proved
pub mod Counts
pub mod Verdicts
pub mod Exclusion
pub mod Written
pub mod Rows
