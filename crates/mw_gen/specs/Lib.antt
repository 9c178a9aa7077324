-- The text of the workload.
pub mod Workload
