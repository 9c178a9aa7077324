pub mod Clean
pub mod Falls
pub mod Tables
