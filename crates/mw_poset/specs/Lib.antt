pub mod SortOrder
pub mod Order
pub mod Row
pub mod Groups
pub mod Tables
pub mod Search
