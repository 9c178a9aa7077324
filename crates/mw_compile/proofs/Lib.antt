-- Arguments in another order.
pub mod Orders
-- Arguments in groups.
pub mod Grouping
-- Arguments that are chosen one by one.
pub mod Linking
-- Variables that are met, and their positions.
pub mod ByPosition
-- Which values are one element.
pub mod Sure
