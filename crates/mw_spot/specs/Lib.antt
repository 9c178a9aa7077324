-- Walks with the moves of a kept proof.
pub mod Walks
-- Numbers of arguments, and the place that they give.
pub mod Spots
