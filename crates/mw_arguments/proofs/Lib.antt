-- Lists of all, each once.
pub mod Once
-- Pieces.
pub mod ListPieces
pub mod Standing
pub mod Spread
pub mod BagPieces
pub mod Runs
-- All arguments, each list once.
pub mod Arguments
pub mod Splits
-- Numbers that choose some of the arguments.
pub mod Places
pub mod Middles
