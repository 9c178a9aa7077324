-- Proof texts as tokens.
pub mod Numbers
pub mod TokenTexts
-- Which tokens are a proof text, and where others are none.
pub mod Reading
pub mod Outside
-- Parts of a text: lines, and what groups that are open still want.
pub mod Parts
pub mod Faults
-- Heads, and what stands behind them.
pub mod Whole
-- Whether two terms are one.
pub mod Same
-- What is written of items, cut into tokens.
pub mod Lexing
-- What is written of kept deductions.
pub mod Kept
