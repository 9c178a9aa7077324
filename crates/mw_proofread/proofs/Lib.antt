-- Causes, passed on.
pub mod Causes
-- Texts of numbers.
pub mod Digits
pub mod Decimals
-- Statements by their numbers.
pub mod Counting
-- Slices of tokens.
pub mod Slices
-- Tokens of forms and words: what a list of tokens begins with.
pub mod Low
pub mod Fronts
pub mod Places
-- How an item goes on, with the stack of open groups, and where tokens are no text.
pub mod Completing
pub mod Frames
pub mod Tails
-- Values and lines.
pub mod LineParts
pub mod Outside
-- Terms that may stand in a text, and their forms.
pub mod Sameness
pub mod Written
-- What is written of items, cut into tokens.
pub mod TextLexed
-- What is written of kept deductions.
pub mod Identifiers
pub mod Known
pub mod KeptTexts
