-- Which tokens are the numbered prefix form of a term.
pub mod Forms
-- Kinds of numerals and of quoted identifiers, and which arguments an operator takes.
pub mod Leaves
pub mod Taking
-- Reading a form, a token at a time.
pub mod Words
pub mod Reading
pub mod States
