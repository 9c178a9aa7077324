-- Left sides whose arguments are compared.
pub mod Free
-- Conditions as they are tested.
pub mod Conditions
-- Statements as they are indexed.
pub mod Oriented
-- The index of a module's statements.
pub mod Index
-- Where statements are listed.
pub mod Sections
-- The choices at a term.
pub mod Choices
