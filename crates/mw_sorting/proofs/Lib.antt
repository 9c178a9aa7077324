-- What operators give on sorts, and the sorts of numerals by a table.
pub mod Results
pub mod Numerals
-- The computed sort is one that the term has.
pub mod Forms
-- It is one, up to the order, and no operator over canonical terms raises it; so it is the least.
pub mod Agreement
pub mod Folding
pub mod Applying
pub mod Leastness
-- Worked rows: a signature that is preregular modulo its axioms, and one that isn't.
pub mod RowsOfLists
