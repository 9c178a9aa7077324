pub mod Listed
-- Lists of terms and of patterns, one by one.
pub mod Walking
-- Operators without axioms, and the values of patterns that are compared.
pub mod PlainTerms
-- Operators that stay on top.
pub mod Staying
-- Variables in the order in which they are met.
pub mod InOrder
-- An index with one equation more.
pub mod Putting
-- The index of a module, statement by statement.
pub mod Indexing
-- The variables of fragments, and those that fragments bind.
pub mod Fragments
-- Lists of the same variables.
pub mod SameMembers
-- Variables one by one, and their places.
pub mod OneByOne
-- The sides of a statement and their variables.
pub mod Sides
-- Values in another order.
pub mod Orders
-- Left sides that are compared.
pub mod Comparing
-- What is tried and what is still to come.
pub mod Trying
-- Solutions by position in the order of the statement's variables.
pub mod Rearranging
-- Top parts and the numbers that they take.
pub mod TopParts
-- What a search for a left side gives.
pub mod Seeking
-- Equations that are asked one after another.
pub mod Asking
-- The variables that the tests of a condition bind.
pub mod Bound
-- Fragments that become tests.
pub mod Turns
-- What tests tell of fragments.
pub mod ByTest
