-- All matches by any splits that are all, each once.
pub mod Matches
-- What the instance by canonical values means.
pub mod Evaluated
-- By splits that take rigid arguments first.
pub mod Rigid
pub mod Patterns
-- One argument at a time.
pub mod Bagged
pub mod AllMatches
-- Parts of multisets, for the enumeration.
pub mod Multisets
-- Worked rows.
pub mod Rows
-- As they are enumerated: what fits is one element; arguments one by one; shares of a row and of a multiset; and so all.
pub mod FoundSingle
pub mod FoundArguments
pub mod FoundShares
pub mod FoundRows
pub mod FoundParts
pub mod FoundBags
pub mod FoundMatches
