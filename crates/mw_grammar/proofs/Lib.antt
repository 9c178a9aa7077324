-- The language of notations is that of mixfix texts.
pub mod Over
pub mod Closed
pub mod Spelled
pub mod LeafTerms
pub mod Means
-- It is what the table's states spell.
pub mod Numbers
pub mod Joined
pub mod Placed
pub mod Read
pub mod Telling
-- What the code holds.
pub mod Listings
pub mod Going
pub mod ItemByItem
pub mod Made
pub mod Writing
pub mod Meeting
pub mod Added
pub mod Tokens
pub mod WordByWord
-- The theorem.
pub mod Opening
pub mod RawSpelled
pub mod Exactly
pub mod KindsByOrder
