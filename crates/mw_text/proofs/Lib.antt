-- What is spelled is a term of the signature; membership in joined lists; names that are read back, and that are proper.
pub mod Joined
pub mod Numbers
pub mod RawTerms
pub mod Spellings
pub mod Proper
pub mod SpelledVariables
pub mod Identifiers
mod Held
pub mod Keys
