-- Terms, sorts and kinds as texts.
pub mod Tokens
pub mod Printing
pub mod Chains
pub mod Sorts
pub mod Writing
pub mod Prefix
pub mod Laws
pub mod PrefixLaws
