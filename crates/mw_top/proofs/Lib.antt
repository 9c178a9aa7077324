-- Laws of bytes that move, of the modules that were accepted, and of units that are answered.
pub mod Moving
pub mod Answering
mod Valued
pub mod Told
pub mod Sessions
pub mod Giving
pub mod Bytes
pub mod OneOutput
pub mod CheckTells
pub mod Doing
pub mod Asking
pub mod Judging
mod EntryNumbers
pub mod WrittenAnswered
