-- The words of the command line: what they ask for, and the texts that answer two of them.
pub mod Asked
pub mod CommandLine
pub mod Texts
