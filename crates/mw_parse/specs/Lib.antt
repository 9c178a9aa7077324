-- What texts are read as.
pub mod Answers
pub mod Tops
