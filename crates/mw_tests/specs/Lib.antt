-- A signature with numbers, and what its terms are.
pub mod Numbers
