pub mod Mentioned
pub mod WellFormed
pub mod Below
pub mod Giving
pub mod Results
pub mod Tops
pub mod Homes
