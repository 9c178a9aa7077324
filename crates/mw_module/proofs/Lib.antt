-- Laws of tokens, forms and units.
pub mod Slices
pub mod ItemByItem
pub mod Bodies
pub mod Parts
pub mod Formed
pub mod ProperForms
pub mod Sources
pub mod Causes
pub mod Written
