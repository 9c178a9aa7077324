-- Laws of proof texts.
pub mod Closing
pub mod Inside
pub mod AdmittedValues
pub mod RightSides
pub mod TextLaws
pub mod TellLaws
pub mod PassingLaws
pub mod NarrowLaws
pub mod Wholes
pub mod Telling
pub mod ChainLaws
pub mod Underway
