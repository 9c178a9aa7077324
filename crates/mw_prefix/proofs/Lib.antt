-- Kinds by tests, and arguments one by one.
pub mod KindTests
pub mod Listed
-- What tokens say.
pub mod PlainNumbers
pub mod TokenLaws
-- The reader's levels.
pub mod Frames
-- What the reader accepts, and that it is what the definition asks for.
pub mod Fitting
pub mod FormsRead
pub mod ReadIsForm
pub mod Forming
-- Canonical terms have forms.
pub mod CanonicalForms
