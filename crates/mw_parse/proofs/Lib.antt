-- What the chart's trees say of the terms that tokens spell.
pub mod Exactness
