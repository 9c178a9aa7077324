-- All paths, each once.
pub mod Levels
-- Ways that wait give the paths by level.
pub mod Waited
pub mod Turn
-- Lists of terms with others in place of some.
pub mod Middles
pub mod Exchanged
-- Places and replacements.
pub mod Standing
pub mod Kept
-- Numbers that no numeral is.
pub mod Flags
-- Places that rules may change.
pub mod Opened
