-- Parts of lists of arguments.
pub mod Lists
pub mod Ends
-- Lists of terms by index, and parts of multisets.
pub mod BagLists
-- What becomes of goals.
pub mod Meeting
pub mod Sharing
-- The matches of a trace.
pub mod Finding
pub mod Beginning
pub mod Alone
pub mod Clashing
-- What steps do to what is still to come.
pub mod Steps
pub mod Passing
-- Parts of multisets of which there are several.
pub mod Cutting
pub mod Dividing
pub mod Serving
-- Which terms are one element.
pub mod Elements
