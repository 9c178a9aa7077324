-- Written objects, and what their class constants and attributes are.
pub mod Objects
-- Completed rules.
pub mod Completion
-- What the code keeps of written objects.
pub mod Seen
-- Classes of a signature.
pub mod Workable
-- Causes of errors.
pub mod Causes
-- What completion keeps of a statement.
pub mod Laws
-- Object modules.
pub mod Declaring
