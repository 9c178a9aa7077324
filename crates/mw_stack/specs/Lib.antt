-- The arguments that an operator has on the stack, and what a term adds to them.
pub mod Own
-- Where a term that waits stands among them.
pub mod Places
-- Terms in order, in which another is looked for.
pub mod Runs
-- What is not seen under an operator.
pub mod Hidden
