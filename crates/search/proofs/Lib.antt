-- The laws behind the proofs, in the order of the argument.
pub mod Finds
pub mod Calls
pub mod Only
