-- The laws, in the order of the argument.
pub mod Marks
pub mod Runs
pub mod Chunks
pub mod Standing
pub mod Writing
pub mod Next
pub mod Putting
