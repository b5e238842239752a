-- The laws behind the proofs, in the order of the argument.
pub mod Codes
pub mod Costs
pub mod Unmet
pub mod Ends
pub mod Nodes
pub mod Prices
pub mod Noting
pub mod Openings
pub mod Steps
pub mod Solves
pub mod Calls
pub mod Outcomes
