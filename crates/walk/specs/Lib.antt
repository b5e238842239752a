-- What the contracts of the walk say, to be read in this order: the contract of `best_of` and `ties_of`, then those of the functions below
-- them.
pub mod Contract
pub mod Plan
pub mod Meter
pub mod Rules
pub mod Best
pub mod Kept
pub mod Ends
pub mod Node
pub mod Walk
pub mod Solve
