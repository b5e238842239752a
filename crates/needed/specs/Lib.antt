-- What the contracts say, to be read in this order: the contract of `read`, then those of the functions below it.
pub mod Loaded
pub mod Rules
pub mod Contract
pub mod Leaving
