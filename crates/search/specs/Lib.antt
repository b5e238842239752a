-- What the contract of the search says.
pub mod Contract
