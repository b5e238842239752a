-- What the contracts of the list say.
pub mod Contract
