-- What the contracts of the reader say, to be read in this order.
pub mod Coded
pub mod Word
pub mod Check
pub mod Placed
pub mod Contract
