-- What is printed, and where it stands, to be read in this order.
pub mod Lines
pub mod Contract
