-- Rule files, to be read in this order.
pub mod Stage
pub mod File
pub mod Standing
pub mod Reasons
pub mod Contract
pub mod Written
pub mod Table
pub mod Steps
