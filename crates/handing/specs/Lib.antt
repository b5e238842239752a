-- What `maxsat` prints, to be read in this order.
pub mod Handed
pub mod Contract
pub mod Table
