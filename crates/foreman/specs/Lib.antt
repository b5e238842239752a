-- What `ties` prints, to be read in this order.
pub mod Printed
pub mod Contract
pub mod Table
