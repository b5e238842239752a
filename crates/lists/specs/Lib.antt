-- What is said of lists everywhere, to be read in this order.
pub mod Lists
pub mod Bytes
pub mod Words
