-- Rows of bytes; laws of tests, of numbers and of lists.
pub mod Bytes
pub mod Cases
pub mod Each
pub mod In
pub mod InFront
