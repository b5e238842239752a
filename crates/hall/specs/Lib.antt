-- Document 01, with what document 02 changed in it, to be read in this order. Earlier has what request 3 replaced.
pub mod Hall
pub mod Order
pub mod Settings
pub mod Walk
pub mod Ties
pub mod Ranges
pub mod Bound
pub mod Reading
pub mod Due
pub mod Answer
pub mod Demands
pub mod Listing
pub mod Table
pub mod TiesTable
pub mod Earlier
