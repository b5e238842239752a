-- "Sheets typed as text", to be read in this order.
pub mod Text
pub mod Next
pub mod Allowed
pub mod Reasons
pub mod Answer
pub mod Table
pub mod Printing
pub mod Steps
