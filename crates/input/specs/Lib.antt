-- What the contract of `read_input` says.
pub mod Input
